-- Slices and rules have no fault exactly where they are a policy.
use Rattle.std.proofs.Common.{◌≡◌, ◌↔◌, ℕ, ◌+◌, ◌<◌, ◌≤◌, ◌^◌, Bool, true, false, ◌&&◌, nat_lt, List, [], ◌∷◌, length, get_or, take, map, find, All, AllPairs, count_by, bytes_eq, IfSome, Option, Some, None, option_map, Ok, Err, refl, sym, ap, ◌∙◌, arith, inl, inr}
use Rattle.std.proofs.lemmas.Bool.{cases_Bool, cases_lt, and_parts, and_from, cond-true, cond-false, false_from_ne_true, ltb-false, ltb-true, lt-ltb, le-ltb, ne_eqb}
use Rattle.std.proofs.lemmas.List.{get_or-take, get_or_default, get_or-map, length-map, length-take-le}
use Rattle.std.proofs.lemmas.List.Elements.{All-head, All-tail}
use Rattle.std.proofs.lemmas.List.Folds.{list_any_at, list_any_none}
use Rattle.std.proofs.lemmas.List.Sorted.{All-permutation}
use Rattle.std.proofs.lemmas.Slice.Eq.{bytes_eq-Decides}
use Rattle.of10_model.specs.Normal.{is_value, IsInRange}
use Rattle.flowspace.specs.declared.slices.Slice.{Slice}
use Rattle.flowspace.specs.declared.rules.Rule.{Rule}
use Rattle.flowspace.specs.declared.order.FiledRule.{FiledRule}
use Rattle.flowspace.specs.declared.fault.What.{What}
use Rattle.flowspace.specs.declared.fault.What.TheVariants.{Slices, Rules, Writes}
use Rattle.flowspace.specs.declared.fault.PolicyFault.{PolicyFault}
use Rattle.flowspace.specs.Slices.{IsPlainSlice}
use Rattle.flowspace.specs.Rules.{IsPlainRule, is_written_by, is_slot_or_none, is_own_reader, is_refused, Yields}
use Rattle.flowspace.specs.Order.{ranked, in_order, IsAccepted}
use Rattle.flowspace.specs.Policies.{IsPolicy, AreNormal}
use Rattle.flowspace.specs.Faults.{NamesDiffer, IsSoundRule}
use Rattle.flowspace.specs.Options.{first_some}
use Rattle.flowspace.specs.Loading.{first_along, excess, name_fault, rule_fault, writes_fault, filed, filed_in_order, overlap_fault, fault_of, load_of}
use Rattle.flowspace.proofs.Ranking.{map-ranked}
use Rattle.flowspace.proofs.Ordering.{rank_of, IsPermutation-in_order}
use Rattle.flowspace.proofs.Along.{option_map-None, none_along, along_none, find-None, None-find}
use Rattle.flowspace.proofs.Refusing.{Yields-is_refused, is_refused-Yields}

-- ---- counts

pub excess-None : (what : What) (limit count : ℕ) → excess what limit count ≡ None → count ≤ limit
excess-None what limit count e =
    elim (cases_Bool (nat_lt limit count)) [
      | inl more ↦ let clash = sym (cond-true (nat_lt limit count) _ _ more) ∙ e in absurd (cc)
      | inr few ↦ ltb-false limit count few
    ]

pub None-excess : (what : What) (limit count : ℕ) → count ≤ limit → excess what limit count ≡ None
None-excess what limit count le = cond-false (nat_lt limit count) _ _ (le-ltb limit count le)

-- ---- names

pub names_differ : (ss : List Slice) → first_along name_fault [] ss ≡ None → NamesDiffer ss
names_differ ss e = λ i j d lt long. λ same.
    let none : name_fault (take j ss) (get_or ss j d) ≡ None = none_along name_fault [] ss e j d long in
    let len : length (take j ss) ≡ j = length-take-le j ss (omega arith) in
    let at_i : get_or (take j ss) i d ≡ get_or ss i d = get_or-take j ss i d lt in
    let equal : bytes_eq (get_or (take j ss) i d).name (get_or ss j d).name ≡ true =
    (bytes_eq-Decides (get_or (take j ss) i d).name (get_or ss j d).name).1 (ap (λ s. s.name) at_i ∙ same) in
    let found = list_any_at (λ earlier. bytes_eq earlier.name (get_or ss j d).name) (take j ss) i d (omega arith) equal in
    let clash = sym (cond-true _ _ _ found) ∙ none in
    absurd (cc)

no_name_twice : (ss : List Slice) → NamesDiffer ss → first_along name_fault [] ss ≡ None
no_name_twice ss differ =
    along_none name_fault [] ss (λ j d long.
    cond-false _ _ _ (list_any_none (λ earlier. bytes_eq earlier.name (get_or ss j d).name) (take j ss) (λ i e lt.
    let len : length (take j ss) ≡ j = length-take-le j ss (omega arith) in
    let before : i < j = omega arith in
    let at_i : get_or (take j ss) i e ≡ get_or ss i e = get_or-take j ss i e before in
    false_from_ne_true _ (λ t. differ i j e before long
    (sym (ap (λ s. s.name) at_i) ∙ (bytes_eq-Decides (get_or (take j ss) i e).name (get_or ss j d).name).0 t ∙ ap (λ s. s.name) (get_or_default ss j d e long))))))

-- ---- slots

pub IfSome-is_slot : (count : ℕ) (o : Option ℕ) → is_slot_or_none count o ≡ true → IfSome o (λ w. w < count)
IfSome-is_slot count None e = tt
IfSome-is_slot count (Some w) e = ltb-true w count e

pub is_slot-IfSome : (count : ℕ) (o : Option ℕ) → IfSome o (λ w. w < count) → is_slot_or_none count o ≡ true
is_slot-IfSome count None h = refl
is_slot-IfSome count (Some w) h = lt-ltb w count h

-- a rule without a fault is sound
IsSound-rule_fault : (slots : ℕ) (before : List Rule) (rule : Rule) → rule_fault slots before rule ≡ None → IsSoundRule slots rule
IsSound-rule_fault slots before rule e =
    elim (cases_Bool (is_slot_or_none slots rule.writer && nat_lt rule.readers (2 ^ slots))) [
      | inr unknown ↦ let clash = sym (cond-false _ _ _ unknown) ∙ e in absurd (cc)
      | inl known ↦
          let parts = and_parts (is_slot_or_none slots rule.writer) (nat_lt rule.readers (2 ^ slots)) known in
          let inner = sym (cond-true _ _ _ known) ∙ e in
          elim (cases_Bool (is_own_reader rule)) [
            | inl own ↦ let clash = sym (cond-true (is_own_reader rule) _ _ own) ∙ inner in absurd (cc)
            | inr apart ↦
                (record { writer_known = IfSome-is_slot slots rule.writer parts.0; readers_known = ltb-true rule.readers (2 ^ slots) parts.1 }, apart)
          ]
    ]

rule_fault-IsSound : (slots : ℕ) (before : List Rule) (rule : Rule) → IsSoundRule slots rule → rule_fault slots before rule ≡ None
rule_fault-IsSound slots before rule sound =
    cond-true _ _ _ (and_from (is_slot_or_none slots rule.writer) (nat_lt rule.readers (2 ^ slots)) (is_slot-IfSome slots rule.writer sound.0.writer_known) (lt-ltb rule.readers (2 ^ slots) sound.0.readers_known))
    ∙ cond-false (is_own_reader rule) _ _ sound.1

pub sound_rules : (slots : ℕ) (rs : List Rule) → first_along (rule_fault slots) [] rs ≡ None → All (IsSoundRule slots) rs
sound_rules slots rs e = λ k d lt. IsSound-rule_fault slots (take k rs) (get_or rs k d) (none_along (rule_fault slots) [] rs e k d lt)

no_rule_fault : (slots : ℕ) (rs : List Rule) → All (IsSoundRule slots) rs → first_along (rule_fault slots) [] rs ≡ None
no_rule_fault slots rs sound = along_none (rule_fault slots) [] rs (λ k d lt. rule_fault-IsSound slots (take k rs) (get_or rs k d) (sound k d lt))

-- ---- rules of one slice

is_written_by-past : (slots slot : ℕ) (o : Option ℕ) → slots ≤ slot → IfSome o (λ w. w < slots) → is_value slot o ≡ false
is_written_by-past slots slot None le h = refl
is_written_by-past slots slot (Some w) le h = ne_eqb w slot (λ e. omega arith)

none_counted : (p : Rule → Bool) (rs : List Rule) → All (λ r. p r ≡ false) rs → count_by p rs ≡ 0
none_counted p [] h = refl
none_counted p (r ∷ rs) h = rw (All-head (λ r. p r ≡ false) r rs h, none_counted p rs (All-tail (λ r. p r ≡ false) r rs h)) refl

pub few_writes : (ss : List Slice) (rs : List Rule) → All (IsSoundRule (length ss)) rs → first_along (writes_fault rs) [] ss ≡ None → (slot : ℕ) → count_by (is_written_by slot) rs ≤ 256
few_writes [] rs sound e slot =
    let none = none_counted (is_written_by slot) rs (λ k d lt. is_written_by-past 0 slot (get_or rs k d).writer (omega arith) (sound k d lt).0.writer_known) in omega arith
few_writes (s ∷ ss) rs sound e slot =
    elim (cases_lt slot (length (s ∷ ss))) [
      | inl lt ↦
          let len : length (take slot (s ∷ ss)) ≡ slot = length-take-le slot (s ∷ ss) (omega arith) in
          let few = excess-None Writes 256 (count_by (is_written_by (length (take slot (s ∷ ss)))) rs) (none_along (writes_fault rs) [] (s ∷ ss) e slot s lt) in
          rw len at few
      | inr le ↦
          let none = none_counted (is_written_by slot) rs (λ k d lt. is_written_by-past (length (s ∷ ss)) slot (get_or rs k d).writer le (sound k d lt).0.writer_known) in omega arith
    ]

no_writes_fault : (ss : List Slice) (rs : List Rule) → ((slot : ℕ) → count_by (is_written_by slot) rs ≤ 256) → first_along (writes_fault rs) [] ss ≡ None
no_writes_fault ss rs few = along_none (writes_fault rs) [] ss (λ k d lt. None-excess Writes 256 _ (few (length (take k ss))))

-- ---- overlaps

abbrev rule_in : FiledRule → Rule
rule_in filed = filed.rule

map-filed : (n : ℕ) (rs : List Rule) → map rule_in (filed n rs) ≡ rs
map-filed n [] = refl
map-filed n (r ∷ rs) = ap (λ l. r ∷ l) (map-filed (n + 1) rs)

-- without their places they are the rules in rule order
pub map-filed_in_order : (rs : List Rule) → map rule_in (filed_in_order rs) ≡ in_order rs
map-filed_in_order rs = map-ranked rule_in rank_of (filed 0 rs) ∙ ap (ranked rank_of) (map-filed 0 rs)

-- no rule is refused beside an earlier one
abbrev AreKept : List FiledRule → Type 0
AreKept fs = AllPairs (λ a b. is_refused a.rule b.rule ≡ false) fs

kept_rules : (fs : List FiledRule) → first_along overlap_fault [] fs ≡ None → AreKept fs
kept_rules fs e = λ i j d lt long.
    let none : overlap_fault (take j fs) (get_or fs j d) ≡ None = none_along overlap_fault [] fs e j d long in
    let absent = option_map-None _ (find (λ earlier. is_refused earlier.rule (get_or fs j d).rule) (take j fs)) none in
    let len : length (take j fs) ≡ j = length-take-le j fs (omega arith) in
    let fails = find-None (λ earlier. is_refused earlier.rule (get_or fs j d).rule) (take j fs) absent i d (omega arith) in
    rw (get_or-take j fs i d lt) at fails

no_overlap : (fs : List FiledRule) → AreKept fs → first_along overlap_fault [] fs ≡ None
no_overlap fs kept =
    along_none overlap_fault [] fs (λ j d long.
    ap (option_map _) (None-find (λ earlier. is_refused earlier.rule (get_or fs j d).rule) (take j fs) (λ i e lt.
    let len : length (take j fs) ≡ j = length-take-le j fs (omega arith) in
    let before : i < j = omega arith in
    rw (get_or-take j fs i e before, get_or_default fs j d e long) (kept i j e before long))))

filed_as : Rule → FiledRule
filed_as r = record { place = 0; rule = r }

accepted_rules : (rs : List Rule) → AreKept (filed_in_order rs) → IsAccepted rs
accepted_rules rs kept =
    let fs = filed_in_order rs in
    let pairs : AllPairs Yields (map rule_in fs) =
    λ i j d lt long.
    let within : j < length fs = rw (length-map fs rule_in) at long in
    rw (get_or-map rule_in fs i (filed_as d) d (omega arith), get_or-map rule_in fs j (filed_as d) d within)
    (Yields-is_refused (get_or fs i (filed_as d)).rule (get_or fs j (filed_as d)).rule (kept i j (filed_as d) lt within)) in
    rw (map-filed_in_order rs) at pairs

-- the rules have matches in range
abbrev pub AreInRange : List Rule → Type 0
AreInRange rs = All (λ r. IsInRange r.pattern) rs

kept_filed : (rs : List Rule) → AreInRange rs → IsAccepted rs → AreKept (filed_in_order rs)
kept_filed rs ranges accepted =
    let fs = filed_in_order rs in
    let pairs : AllPairs Yields (map rule_in fs) = rw (map-filed_in_order rs) accepted in
    let ordered : AreInRange (map rule_in fs) = rw (map-filed_in_order rs) (All-permutation (λ r. IsInRange r.pattern) rs (in_order rs) (IsPermutation-in_order rs) ranges) in
    λ i j d lt long.
    let within : j < length (map rule_in fs) = rw (length-map fs rule_in) long in
    let at_i = get_or-map rule_in fs i d d.rule (omega arith) in
    let at_j = get_or-map rule_in fs j d d.rule long in
    is_refused-Yields (get_or fs i d).rule (get_or fs j d).rule
    (rw at_i at (ordered i d.rule (omega arith)))
    (rw at_j at (ordered j d.rule within))
    (rw (at_i, at_j) at (pairs i j d.rule lt within))

-- ---- all together

-- none of the six checks finds a fault
record IsFaultless (ss : List Slice) (rs : List Rule) : Type 0 where
  few_slices : excess Slices 32 (length ss) ≡ None
  few_rules : excess Rules 2048 (length rs) ≡ None
  names : first_along name_fault [] ss ≡ None
  sound : first_along (rule_fault (length ss)) [] rs ≡ None
  writes : first_along (writes_fault rs) [] ss ≡ None
  overlaps : first_along overlap_fault [] (filed_in_order rs) ≡ None

six_None : (a b c d e f : Option PolicyFault) → first_some (a ∷ b ∷ c ∷ d ∷ e ∷ f ∷ []) ≡ None → (a ≡ None) × (b ≡ None) × (c ≡ None) × (d ≡ None) × (e ≡ None) × (f ≡ None)
six_None None None None None None None h = (refl, refl, refl, refl, refl, refl)
six_None None None None None None (Some x) h = absurd (cc)
six_None None None None None (Some x) f h = absurd (cc)
six_None None None None (Some x) e f h = absurd (cc)
six_None None None (Some x) d e f h = absurd (cc)
six_None None (Some x) c d e f h = absurd (cc)
six_None (Some x) b c d e f h = absurd (cc)

IsFaultless-fault_of : (ss : List Slice) (rs : List Rule) → fault_of ss rs ≡ None → IsFaultless ss rs
unfolding fault_of
IsFaultless-fault_of ss rs h =
    let each = six_None (excess Slices 32 (length ss)) (excess Rules 2048 (length rs)) (first_along name_fault [] ss) (first_along (rule_fault (length ss)) [] rs) (first_along (writes_fault rs) [] ss) (first_along overlap_fault [] (filed_in_order rs)) h in
    record {
      few_slices = each.0;
      few_rules = each.1;
      names = each.2;
      sound = each.3;
      writes = each.4;
      overlaps = each.5;
    }

fault_of-IsFaultless : (ss : List Slice) (rs : List Rule) → IsFaultless ss rs → fault_of ss rs ≡ None
unfolding fault_of
fault_of-IsFaultless ss rs h = rw (h.few_slices, h.few_rules, h.names, h.sound, h.writes, h.overlaps) refl

-- what has no fault is a policy
pub IsPolicy-fault_of : (ss : List Slice) (rs : List Rule) → 1 ≤ length ss → All IsPlainSlice ss → All IsPlainRule rs → fault_of ss rs ≡ None → IsPolicy ss rs
IsPolicy-fault_of ss rs some plain_slices plain_rules h =
    let clear = IsFaultless-fault_of ss rs h in
    let sound = sound_rules (length ss) rs clear.sound in
    record {
      proper = record {
        some_slice = some;
        few_slices = excess-None Slices 32 (length ss) clear.few_slices;
        few_rules = excess-None Rules 2048 (length rs) clear.few_rules;
        plain_slices = plain_slices;
        plain_rules = plain_rules;
        names_differ = names_differ ss clear.names;
        writers_known = λ k d lt. (sound k d lt).0.writer_known;
        readers_known = λ k d lt. (sound k d lt).0.readers_known;
        readers_apart = λ k d lt. (sound k d lt).1;
        few_writes = few_writes ss rs sound clear.writes;
      };
      accepted = accepted_rules rs (kept_rules (filed_in_order rs) clear.overlaps);
    }

-- a policy has no fault
pub fault_of-IsPolicy : (ss : List Slice) (rs : List Rule) → AreInRange rs → IsPolicy ss rs → fault_of ss rs ≡ None
fault_of-IsPolicy ss rs ranges h =
    fault_of-IsFaultless ss rs (record {
      few_slices = None-excess Slices 32 (length ss) h.proper.few_slices;
      few_rules = None-excess Rules 2048 (length rs) h.proper.few_rules;
      names = no_name_twice ss h.proper.names_differ;
      sound = no_rule_fault (length ss) rs (λ k d lt. (record { writer_known = h.proper.writers_known k d lt; readers_known = h.proper.readers_known k d lt }, h.proper.readers_apart k d lt));
      writes = no_writes_fault ss rs h.proper.few_writes;
      overlaps = no_overlap (filed_in_order rs) (kept_filed rs ranges h.accepted);
    })

by_fault : (ss : List Slice) (rs : List Rule) (o : Option PolicyFault) → fault_of ss rs ≡ o
    → (load_of ss rs ≡ Ok (record { slices = ss; rules = rs; swaps = [] })) ↔ (o ≡ None)
by_fault ss rs None e = (λ h. refl, λ h. rw (e, load_of) refl)
by_fault ss rs (Some fault) e =
    (λ h. let clash : Err fault ≡ Ok (record { slices = ss; rules = rs; swaps = [] }) = rw (e, load_of) at h in absurd (cc), λ h. absurd (cc))

-- what is loaded is a policy, and a policy is loaded
pub load_of-iff : (ss : List Slice) (rs : List Rule) → 1 ≤ length ss → All IsPlainSlice ss → All IsPlainRule rs → AreNormal rs
    → (load_of ss rs ≡ Ok (record { slices = ss; rules = rs; swaps = [] })) ↔ IsPolicy ss rs
load_of-iff ss rs some plain_slices plain_rules normal =
    let iff = by_fault ss rs (fault_of ss rs) refl in (
      λ h. IsPolicy-fault_of ss rs some plain_slices plain_rules (iff.0 h),
      λ h. iff.1 (fault_of-IsPolicy ss rs (λ k d lt. (normal k d lt).0) h),
    )
