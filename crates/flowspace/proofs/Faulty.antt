-- The first fault in words of the slices and rules.
use Rattle.std.proofs.Common.{◌≡◌, ◌⊎◌, ℕ, ◌<◌, ◌≤◌, ◌^◌, ◌&&◌, nat_lt, IsTrue, List, [], ◌∷◌, length, get_or, take, find, slice_get, Any, count_by, bytes_eq, Option, Some, None, option_map, Err, refl, sym, ◌∙◌, arith, inl, inr}
use Rattle.std.specs.List.{list_any}
use Rattle.std.proofs.lemmas.Bool.{cases_Bool, and_parts, and_from, cond-true, cond-false, true≢false, ltb-true, lt-ltb}
use Rattle.std.proofs.lemmas.List.{get_or-take, length-take-le, take-take}
use Rattle.std.proofs.lemmas.List.Folds.{Any-from_list_any}
use Rattle.std.proofs.lemmas.Option.{slice_get-get_or}
use Rattle.std.proofs.lemmas.Slice.Eq.{bytes_eq-Decides}
use Rattle.flowspace.specs.declared.slices.Slice.{Slice}
use Rattle.flowspace.specs.declared.rules.Rule.{Rule}
use Rattle.flowspace.specs.declared.order.FiledRule.{FiledRule}
use Rattle.flowspace.specs.declared.fault.What.{What}
use Rattle.flowspace.specs.declared.fault.What.TheVariants.{Slices, Rules, Writes}
use Rattle.flowspace.specs.declared.fault.Field.TheVariants.{Read}
use Rattle.flowspace.specs.declared.fault.PolicyFault.{PolicyFault}
use Rattle.flowspace.specs.declared.fault.PolicyFault.TheVariants.{TooMany, DuplicateSlice, UnknownSlice, Improper, Overlap}
use Rattle.flowspace.specs.Rules.{is_written_by, is_slot_or_none, is_own_reader, is_refused}
use Rattle.flowspace.specs.Policies.{AreNormal}
use Rattle.flowspace.specs.Faults.{AreWithinLimits, NamesSlots, IsFirstRepeat, IsFirstUnknown, IsFirstOwnReader, IsFirstFull, IsFirstPolicyFault}
use Rattle.flowspace.specs.Options.{first_some}
use Rattle.flowspace.specs.Loading.{first_along, excess, name_fault, rule_fault, writes_fault, filed_in_order, overlap_fault, fault_of, load_of}
use Rattle.flowspace.proofs.Along.{along_none, some_along}
use Rattle.flowspace.proofs.Accepting.{excess-None, names_differ, IfSome-is_slot, is_slot-IfSome, sound_rules, few_writes}
use Rattle.flowspace.proofs.Overlapping.{refused_load, IsFirstOverlap-load_of}

-- ---- the check that finds the fault

-- one of six finds it, and none of those before it finds any
abbrev FirstOfSix : (a b c d e f : Option PolicyFault) → PolicyFault → Type 0
FirstOfSix a b c d e f fault =
    (a ≡ Some fault) ⊎ ((a ≡ None) × ((b ≡ Some fault) ⊎ ((b ≡ None) × ((c ≡ Some fault) ⊎ ((c ≡ None) × ((d ≡ Some fault) ⊎ ((d ≡ None) × ((e ≡ Some fault) ⊎ ((e ≡ None) × (f ≡ Some fault))))))))))

six_Some : (a b c d e f : Option PolicyFault) (fault : PolicyFault) → first_some (a ∷ b ∷ c ∷ d ∷ e ∷ f ∷ []) ≡ Some fault → FirstOfSix a b c d e f fault
six_Some (Some x) b c d e f fault h = inl h
six_Some None (Some x) c d e f fault h = inr (refl, inl h)
six_Some None None (Some x) d e f fault h = inr (refl, inr (refl, inl h))
six_Some None None None (Some x) e f fault h = inr (refl, inr (refl, inr (refl, inl h)))
six_Some None None None None (Some x) f fault h = inr (refl, inr (refl, inr (refl, inr (refl, inl h))))
six_Some None None None None None (Some x) fault h = inr (refl, inr (refl, inr (refl, inr (refl, inr (refl, h)))))
six_Some None None None None None None fault h = absurd (cc)

found_by : (ss : List Slice) (rs : List Rule) (fault : PolicyFault) → fault_of ss rs ≡ Some fault
    → FirstOfSix (excess Slices 32 (length ss)) (excess Rules 2048 (length rs)) (first_along name_fault [] ss) (first_along (rule_fault (length ss)) [] rs) (first_along (writes_fault rs) [] ss) (first_along overlap_fault [] (filed_in_order rs)) fault
unfolding fault_of
found_by ss rs fault h =
    six_Some (excess Slices 32 (length ss)) (excess Rules 2048 (length rs)) (first_along name_fault [] ss) (first_along (rule_fault (length ss)) [] rs) (first_along (writes_fault rs) [] ss) (first_along overlap_fault [] (filed_in_order rs)) fault h

-- ---- what each check finds

pub excess-Some : (what : What) (limit count : ℕ) (fault : PolicyFault) → excess what limit count ≡ Some fault → (limit < count) × (TooMany what count ≡ fault)
excess-Some what limit count fault e =
    elim (cases_Bool (nat_lt limit count)) [
      | inl more ↦ let same : Some (TooMany what count) ≡ Some fault = sym (cond-true (nat_lt limit count) _ _ more) ∙ e in (ltb-true limit count more, cc)
      | inr few ↦ let clash = sym (cond-false (nat_lt limit count) _ _ few) ∙ e in absurd (cc)
    ]

name_fault-Some : (before : List Slice) (slice : Slice) (fault : PolicyFault) → name_fault before slice ≡ Some fault
    → Any (λ s. s.name ≡ slice.name) before × (DuplicateSlice (length before) ≡ fault)
name_fault-Some before slice fault e =
    elim (cases_Bool (list_any (λ earlier. bytes_eq earlier.name slice.name) before)) [
      | inl twice ↦
          let same : Some (DuplicateSlice (length before)) ≡ Some fault = sym (cond-true _ _ _ twice) ∙ e in
          let found = Any-from_list_any (λ earlier. bytes_eq earlier.name slice.name) before twice in
          ((found.0, found.1, found.2, found.3, (bytes_eq-Decides found.1.name slice.name).0 found.4), cc)
      | inr once ↦ let clash = sym (cond-false _ _ _ once) ∙ e in absurd (cc)
    ]

rule_fault-Some : (slots : ℕ) (before : List Rule) (rule : Rule) (fault : PolicyFault) → rule_fault slots before rule ≡ Some fault
    → ((NamesSlots slots rule → ⊥) × (UnknownSlice (length before) ≡ fault)) ⊎ (NamesSlots slots rule × IsTrue (is_own_reader rule) × (Improper (length before) Read ≡ fault))
rule_fault-Some slots before rule fault e =
    elim (cases_Bool (is_slot_or_none slots rule.writer && nat_lt rule.readers (2 ^ slots))) [
      | inr unknown ↦
          let same : Some (UnknownSlice (length before)) ≡ Some fault = sym (cond-false _ _ _ unknown) ∙ e in
          inl (
            λ names.
                let known = and_from (is_slot_or_none slots rule.writer) (nat_lt rule.readers (2 ^ slots)) (is_slot-IfSome slots rule.writer names.writer_known) (lt-ltb rule.readers (2 ^ slots) names.readers_known) in
                true≢false (sym known ∙ unknown),
            cc,
          )
      | inl known ↦
          let parts = and_parts (is_slot_or_none slots rule.writer) (nat_lt rule.readers (2 ^ slots)) known in
          let inner = sym (cond-true _ _ _ known) ∙ e in
          elim (cases_Bool (is_own_reader rule)) [
            | inl own ↦
                let same : Some (Improper (length before) Read) ≡ Some fault = sym (cond-true (is_own_reader rule) _ _ own) ∙ inner in
                inr (record { writer_known = IfSome-is_slot slots rule.writer parts.0; readers_known = ltb-true rule.readers (2 ^ slots) parts.1 }, own, cc)
            | inr apart ↦ let clash = sym (cond-false (is_own_reader rule) _ _ apart) ∙ inner in absurd (cc)
          ]
    ]

overlap_form : (later : FiledRule) (o : Option FiledRule) (fault : PolicyFault) → option_map (λ earlier. Overlap earlier.place later.place) o ≡ Some fault
    → (first : ℕ) × (second : ℕ) × (Overlap first second ≡ fault)
overlap_form later None fault e = absurd (cc)
overlap_form later (Some earlier) fault e = (earlier.place, later.place, cc)

-- ---- the first of a list

-- what holds of each element before a place, beside those before that, holds in the list cut off there
pub fine_before : {A : Type 0} (check : List A → A → Option PolicyFault) (xs : List A) (place : ℕ) → place ≤ length xs
    → ((k : ℕ) (d : A) → k < place → check (take k xs) (get_or xs k d) ≡ None)
    → first_along check [] (take place xs) ≡ None
fine_before check xs place le fine =
    along_none check [] (take place xs) (λ k d lt.
    let len : length (take place xs) ≡ place = length-take-le place xs le in
    let before : k < place = omega arith in
    rw (take-take k place xs (omega arith), get_or-take place xs k d before) (fine k d before))

pub there : {A : Type 0} (xs : List A) (place : ℕ) (x : A) → place < length xs → get_or xs place x ≡ x → slice_get xs place ≡ Some x
there xs place x lt is = slice_get-get_or xs place x lt ∙ (let same = is in cc)

first_repeat : (ss : List Slice) (fault : PolicyFault) → first_along name_fault [] ss ≡ Some fault → (place : ℕ) × IsFirstRepeat ss place × (DuplicateSlice place ≡ fault)
first_repeat ss fault e =
    let at_fault = some_along name_fault [] ss fault e in
    let within : at_fault.place ≤ length ss = let lt = at_fault.within in omega arith in
    let found = name_fault-Some (take at_fault.place ss) at_fault.element fault at_fault.has_fault in (
      at_fault.place,
      record {
        slice = at_fault.element;
        is_there = there ss at_fault.place at_fault.element at_fault.within at_fault.is_there;
        earlier = found.0;
        is_first = names_differ (take at_fault.place ss) (fine_before name_fault ss at_fault.place within at_fault.is_first);
      },
      rw (length-take-le at_fault.place ss within) at found.1,
    )

abbrev FirstUnsound : ℕ → List Rule → PolicyFault → ℕ → Type 0
FirstUnsound slots rs fault place = (IsFirstUnknown slots rs place × (UnknownSlice place ≡ fault)) ⊎ (IsFirstOwnReader slots rs place × (Improper place Read ≡ fault))

first_unsound : (slots : ℕ) (rs : List Rule) (fault : PolicyFault) → first_along (rule_fault slots) [] rs ≡ Some fault → (place : ℕ) × FirstUnsound slots rs fault place
first_unsound slots rs fault e =
    let at_fault = some_along (rule_fault slots) [] rs fault e in
    let within : at_fault.place ≤ length rs = let lt = at_fault.within in omega arith in
    let len = length-take-le at_fault.place rs within in
    let is_there = there rs at_fault.place at_fault.element at_fault.within at_fault.is_there in
    let sound = sound_rules slots (take at_fault.place rs) (fine_before (rule_fault slots) rs at_fault.place within at_fault.is_first) in (
      at_fault.place,
      elim (rule_fault-Some slots (take at_fault.place rs) at_fault.element fault at_fault.has_fault) [
        | inl unknown ↦ inl (record { rule = at_fault.element; is_there = is_there; unknown = unknown.0; is_first = sound }, rw len at unknown.1)
        | inr own ↦ inr (record { rule = at_fault.element; is_there = is_there; known = own.0; own = own.1; is_first = sound }, rw len at own.2)
      ],
    )

first_full : (ss : List Slice) (rs : List Rule) (fault : PolicyFault) → first_along (writes_fault rs) [] ss ≡ Some fault → (count : ℕ) × IsFirstFull ss rs count × (TooMany Writes count ≡ fault)
first_full ss rs fault e =
    let at_fault = some_along (writes_fault rs) [] ss fault e in
    let within : at_fault.place ≤ length ss = let lt = at_fault.within in omega arith in
    let found = excess-Some Writes 256 (count_by (is_written_by (length (take at_fault.place ss))) rs) fault at_fault.has_fault in (
      count_by (is_written_by at_fault.place) rs,
      record {
        slot = at_fault.place;
        is_slot = at_fault.within;
        counted = refl;
        too_many = rw (length-take-le at_fault.place ss within) at found.0;
        is_first = λ k lt.
            let few = excess-None Writes 256 (count_by (is_written_by (length (take k ss))) rs) (at_fault.is_first k at_fault.element lt) in
            rw (length-take-le k ss (omega arith)) at few;
      },
      rw (length-take-le at_fault.place ss within) at found.1,
    )

first_pair : (rs : List Rule) (fault : PolicyFault) → first_along overlap_fault [] (filed_in_order rs) ≡ Some fault → (first : ℕ) × (second : ℕ) × (Overlap first second ≡ fault)
first_pair rs fault e =
    let at_fault = some_along overlap_fault [] (filed_in_order rs) fault e in
    overlap_form at_fault.element (find (λ earlier. is_refused earlier.rule at_fault.element.rule) (take at_fault.place (filed_in_order rs))) fault at_fault.has_fault

-- ---- all together

pub IsFirstFault-load_of : (ss : List Slice) (rs : List Rule) (fault : PolicyFault) → AreNormal rs → load_of ss rs ≡ Err fault → IsFirstPolicyFault ss rs fault
IsFirstFault-load_of ss rs fault normal e =
    elim (found_by ss rs fault (refused_load ss rs fault (fault_of ss rs) refl e)) [
      | inl a ↦ let found = excess-Some Slices 32 (length ss) fault a in rw (← found.1) (refl, found.0)
      | inr after_a ↦
          let few_slices = excess-None Slices 32 (length ss) after_a.0 in
          elim after_a.1 [
            | inl b ↦ let found = excess-Some Rules 2048 (length rs) fault b in rw (← found.1) (few_slices, refl, found.0)
            | inr after_b ↦
                let few : AreWithinLimits ss rs = (few_slices, excess-None Rules 2048 (length rs) after_b.0) in
                elim after_b.1 [
                  | inl c ↦ let found = first_repeat ss fault c in rw (← found.2) (few, found.1)
                  | inr after_c ↦
                      let differ = names_differ ss after_c.0 in
                      elim after_c.1 [
                        | inl d ↦
                            let found = first_unsound (length ss) rs fault d in
                            elim found.1 [
                              | inl unknown ↦ rw (← unknown.1) (few, differ, unknown.0)
                              | inr own ↦ rw (← own.1) (few, differ, own.0)
                            ]
                        | inr after_d ↦
                            let sound = sound_rules (length ss) rs after_d.0 in
                            elim after_d.1 [
                              | inl w ↦ let found = first_full ss rs fault w in rw (← found.2) (few, differ, sound, found.1)
                              | inr after_e ↦
                                  let pair = first_pair rs fault after_e.1 in
                                  let overlap = IsFirstOverlap-load_of ss rs pair.0 pair.1 normal (rw (← pair.2) at e) in
                                  rw (← pair.2) (few, differ, sound, few_writes ss rs sound after_e.0, overlap)
                            ]
                      ]
                ]
          ]
    ]
