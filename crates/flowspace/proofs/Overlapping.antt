-- The two rules that an overlap names.
use Rattle.std.proofs.Common.{◌≡◌, ◌⊎◌, ℕ, zero, suc, ◌+◌, ◌<◌, ◌≤◌, true, false, leb, nat_lt, ◌&&◌, ◌^◌, bytes_eq, count_by, List, [], ◌∷◌, length, get_or, take, find, slice_get, All, AllPairs, Contains, Option, Some, None, option_map, Result, Ok, Err, refl, sym, ap, ◌∙◌, arith, inl, inr}
use Rattle.std.specs.List.{list_any}
use Rattle.std.proofs.lemmas.Bool.{cases_Bool, cases_lt, cases_order, leb-true, leb-false, true≢false, cond-true, cond-false}
use Rattle.std.proofs.lemmas.List.{get_or-take, get_or_default, length-take-le}
use Rattle.std.proofs.lemmas.List.Elements.{All-cons, All-head, All-tail}
use Rattle.std.proofs.lemmas.List.Kept.{AllPairs-cons}
use Rattle.std.proofs.lemmas.List.Sorted.{All-permutation, Contains-permutation}
use Rattle.of10_model.specs.Normal.{IsInRange, IsNormal}
use Rattle.of10_model.proofs.Pairs.{AllPairs-head, AllPairs-tail}
use Rattle.flowspace.specs.declared.slices.Slice.{Slice}
use Rattle.flowspace.specs.declared.rules.Rule.{Rule}
use Rattle.flowspace.specs.declared.order.FiledRule.{FiledRule}
use Rattle.flowspace.specs.declared.fault.PolicyFault.{PolicyFault}
use Rattle.flowspace.specs.declared.fault.PolicyFault.TheVariants.{Overlap}
use Rattle.flowspace.specs.declared.fault.What.{What}
use Rattle.flowspace.specs.declared.fault.What.TheVariants.{Slices, Rules, Writes}
use Rattle.flowspace.specs.Rules.{is_slot_or_none, is_own_reader, is_written_by, is_refused}
use Rattle.flowspace.specs.Order.{placed, ranked}
use Rattle.flowspace.specs.Policies.{PolicyView, AreNormal, ComesBefore, IsOverlap, IsFirstOverlap}
use Rattle.flowspace.specs.Options.{first_some}
use Rattle.flowspace.specs.Loading.{first_along, excess, name_fault, rule_fault, writes_fault, filed, filed_in_order, overlap_fault, fault_of, load_of}
use Rattle.flowspace.proofs.Ranking.{placed-here, placed-later, IsPermutation-placed, IsPermutation-ranked}
use Rattle.flowspace.proofs.Ordering.{filed_rank}
use Rattle.flowspace.proofs.Along.{some_along, FoundAt, find-None, find-Some, option_map-None}
use Rattle.flowspace.proofs.Refusing.{Refusal-is_refused, is_refused-ShareHeader}

-- ---- the order of filed rules

-- the first comes before the second in rule order
abbrev pub StandsBefore : FiledRule → FiledRule → Type 0
StandsBefore a b = (b.rule.priority < a.rule.priority) ⊎ ((b.rule.priority ≡ a.rule.priority) × (a.place < b.place))

no_higher : (a b : FiledRule) → StandsBefore a b → b.rule.priority ≤ a.rule.priority
no_higher a b (inl lt) = omega arith
no_higher a b (inr same) = let e = same.0 in omega arith

before_if : (a b : FiledRule) → b.rule.priority ≤ a.rule.priority → a.place < b.place → StandsBefore a b
before_if a b le lt = elim (cases_lt b.rule.priority a.rule.priority) [ inl less ↦ inl less | inr ge ↦ inr (omega arith, lt) ]

-- a rule whose priority is no lower than the first's, and whose place is before all of these, stands before them
before_all : (f g : FiledRule) (gs : List FiledRule) → g.rule.priority ≤ f.rule.priority → All (λ x. f.place < x.place) (g ∷ gs) → All (StandsBefore g) gs → All (StandsBefore f) (g ∷ gs)
before_all f g gs le after rest =
    All-cons (StandsBefore f) g gs (before_if f g le (All-head (λ x. f.place < x.place) g gs after))
    (λ k d lt.
    let less = no_higher g (get_or gs k d) (rest k d lt) in
    before_if f (get_or gs k d) (omega arith) (All-tail (λ x. f.place < x.place) g gs after k d lt))

-- a rule that stood before all of these in the file goes where it stands in rule order
AllPairs-placed : (f : FiledRule) (gs : List FiledRule) → All (λ g. f.place < g.place) gs → AllPairs StandsBefore gs → AllPairs StandsBefore (placed filed_rank f gs)
AllPairs-placed f [] after pairs = AllPairs-cons StandsBefore f [] (λ k d lt. absurd (omega arith)) pairs
AllPairs-placed f (g ∷ gs) after pairs =
    elim (cases_Bool (leb (filed_rank g) (filed_rank f))) [
      | inl here ↦
          rw (placed-here filed_rank f g gs here)
          (AllPairs-cons StandsBefore f (g ∷ gs) (before_all f g gs (leb-true (filed_rank g) (filed_rank f) here) after (AllPairs-head StandsBefore g gs pairs)) pairs)
      | inr later ↦
          rw (placed-later filed_rank f g gs later)
          (AllPairs-cons StandsBefore g (placed filed_rank f gs)
          (All-permutation (StandsBefore g) (f ∷ gs) (placed filed_rank f gs) (IsPermutation-placed filed_rank f gs)
          (All-cons (StandsBefore g) f gs (inl (leb-false (filed_rank g) (filed_rank f) later)) (AllPairs-head StandsBefore g gs pairs)))
          (AllPairs-placed f gs (All-tail (λ x. f.place < x.place) g gs after) (AllPairs-tail StandsBefore g gs pairs)))
    ]

places_from : (n : ℕ) (rs : List Rule) → All (λ f. n ≤ f.place) (filed n rs)
places_from n [] = λ k d lt. absurd (omega arith)
places_from n (r ∷ rs) =
    All-cons (λ f. n ≤ f.place) (record { place = n; rule = r }) (filed (n + 1) rs) (omega arith)
    (λ k d lt. let more = places_from (n + 1) rs k d lt in omega arith)

StandsBefore-ranked : (n : ℕ) (rs : List Rule) → AllPairs StandsBefore (ranked filed_rank (filed n rs))
StandsBefore-ranked n [] = λ i j d lt long. absurd (omega arith)
StandsBefore-ranked n (r ∷ rs) =
    let rest = filed (n + 1) rs in
    AllPairs-placed (record { place = n; rule = r }) (ranked filed_rank rest)
    (All-permutation (λ g. n < g.place) rest (ranked filed_rank rest) (IsPermutation-ranked filed_rank rest) (λ k d lt. let more = places_from (n + 1) rs k d lt in omega arith))
    (StandsBefore-ranked (n + 1) rs)

-- each filed rule stands at its place in the file
place_zero : (n : ℕ) (r : Rule) (rs : List Rule) (k : ℕ) → n ≡ n + k → slice_get (r ∷ rs) k ≡ Some r
place_zero n r rs zero e = refl
place_zero n r rs (suc k) e = absurd (omega arith)

later_place : (n : ℕ) (r : Rule) (rs : List Rule) (f : FiledRule) → n + 1 ≤ f.place → ((k : ℕ) → f.place ≡ n + 1 + k → slice_get rs k ≡ Some f.rule) → (k : ℕ) → f.place ≡ n + k → slice_get (r ∷ rs) k ≡ Some f.rule
later_place n r rs f le h zero e = absurd (omega arith)
later_place n r rs f le h (suc k) e = h k (omega arith)

at_place : (n : ℕ) (rs : List Rule) → All (λ f. (k : ℕ) → f.place ≡ n + k → slice_get rs k ≡ Some f.rule) (filed n rs)
at_place n [] = λ k d lt. absurd (omega arith)
at_place n (r ∷ rs) =
    All-cons (λ f. (k : ℕ) → f.place ≡ n + k → slice_get (r ∷ rs) k ≡ Some f.rule) (record { place = n; rule = r }) (filed (n + 1) rs) (place_zero n r rs)
    (λ i d lt. later_place n r rs (get_or (filed (n + 1) rs) i d) (places_from (n + 1) rs i d lt) (at_place (n + 1) rs i d lt))

-- ---- the filed rules in rule order

AreStanding : (rs : List Rule) → AllPairs StandsBefore (filed_in_order rs)
AreStanding rs = StandsBefore-ranked 0 rs

AreFiled : (rs : List Rule) → All (λ f. slice_get rs f.place ≡ Some f.rule) (filed_in_order rs)
AreFiled rs =
    All-permutation (λ f. slice_get rs f.place ≡ Some f.rule) (filed 0 rs) (filed_in_order rs) (IsPermutation-ranked filed_rank (filed 0 rs))
    (λ i d lt. at_place 0 rs i d lt (get_or (filed 0 rs) i d).place (omega arith))

-- two of them, the first before the second
comes_before : (rs : List Rule) (a b : FiledRule) → slice_get rs a.place ≡ Some a.rule → slice_get rs b.place ≡ Some b.rule → StandsBefore a b → ComesBefore rs a.place b.place
comes_before rs a b at_a at_b before = record { earlier = a.rule; later = b.rule; at_first = at_a; at_second = at_b; before = before }

-- ---- the two rules of an overlap

in_range_at : (rs : List Rule) (i : ℕ) (r : Rule) → AreNormal rs → slice_get rs i ≡ Some r → IsInRange r.pattern
in_range_at [] i r normal e = absurd (cc)
in_range_at (q ∷ rs) zero r normal e = let is : q ≡ r = cc in rw is at (normal 0 q (omega arith)).0
in_range_at (q ∷ rs) (suc i) r normal e = in_range_at rs i r (All-tail (λ x. IsNormal x.pattern) q rs normal) e

-- what the check of one rule finds
record Found (before : List FiledRule) (later : FiledRule) (i j : ℕ) : Type 0 where
  earlier : FiledRule
  found : FoundAt (λ f. is_refused f.rule later.rule) before earlier
  first_place : earlier.place ≡ i
  second_place : later.place ≡ j

found_by : (before : List FiledRule) (later : FiledRule) (i j : ℕ) (o : Option FiledRule) → find (λ f. is_refused f.rule later.rule) before ≡ o
    → option_map (λ f. Overlap f.place later.place) o ≡ Some (Overlap i j) → Found before later i j
found_by before later i j None is e = absurd (cc)
found_by before later i j (Some f) is e = record {
  earlier = f;
  found = find-Some (λ x. is_refused x.rule later.rule) before f is;
  first_place = cc;
  second_place = cc;
}

-- the rules of the first overlap, with their places in rule order
record Overlapping (fs : List FiledRule) (i j : ℕ) : Type 0 where
  first_at : ℕ
  second_at : ℕ
  earlier : FiledRule
  later : FiledRule
  in_order : first_at < second_at
  within : second_at < length fs
  is_earlier : (d : FiledRule) → get_or fs first_at d ≡ earlier
  is_later : (d : FiledRule) → get_or fs second_at d ≡ later
  refused : is_refused earlier.rule later.rule ≡ true
  first_place : earlier.place ≡ i
  second_place : later.place ≡ j
  none_earlier : (k : ℕ) (d : FiledRule) → k < first_at → is_refused (get_or fs k d).rule later.rule ≡ false
  none_before : (l : ℕ) (d : FiledRule) → l < second_at → overlap_fault (take l fs) (get_or fs l d) ≡ None

overlapping : (fs : List FiledRule) (i j : ℕ) → first_along overlap_fault [] fs ≡ Some (Overlap i j) → Overlapping fs i j
overlapping fs i j e =
    let fault = some_along overlap_fault [] fs (Overlap i j) e in
    let before = take fault.place fs in
    let pair = found_by before fault.element i j (find (λ f. is_refused f.rule fault.element.rule) before) refl fault.has_fault in
    let shorter = fault.within in
    let inside = pair.found.within in
    let len : length before ≡ fault.place = length-take-le fault.place fs (omega arith) in
    let in_order : pair.found.place < fault.place = omega arith in
    record {
      first_at = pair.found.place;
      second_at = fault.place;
      earlier = pair.earlier;
      later = fault.element;
      in_order = in_order;
      within = shorter;
      is_earlier = λ d. sym (get_or-take fault.place fs pair.found.place d in_order) ∙ pair.found.is_there d;
      is_later = λ d. get_or_default fs fault.place d fault.element shorter ∙ fault.is_there;
      refused = pair.found.passes;
      first_place = pair.first_place;
      second_place = pair.second_place;
      none_earlier = λ k d lt.
          let below : k < fault.place = omega arith in
          rw (get_or-take fault.place fs k d below) at (pair.found.is_first k d lt);
      none_before = fault.is_first;
    }

IsOverlap-Overlapping : (rs : List Rule) (i j : ℕ) → AreNormal rs → Overlapping (filed_in_order rs) i j → IsOverlap rs i j
IsOverlap-Overlapping rs i j normal o =
    let fs = filed_in_order rs in
    let long = o.within in
    let order = o.in_order in
    let d = o.later in
    let at_first : slice_get rs i ≡ Some o.earlier.rule = rw (o.is_earlier d, o.first_place) at (AreFiled rs o.first_at d (omega arith)) in
    let at_second : slice_get rs j ≡ Some o.later.rule = rw (o.is_later d, o.second_place) at (AreFiled rs o.second_at d long) in
    let stands : StandsBefore o.earlier o.later = rw (o.is_earlier d, o.is_later d) at (AreStanding rs o.first_at o.second_at d order long) in
    let refusal = Refusal-is_refused o.earlier.rule o.later.rule (in_range_at rs i o.earlier.rule normal at_first) (in_range_at rs j o.later.rule normal at_second) o.refused in
    record {
      places = record {
        earlier = o.earlier.rule;
        later = o.later.rule;
        at_first = at_first;
        at_second = at_second;
        before = rw (o.first_place, o.second_place) at stands;
      };
      share = refusal.share;
      slot = refusal.slot;
      written = refusal.written;
      not_written = refusal.not_written;
    }

-- ---- it is the first

asymmetric : (a b : FiledRule) → StandsBefore a b → StandsBefore b a → ⊥
asymmetric a b (inl lt) (inl gt) = omega arith
asymmetric a b (inl lt) (inr same) = let e = same.0 in omega arith
asymmetric a b (inr same) (inl lt) = let e = same.0 in omega arith
asymmetric a b (inr same) (inr other) = let lt = same.1 in let gt = other.1 in omega arith

-- each rule of the file is among the filed ones
filed_has : (n m : ℕ) (rs : List Rule) (k : ℕ) (r : Rule) → n + k ≡ m → slice_get rs k ≡ Some r → Contains (filed n rs) (record { place = m; rule = r })
filed_has n m [] k r e at = absurd (cc)
filed_has n m (q ∷ rs) zero r e at =
    let here : n ≡ m = omega arith in
    let is : q ≡ r = cc in
    (zero, omega arith, rw (here, is) refl)
filed_has n m (q ∷ rs) (suc k) r e at =
    let rest = filed_has (n + 1) m rs k r (omega arith) at in
    (suc rest.0, let lt = rest.1 in omega arith, rest.2)

-- a filed rule with its place in rule order
record Stands (fs : List FiledRule) (f : FiledRule) : Type 0 where
  place : ℕ
  within : place < length fs
  is_there : (d : FiledRule) → get_or fs place d ≡ f

stands_at : (rs : List Rule) (k : ℕ) (r : Rule) → slice_get rs k ≡ Some r → Stands (filed_in_order rs) (record { place = k; rule = r })
stands_at rs k r at =
    let f : FiledRule = record { place = k; rule = r } in
    let there = Contains-permutation (filed 0 rs) (filed_in_order rs) f (IsPermutation-ranked filed_rank (filed 0 rs)) (filed_has 0 k rs k r (omega arith) at) in
    record {
      place = there.0;
      within = there.1;
      is_there = λ d. get_or_default (filed_in_order rs) there.0 d f there.1 ∙ there.2;
    }

same_at : (fs : List FiledRule) (a b : FiledRule) (at_a : Stands fs a) (at_b : Stands fs b) → at_a.place ≡ at_b.place → a ≡ b
same_at fs a b at_a at_b same = sym (at_a.is_there a) ∙ ap (λ n. get_or fs n a) same ∙ at_b.is_there a

stands_before : (rs : List Rule) (a b : FiledRule) (at_a : Stands (filed_in_order rs) a) (at_b : Stands (filed_in_order rs) b) → at_a.place < at_b.place → StandsBefore a b
stands_before rs a b at_a at_b lt = rw (at_a.is_there a, at_b.is_there a) at (AreStanding rs at_a.place at_b.place a lt at_b.within)

-- the places in rule order are as the rules stand
ordered_places : (rs : List Rule) (a b : FiledRule) (at_a : Stands (filed_in_order rs) a) (at_b : Stands (filed_in_order rs) b) → StandsBefore a b → at_a.place < at_b.place
ordered_places rs a b at_a at_b before =
    elim (cases_order at_a.place at_b.place) [
      | inl same ↦
          let is = same_at (filed_in_order rs) a b at_a at_b same in
          let itself = rw (← is) at before in
          absurd (asymmetric a a itself itself)
      | inr differ ↦
          elim differ [
            | inl lt ↦ lt
            | inr gt ↦ absurd (asymmetric a b before (stands_before rs b a at_b at_a gt))
          ]
    ]

stands_filed : (rs : List Rule) (f : FiledRule) → Stands (filed_in_order rs) f → slice_get rs f.place ≡ Some f.rule
stands_filed rs f at = rw (at.is_there f) at (AreFiled rs at.place f at.within)

comes_first : (rs : List Rule) (a b : FiledRule) (at_a : Stands (filed_in_order rs) a) (at_b : Stands (filed_in_order rs) b) → at_a.place < at_b.place → ComesBefore rs a.place b.place
comes_first rs a b at_a at_b lt = comes_before rs a b (stands_filed rs a at_a) (stands_filed rs b at_b) (stands_before rs a b at_a at_b lt)

-- a rule refused beside one before it has a fault
no_fault-refused : (before : List FiledRule) (later : FiledRule) → overlap_fault before later ≡ None → (k : ℕ) (d : FiledRule) → k < length before → is_refused (get_or before k d).rule later.rule ≡ false
no_fault-refused before later none =
    find-None (λ earlier. is_refused earlier.rule later.rule) before (option_map-None (λ earlier. Overlap earlier.place later.place) (find (λ earlier. is_refused earlier.rule later.rule) before) none)

is_first : (rs : List Rule) (i j : ℕ) → Overlapping (filed_in_order rs) i j → (k l : ℕ) → IsOverlap rs k l → ComesBefore rs j l ⊎ ((j ≡ l) × (ComesBefore rs i k ⊎ (i ≡ k)))
is_first rs i j o k l other =
    let fs = filed_in_order rs in
    let a : FiledRule = record { place = k; rule = other.places.earlier } in
    let b : FiledRule = record { place = l; rule = other.places.later } in
    let at_a = stands_at rs k other.places.earlier other.places.at_first in
    let at_b = stands_at rs l other.places.later other.places.at_second in
    let in_order = ordered_places rs a b at_a at_b other.places.before in
    let refused = is_refused-ShareHeader other.places.earlier other.places.later other.slot other.share other.written other.not_written in
    let at_earlier : Stands fs o.earlier = record { place = o.first_at; within = let long = o.within in let lt = o.in_order in omega arith; is_there = o.is_earlier } in
    let at_later : Stands fs o.later = record { place = o.second_at; within = o.within; is_there = o.is_later } in
    elim (cases_order at_b.place o.second_at) [
      | inl same ↦
          let later : b ≡ o.later = same_at fs b o.later at_b at_later same in
          let second : j ≡ l = sym (ap (λ f. f.place) later ∙ o.second_place) in
          inr (
            second,
            elim (cases_order at_a.place o.first_at) [
              | inl at ↦
                  let earlier : a ≡ o.earlier = same_at fs a o.earlier at_a at_earlier at in
                  inr (sym (ap (λ f. f.place) earlier ∙ o.first_place))
              | inr differ ↦
                  elim differ [
                    | inl lt ↦
                        let kept : is_refused other.places.earlier other.places.later ≡ false = rw (at_a.is_there a, ← later) at (o.none_earlier at_a.place a lt) in
                        absurd (true≢false (sym refused ∙ kept))
                    | inr gt ↦ inl (rw o.first_place at (comes_first rs o.earlier a at_earlier at_a gt))
                  ]
            ],
          )
      | inr differ ↦
          elim differ [
            | inl lt ↦
                let len : length (take at_b.place fs) ≡ at_b.place = length-take-le at_b.place fs (let long = at_b.within in omega arith) in
                let kept = no_fault-refused (take at_b.place fs) (get_or fs at_b.place a) (o.none_before at_b.place a lt) at_a.place a (omega arith) in
                let kept' : is_refused other.places.earlier other.places.later ≡ false = rw (get_or-take at_b.place fs at_a.place a in_order, at_a.is_there a, at_b.is_there a) at kept in
                absurd (true≢false (sym refused ∙ kept'))
            | inr gt ↦ inl (rw o.second_place at (comes_first rs o.later b at_later at_b gt))
          ]
    ]

-- ---- no other check finds an overlap

no_excess : (what : What) (limit count i j : ℕ) → excess what limit count ≡ Some (Overlap i j) → ⊥
no_excess what limit count i j e =
    elim (cases_Bool (nat_lt limit count)) [
      | inl more ↦ let clash = sym (cond-true (nat_lt limit count) _ _ more) ∙ e in cc
      | inr few ↦ let clash = sym (cond-false (nat_lt limit count) _ _ few) ∙ e in cc
    ]

no_name_fault : (before : List Slice) (slice : Slice) (i j : ℕ) → name_fault before slice ≡ Some (Overlap i j) → ⊥
no_name_fault before slice i j e =
    elim (cases_Bool (list_any (λ earlier. bytes_eq earlier.name slice.name) before)) [
      | inl twice ↦ let clash = sym (cond-true _ _ _ twice) ∙ e in cc
      | inr once ↦ let clash = sym (cond-false _ _ _ once) ∙ e in cc
    ]

no_rule_fault : (slots : ℕ) (before : List Rule) (rule : Rule) (i j : ℕ) → rule_fault slots before rule ≡ Some (Overlap i j) → ⊥
no_rule_fault slots before rule i j e =
    elim (cases_Bool (is_slot_or_none slots rule.writer && nat_lt rule.readers (2 ^ slots))) [
      | inr unknown ↦ let clash = sym (cond-false _ _ _ unknown) ∙ e in cc
      | inl known ↦
          elim (cases_Bool (is_own_reader rule)) [
            | inl own ↦ let clash = sym (cond-true _ _ _ own) ∙ sym (cond-true _ _ _ known) ∙ e in cc
            | inr apart ↦ let clash = sym (cond-false _ _ _ apart) ∙ sym (cond-true _ _ _ known) ∙ e in cc
          ]
    ]

not_along : {A : Type 0} (check : List A → A → Option PolicyFault) (xs : List A) (fault : PolicyFault) → ((before : List A) (x : A) → check before x ≡ Some fault → ⊥) → first_along check [] xs ≡ Some fault → ⊥
not_along check xs fault never e = let at = some_along check [] xs fault e in never (take at.place xs) at.element at.has_fault

last_of_six : (a b c d e f : Option PolicyFault) (fault : PolicyFault)
    → (a ≡ Some fault → ⊥) → (b ≡ Some fault → ⊥) → (c ≡ Some fault → ⊥) → (d ≡ Some fault → ⊥) → (e ≡ Some fault → ⊥)
    → first_some (a ∷ b ∷ c ∷ d ∷ e ∷ f ∷ []) ≡ Some fault → f ≡ Some fault
last_of_six (Some x) b c d e f fault na nb nc nd ne h = absurd (na h)
last_of_six None (Some x) c d e f fault na nb nc nd ne h = absurd (nb h)
last_of_six None None (Some x) d e f fault na nb nc nd ne h = absurd (nc h)
last_of_six None None None (Some x) e f fault na nb nc nd ne h = absurd (nd h)
last_of_six None None None None (Some x) f fault na nb nc nd ne h = absurd (ne h)
last_of_six None None None None None None fault na nb nc nd ne h = absurd (cc)
last_of_six None None None None None (Some x) fault na nb nc nd ne h = h

overlap_found : (ss : List Slice) (rs : List Rule) (i j : ℕ) → fault_of ss rs ≡ Some (Overlap i j) → first_along overlap_fault [] (filed_in_order rs) ≡ Some (Overlap i j)
unfolding fault_of
overlap_found ss rs i j h =
    last_of_six (excess Slices 32 (length ss)) (excess Rules 2048 (length rs)) (first_along name_fault [] ss) (first_along (rule_fault (length ss)) [] rs) (first_along (writes_fault rs) [] ss) (first_along overlap_fault [] (filed_in_order rs)) (Overlap i j)
    (no_excess Slices 32 (length ss) i j)
    (no_excess Rules 2048 (length rs) i j)
    (not_along name_fault ss (Overlap i j) (λ before slice. no_name_fault before slice i j))
    (not_along (rule_fault (length ss)) rs (Overlap i j) (λ before rule. no_rule_fault (length ss) before rule i j))
    (not_along (writes_fault rs) ss (Overlap i j) (λ before slice. no_excess Writes 256 (count_by (is_written_by (length before)) rs) i j))
    h

pub refused_load : (ss : List Slice) (rs : List Rule) (fault : PolicyFault) (o : Option PolicyFault) → fault_of ss rs ≡ o → load_of ss rs ≡ Err fault → o ≡ Some fault
refused_load ss rs fault None is e = let loaded : Result PolicyView PolicyFault = Ok (record { slices = ss; rules = rs; swaps = [] }) in let clash : loaded ≡ Err fault = rw (is, load_of) at e in absurd (cc)
refused_load ss rs fault (Some x) is e = let refused : Result PolicyView PolicyFault = Err x in let same : refused ≡ Err fault = rw (is, load_of) at e in cc

pub IsFirstOverlap-load_of : (ss : List Slice) (rs : List Rule) (i j : ℕ) → AreNormal rs → load_of ss rs ≡ Err (Overlap i j) → IsFirstOverlap rs i j
IsFirstOverlap-load_of ss rs i j normal e =
    let pair = overlapping (filed_in_order rs) i j (overlap_found ss rs i j (refused_load ss rs (Overlap i j) (fault_of ss rs) refl e)) in
    record {
      overlap = IsOverlap-Overlapping rs i j normal pair;
      is_first = is_first rs i j pair;
    }
