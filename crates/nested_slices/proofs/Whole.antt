-- What holds of the flat slices and rules of a division that isn't refused early.
use Rattle.std.proofs.Common.{◌≡◌, ℕ, ◌+◌, ◌-◌, ◌<◌, ◌≤◌, List, [], ◌∷◌, ◌++◌, length, take, drop, get_or, slice_get, All, AllPairs, Some, Err, refl, sym, subst, ◌∙◌, ap, arith, inl, inr}
use Rattle.std.proofs.lemmas.Bool.{cases_lt, cases_eq, true≢false}
use Rattle.std.proofs.lemmas.Option.{slice_get_within, get_or_from_slice_get}
use Rattle.std.proofs.lemmas.List.{length-append, length-drop, length-take-le}
use Rattle.std.proofs.lemmas.List.Elements.{All-nil, All-cons, All-head, All-tail, All-append, All-take, All-drop}
use Rattle.std.proofs.lemmas.List.Sorted.{All-permutation}
use Rattle.flowmod_expand.proofs.Somewhere.{All-filter_map}
use Rattle.flowspace.specs.declared.fault.Field.TheVariants.{Read}
use Rattle.flowspace.specs.declared.fault.What.TheVariants.{Slices, Rules, Writes}
use Rattle.flowspace.specs.declared.fault.PolicyFault.{PolicyFault}
use Rattle.flowspace.specs.declared.fault.PolicyFault.TheVariants.{TooMany, DuplicateSlice, UnknownSlice, Improper, Overlap}
use Rattle.flowspace.specs.declared.slices.Slice.{Slice}
use Rattle.flowspace.specs.declared.rules.Rule.{Rule}
use Rattle.flowspace.specs.Slices.{IsPlainSlice}
use Rattle.flowspace.specs.Rules.{IsPlainRule, Yields}
use Rattle.flowspace.specs.Order.{in_order, HasNoLower}
use Rattle.flowspace.specs.Policies.{PolicyView, AreProper, AreNormal, IsOverlap, ComesBefore}
use Rattle.flowspace.specs.Faults.{IsSoundRule, IsFirstPolicyFault}
use Rattle.flowspace.specs.Loading.{load_of}
use Rattle.flowspace.proofs.Ordering.{IsPermutation-in_order}
use Rattle.flowspace.proofs.Faulty.{IsFirstFault-load_of}
use Rattle.nested_slices.specs.Flat.{DivisionView, kept, part, parts, numbered, by_place, divided, flat_rules, flat_slices, division_of, flat}
use Rattle.nested_slices.specs.Space.{IsDivisible}
use Rattle.nested_slices.specs.Refused.{IsFlatFault}
use Rattle.nested_slices.proofs.Lists.{All-flat_map}
use Rattle.nested_slices.proofs.Plain.{plain_as, plain_meet}
use Rattle.nested_slices.proofs.Joining.{part_is}
use Rattle.nested_slices.proofs.Yielding.{All-parts}
use Rattle.nested_slices.proofs.Placing.{descends, in_order-by_place, accepted}
use Rattle.nested_slices.proofs.Sound.{parts_sound}

-- ---- slices

-- how many other outer slices there are
pub others_more : (n slot : ℕ) → slot < n → n ≡ (n - 1) + 1
others_more n slot lt = omega arith

pub flat_slices_length : (outer inner : List Slice) (slot : ℕ) → slot < length outer → length (flat_slices outer slot inner) ≡ (length outer - 1) + length inner
flat_slices_length outer inner slot lt =
    let whole = length-append (take slot outer) (drop (slot + 1) outer ++ inner) in
    let rest = length-append (drop (slot + 1) outer) inner in
    let front = length-take-le slot outer (omega arith) in
    let back = length-drop (slot + 1) outer in
    omega arith

pub flat_slices_plain : (outer inner : List Slice) (slot : ℕ) → All IsPlainSlice outer → All IsPlainSlice inner → All IsPlainSlice (flat_slices outer slot inner)
flat_slices_plain outer inner slot outside inside =
    All-append IsPlainSlice (take slot outer) (drop (slot + 1) outer ++ inner) (All-take IsPlainSlice slot outer outside)
    (All-append IsPlainSlice (drop (slot + 1) outer) inner (All-drop IsPlainSlice (slot + 1) outer outside) inside)

-- ---- what holds of each flat rule

All-by_place : (P : Rule → Type 0) → ((n : ℕ) (r : Rule) → P r → P (numbered n r)) → (rs : List Rule) → All P rs → All P (by_place rs)
All-by_place P same [] all = All-nil P
All-by_place P same (r ∷ rest) all = All-cons P (numbered (length rest) r) (by_place rest) (same (length rest) r (All-head P r rest all)) (All-by_place P same rest (All-tail P r rest all))

All-flat_rules : (P : Rule → Type 0) → ((n : ℕ) (r : Rule) → P r → P (numbered n r)) → (d : DivisionView) (rules : List Rule) → All (λ r. All P (parts d r)) rules → All P (flat_rules d rules)
All-flat_rules P same d rules all = All-by_place P same (divided d rules) (All-flat_map P (parts d) rules all)

-- what holds of the rules holds of them in rule order
in_order-All : (P : Rule → Type 0) (rs : List Rule) → All P rs → All P (in_order rs)
in_order-All P rs all = All-permutation P rs (in_order rs) (IsPermutation-in_order rs) all

parts_plain : (d : DivisionView) (r : Rule) → All IsPlainRule d.rules → IsPlainRule r → All IsPlainRule (parts d r)
parts_plain d r inner plain =
    All-parts IsPlainRule d r
    (λ is. All-filter_map IsPlainRule (part d r) d.rules (λ k e lt. λ p made. plain_meet r (get_or d.rules k e) p (part_is d r (get_or d.rules k e) p made).pattern plain (inner k e lt)))
    (λ isnt. plain_as r (kept d r) refl plain)

pub flat_plain : (outer : PolicyView) (slot : ℕ) (inner : PolicyView) → IsDivisible outer slot inner → All IsPlainRule (flat outer slot inner).rules
unfolding flat
flat_plain outer slot inner is =
    let d = division_of outer slot inner in
    let inside = in_order-All IsPlainRule inner.rules is.inner_policy.proper.plain_rules in
    let outside = in_order-All IsPlainRule outer.rules is.outer_policy.proper.plain_rules in
    All-flat_rules IsPlainRule (λ n r plain. plain_as r (numbered n r) refl plain) d (in_order outer.rules) (λ k e lt. parts_plain d (get_or (in_order outer.rules) k e) inside (outside k e lt))

sound_rules : (ss : List Slice) (rs : List Rule) → AreProper ss rs → All (IsSoundRule (length ss)) rs
sound_rules ss rs proper = λ k d lt. (record { writer_known = proper.writers_known k d lt; readers_known = proper.readers_known k d lt }, proper.readers_apart k d lt)

flat_sound : (outer : PolicyView) (slot : ℕ) (inner : PolicyView) → IsDivisible outer slot inner → All (IsSoundRule (length (flat outer slot inner).slices)) (flat outer slot inner).rules
unfolding flat
flat_sound outer slot inner is =
    let d = division_of outer slot inner in
    let n = length outer.slices in
    let lt = is.is_slot in
    let all = sound_rules outer.slices outer.rules is.outer_policy.proper in
    let outside = in_order-All (IsSoundRule (d.others + 1)) outer.rules (subst (λ m. All (IsSoundRule m) outer.rules) (others_more n slot lt) all) in
    let inside = in_order-All (IsSoundRule (length inner.slices)) inner.rules (sound_rules inner.slices inner.rules is.inner_policy.proper) in
    let le : slot ≤ n - 1 = omega arith in
    let slots = d.others + length inner.slices in
    subst (λ m. All (IsSoundRule m) (flat_rules d (in_order outer.rules))) (sym (flat_slices_length outer.slices inner.slices slot lt))
    (All-flat_rules (IsSoundRule slots) (λ n r sound. (record { writer_known = sound.0.writer_known; readers_known = sound.0.readers_known }, sound.1)) d (in_order outer.rules)
    (λ k e below. parts_sound d (length inner.slices) (get_or (in_order outer.rules) k e) le inside (outside k e below)))

-- ---- what they may still be refused for

flat_yield : (outer : PolicyView) (slot : ℕ) (inner : PolicyView) → IsDivisible outer slot inner → AllPairs Yields (flat outer slot inner).rules
unfolding flat
flat_yield outer slot inner is = subst (AllPairs Yields) (in_order-by_place (divided (division_of outer slot inner) (in_order outer.rules))) (accepted outer slot inner is)

flat_descend : (outer : PolicyView) (slot : ℕ) (inner : PolicyView) → AllPairs HasNoLower (flat outer slot inner).rules
unfolding flat
flat_descend outer slot inner = descends (divided (division_of outer slot inner) (in_order outer.rules))

All-slice_get : {A : Type 0} (P : A → Type 0) (xs : List A) (k : ℕ) (x : A) → All P xs → slice_get xs k ≡ Some x → P x
All-slice_get P xs k x all at = subst P (get_or_from_slice_get xs k x x at) (all k x (slice_get_within xs k x at))

-- of rules that descend, one that comes before another stands before it
stands_before : (rs : List Rule) (i j : ℕ) → AllPairs HasNoLower rs → (c : ComesBefore rs i j) → i < j
stands_before rs i j descend c =
    elim c.before [
      | inl higher ↦
          let at_first : get_or rs i c.earlier ≡ c.earlier = get_or_from_slice_get rs i c.earlier c.earlier c.at_first in
          let at_second : get_or rs j c.earlier ≡ c.later = get_or_from_slice_get rs j c.later c.earlier c.at_second in
          elim (cases_lt i j) [
            | inl lt ↦ lt
            | inr from ↦
                elim (cases_eq i j) [
                  | inl same ↦
                      let one : c.earlier ≡ c.later = sym at_first ∙ ap (λ k. get_or rs k c.earlier) same ∙ at_second in
                      let level = ap (λ (r : Rule). r.priority) one in
                      absurd (omega arith)
                  | inr other ↦
                      let behind : j < i = omega arith in
                      let long = slice_get_within rs i c.earlier c.at_first in
                      let low = descend j i c.earlier behind long in
                      let up = ap (λ (r : Rule). r.priority) at_first in
                      let down = ap (λ (r : Rule). r.priority) at_second in
                      absurd (omega arith)
                ]
          ]
      | inr level ↦ level.1
    ]

no_overlap : (rs : List Rule) (i j : ℕ) → AllPairs Yields rs → AllPairs HasNoLower rs → IsOverlap rs i j → ⊥
no_overlap rs i j yield descend o =
    let c = o.places in
    let lt = stands_before rs i j descend c in
    let pair = yield i j c.earlier lt (slice_get_within rs j c.later c.at_second) in
    let first = subst (λ r. Yields r (get_or rs j c.earlier)) (get_or_from_slice_get rs i c.earlier c.earlier c.at_first) pair in
    let both = subst (Yields c.earlier) (get_or_from_slice_get rs j c.later c.earlier c.at_second) first in
    o.not_written (both o.share o.slot o.written)

few_faults : (ss : List Slice) (rs : List Rule) (fault : PolicyFault) → All (IsSoundRule (length ss)) rs → AllPairs Yields rs → AllPairs HasNoLower rs → IsFirstPolicyFault ss rs fault → IsFlatFault fault
few_faults ss rs (TooMany Slices count) sound yield descend first = tt
few_faults ss rs (TooMany Rules count) sound yield descend first = tt
few_faults ss rs (TooMany Writes count) sound yield descend first = tt
few_faults ss rs (DuplicateSlice place) sound yield descend first = tt
few_faults ss rs (UnknownSlice place) sound yield descend first = absurd (first.2.unknown (All-slice_get (IsSoundRule (length ss)) rs place first.2.rule sound first.2.is_there).0)
few_faults ss rs (Improper place Read) sound yield descend first = absurd (true≢false (sym first.2.own ∙ (All-slice_get (IsSoundRule (length ss)) rs place first.2.rule sound first.2.is_there).1))
few_faults ss rs (Overlap i j) sound yield descend first = absurd (no_overlap rs i j yield descend first.4.overlap)
few_faults ss rs other sound yield descend first = absurd first

-- the flat policy is refused for nothing but too many of something or a name twice
pub flat_fault : (outer : PolicyView) (slot : ℕ) (inner : PolicyView) (fault : PolicyFault) → IsDivisible outer slot inner → AreNormal (flat outer slot inner).rules
    → load_of (flat outer slot inner).slices (flat outer slot inner).rules ≡ Err fault → IsFlatFault fault
flat_fault outer slot inner fault is normal refused =
    let f = flat outer slot inner in
    few_faults f.slices f.rules fault (flat_sound outer slot inner is) (flat_yield outer slot inner is) (flat_descend outer slot inner) (IsFirstFault-load_of f.slices f.rules fault normal refused)
