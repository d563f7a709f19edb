-- What slices write by the flat rules.
use Rattle.std.proofs.Common.{◌≡◌, ◌≢◌, ◌↔◌, ◌⊎◌, ℕ, ◌+◌, ◌-◌, ◌<◌, true, false, List, [], ◌∷◌, length, filter_map, All, Any, Option, Some, None, option_map, IfSome, sym, subst, ◌∙◌, ap, arith, inl, inr}
use Rattle.std.proofs.lemmas.Bool.{cases_Bool, cond-true, cond-false, true≢false}
use Rattle.std.proofs.lemmas.Option.{same_Some}
use Rattle.std.proofs.lemmas.List.Sorted.{All-permutation}
use Rattle.of10_model.specs.declared.pattern.Pattern.{Pattern}
use Rattle.of10_model.specs.Header.{Header, IsHeader}
use Rattle.of10_model.specs.Pattern.{Has}
use Rattle.flowspace.specs.declared.rules.Rule.{Rule}
use Rattle.flowspace.specs.Rules.{holds, is_written_by}
use Rattle.flowspace.specs.Order.{in_order, rules_on}
use Rattle.flowspace.specs.Owners.{Writes, HasWriteRule}
use Rattle.flowspace.specs.Policies.{PolicyView, IsPolicy}
use Rattle.flowspace.proofs.Ordering.{in_order-filter, IsPermutation-in_order}
use Rattle.flowspace.proofs.Owning.{Writes-iff}
use Rattle.flowspace.proofs.Parts.{IsSwitchPolicy-rules_on}
use Rattle.flowspace.proofs.Refusing.{is_value-Some, Some-is_value}
use Rattle.flowmod_expand.specs.Pieces.{pieces_of}
use Rattle.flowmod_expand.proofs.Space.{Any-pieces_of}
use Rattle.flowmod_expand.proofs.Somewhere.{Any-first, Any-cases, Any-nil, Any-weaker, Any-kept, kept-Any, Any-filter_map, filter_map-Any}
use Rattle.nested_slices.specs.Flat.{DivisionView, outer_slot, inner_slot, kept, part, parts, divided, flat_rules, division_of, flat}
use Rattle.nested_slices.specs.Space.{IsDivisible}
use Rattle.nested_slices.proofs.Lists.{Any-flat_map, flat_map-Any}
use Rattle.nested_slices.proofs.Joining.{part_is, within_outer, within_inner, part_at, option_map-Some, outer_before, outer_apart}
use Rattle.nested_slices.proofs.Placing.{in_order-by_place, Any-by_place, by_place-Any}

-- a rule holds on a switch, is written by a slice and has a header
pub record IsAt (datapath slot : ℕ) (h : Header) (r : Rule) : Type 0 where
  pub on : holds datapath r ≡ true
  pub by : r.writer ≡ Some slot
  pub has_header : Has r.pattern h

-- the write rules of a switch are those of all rules that hold there
on_switch : (rs : List Rule) (datapath slot : ℕ) (h : Header) → HasWriteRule (rules_on datapath rs) slot h → Any (IsAt datapath slot h) (in_order rs)
on_switch rs datapath slot h some =
    let P = λ (r : Rule). (r.writer ≡ Some slot) × Has r.pattern h in
    Any-weaker (λ r. (holds datapath r ≡ true) × P r) (IsAt datapath slot h) (in_order rs) (λ r k. record { on = k.0; by = k.1.0; has_header = k.1.1 })
    (Any-kept P (holds datapath) (in_order rs) (subst (Any P) (in_order-filter (holds datapath) rs) some))

from_switch : (rs : List Rule) (datapath slot : ℕ) (h : Header) → Any (IsAt datapath slot h) (in_order rs) → HasWriteRule (rules_on datapath rs) slot h
from_switch rs datapath slot h some =
    let P = λ (r : Rule). (r.writer ≡ Some slot) × Has r.pattern h in
    subst (Any P) (sym (in_order-filter (holds datapath) rs)) (kept-Any P (holds datapath) (in_order rs)
    (Any-weaker (IsAt datapath slot h) (λ r. (holds datapath r ≡ true) × P r) (in_order rs) (λ r at. (at.on, (at.by, at.has_header))) some))

-- ---- the parts of one rule

Any-parts : (P : Rule → Type 0) (d : DivisionView) (r : Rule) → Any P (parts d r) → ((is_written_by d.slot r ≡ true) × Any P (filter_map (part d r) d.rules)) ⊎ ((is_written_by d.slot r ≡ false) × P (kept d r))
Any-parts P d r some =
    elim (cases_Bool (is_written_by d.slot r)) [
      | inl is ↦ inl (is, subst (Any P) (cond-true (is_written_by d.slot r) (filter_map (part d r) d.rules) (kept d r ∷ []) is) some)
      | inr isnt ↦
          elim (Any-cases P (kept d r) [] (subst (Any P) (cond-false (is_written_by d.slot r) (filter_map (part d r) d.rules) (kept d r ∷ []) isnt) some)) [
            | inl here ↦ inr (isnt, here)
            | inr later ↦ absurd (Any-nil P later)
          ]
    ]

parts-mine : (P : Rule → Type 0) (d : DivisionView) (r : Rule) → is_written_by d.slot r ≡ true → Any P (filter_map (part d r) d.rules) → Any P (parts d r)
parts-mine P d r is some = subst (Any P) (sym (cond-true (is_written_by d.slot r) (filter_map (part d r) d.rules) (kept d r ∷ []) is)) some

parts-kept : (P : Rule → Type 0) (d : DivisionView) (r : Rule) → is_written_by d.slot r ≡ false → P (kept d r) → Any P (parts d r)
parts-kept P d r isnt here = subst (Any P) (sym (cond-false (is_written_by d.slot r) (filter_map (part d r) d.rules) (kept d r ∷ []) isnt)) (Any-first P (kept d r) [] here)

-- ---- outer rules

-- the writer of each is an outer slice
abbrev AreOuter : DivisionView → List Rule → Type 0
AreOuter d rules = All (λ r. IfSome r.writer (λ w. w < d.others + 1)) rules

writer_below : (n : ℕ) (o : Option ℕ) (s : ℕ) → o ≡ Some s → IfSome o (λ w. w < n) → s < n
writer_below n None s e k = absurd (cc)
writer_below n (Some w) s e k = let same = same_Some w s e in subst (λ x. x < n) same k

not_holder : (d : DivisionView) (r : Rule) (s : ℕ) → is_written_by d.slot r ≡ false → r.writer ≡ Some s → s ≢ d.slot
not_holder d r s isnt is = λ same. true≢false (sym (Some-is_value d.slot r.writer (is ∙ ap Some same)) ∙ isnt)

-- the writer of what comes of another rule stands before the inner ones
kept_before : (d : DivisionView) → d.slot < d.others + 1 → (r : Rule) → IfSome r.writer (λ w. w < d.others + 1) → is_written_by d.slot r ≡ false → (n : ℕ) → option_map (outer_slot d) r.writer ≡ Some n → n < d.others
kept_before d is_slot r outer isnt n e =
    let from = option_map-Some (outer_slot d) r.writer n e in
    subst (λ x. x < d.others) from.2 (outer_before d from.0 (writer_below (d.others + 1) r.writer from.0 from.1 outer) (not_holder d r from.0 isnt from.1) is_slot)

-- ---- inner slices

module _ (d : DivisionView) (is_slot : d.slot < d.others + 1) (datapath t : ℕ) (h : Header) where
  abbrev Mine : Rule → Type 0
  Mine = IsAt datapath (inner_slot d t) h

  -- a rule of the holder and an inner one of the slice, both with the header on the switch
  abbrev Both : List Rule → Type 0
  Both rules = Any (IsAt datapath d.slot h) rules × Any (IsAt datapath t h) d.rules

  of_part : (r : Rule) → is_written_by d.slot r ≡ true → Any Mine (filter_map (part d r) d.rules) → IsAt datapath d.slot h r × Any (IsAt datapath t h) d.rules
  of_part r is some =
      let from = Any-filter_map Mine (part d r) d.rules some in
      let q = from.1 in
      let p = from.4.0 in
      let own = part_is d r q p from.4.1 in
      let at = from.4.2 in
      let outer = within_outer d r q p own in
      let inner = within_inner d r q p own in
      let writer = option_map-Some (inner_slot d) q.writer (inner_slot d t) (sym own.writer ∙ at.by) in
      let moved : d.others + writer.0 ≡ d.others + t = writer.2 in
      let same : writer.0 ≡ t = omega arith in (
        record { on = outer.on datapath at.on; by = is_value-Some d.slot r.writer is; has_header = outer.has_header h at.has_header },
        (from.0, q, from.2, from.3, record { on = inner.on datapath at.on; by = writer.1 ∙ ap Some same; has_header = inner.has_header h at.has_header }),
      )

  pub of_both : (rules : List Rule) → AreOuter d rules → Any Mine (divided d rules) → Both rules
  of_both rules outer some =
      let at = Any-flat_map Mine (parts d) rules some in
      let r = at.1 in
      elim (Any-parts Mine d r at.4) [
        | inl mine ↦ let both = of_part r mine.0 mine.1 in ((at.0, r, at.2, at.3, both.0), both.1)
        | inr other ↦
            let known : IfSome r.writer (λ w. w < d.others + 1) = subst (λ (x : Rule). IfSome x.writer (λ w. w < d.others + 1)) at.3 (outer at.0 r at.2) in
            let low : d.others + t < d.others = kept_before d is_slot r known other.0 (inner_slot d t) other.1.by in
            absurd (omega arith)
      ]

  pub both_of : (rules : List Rule) → Both rules → Any Mine (divided d rules)
  both_of rules both =
      let r = both.0.1 in
      let at_r = both.0.4 in
      let q = both.1.1 in
      let at_q = both.1.4 in
      let made = part_at d r q datapath h at_r.on at_q.on at_r.has_header at_q.has_header in
      let own = part_is d r q made.rule made.is in
      let mine : Mine made.rule = record { on = made.on; by = own.writer ∙ ap (option_map (inner_slot d)) at_q.by; has_header = made.has_header } in
      let some = filter_map-Any Mine (part d r) d.rules (both.1.0, q, both.1.2, both.1.3, (made.rule, made.is, mine)) in
      flat_map-Any Mine (parts d) rules (both.0.0, r, both.0.2, both.0.3, parts-mine Mine d r (Some-is_value d.slot r.writer at_r.by) some)

-- ---- other outer slices

module _ (d : DivisionView) (is_slot : d.slot < d.others + 1) (datapath s : ℕ) (lt : s < d.others + 1) (differs : s ≢ d.slot) (h : Header) where
  abbrev Theirs : Rule → Type 0
  Theirs = IsAt datapath (outer_slot d s) h

  of_other : (r : Rule) → Any Theirs (parts d r) → IsAt datapath s h r
  of_other r some =
      elim (Any-parts Theirs d r some) [
        | inl mine ↦
            let from = Any-filter_map Theirs (part d r) d.rules mine.1 in
            let q = from.1 in
            let at = from.4.2 in
            let own = part_is d r q from.4.0 from.4.1 in
            let writer = option_map-Some (inner_slot d) q.writer (outer_slot d s) (sym own.writer ∙ at.by) in
            let low : outer_slot d s < d.others = outer_before d s lt differs is_slot in
            let e : d.others + writer.0 ≡ outer_slot d s = writer.2 in
            absurd (omega arith)
        | inr other ↦
            let at = other.1 in
            let from = option_map-Some (outer_slot d) r.writer (outer_slot d s) at.by in
            let same = outer_apart d from.0 s (not_holder d r from.0 other.0 from.1) differs from.2 in
            record { on = at.on; by = from.1 ∙ ap Some same; has_header = at.has_header }
      ]

  other_of : (r : Rule) → IsAt datapath s h r → Any Theirs (parts d r)
  other_of r at =
      elim (cases_Bool (is_written_by d.slot r)) [
        | inl is ↦ absurd (differs (same_Some s d.slot (sym at.by ∙ is_value-Some d.slot r.writer is)))
        | inr isnt ↦ parts-kept Theirs d r isnt (record { on = at.on; by = ap (option_map (outer_slot d)) at.by; has_header = at.has_header })
      ]

  pub others_of : (rules : List Rule) → Any Theirs (divided d rules) → Any (IsAt datapath s h) rules
  others_of rules some = Any-weaker (λ r. Any Theirs (parts d r)) (IsAt datapath s h) rules of_other (Any-flat_map Theirs (parts d) rules some)

  pub of_others : (rules : List Rule) → Any (IsAt datapath s h) rules → Any Theirs (divided d rules)
  of_others rules some = flat_map-Any Theirs (parts d) rules (Any-weaker (IsAt datapath s h) (λ r. Any Theirs (parts d r)) rules other_of some)

-- ---- flat rules

flat_some : (d : DivisionView) (rules : List Rule) (datapath slot : ℕ) (h : Header) → Any (IsAt datapath slot h) (in_order (flat_rules d rules)) → Any (IsAt datapath slot h) (divided d rules)
flat_some d rules datapath slot h some =
    Any-by_place (IsAt datapath slot h) (λ n r at. record { on = at.on; by = at.by; has_header = at.has_header }) (divided d rules) (subst (Any (IsAt datapath slot h)) (in_order-by_place (divided d rules)) some)

some_flat : (d : DivisionView) (rules : List Rule) (datapath slot : ℕ) (h : Header) → Any (IsAt datapath slot h) (divided d rules) → Any (IsAt datapath slot h) (in_order (flat_rules d rules))
some_flat d rules datapath slot h some =
    subst (Any (IsAt datapath slot h)) (sym (in_order-by_place (divided d rules))) (by_place-Any (IsAt datapath slot h) (λ n r at. record { on = at.on; by = at.by; has_header = at.has_header }) (divided d rules) some)

-- ---- policies

more_by_one : (n s : ℕ) → s < n → s < (n - 1) + 1
more_by_one n s lt = omega arith

outer_rules : (outer : PolicyView) (slot : ℕ) (inner : PolicyView) → IsDivisible outer slot inner → AreOuter (division_of outer slot inner) (in_order outer.rules)
outer_rules outer slot inner is =
    let n = length outer.slices in
    let below = All-permutation (λ r. IfSome r.writer (λ w. w < n)) outer.rules (in_order outer.rules) (IsPermutation-in_order outer.rules) is.outer_policy.proper.writers_known in
    let lt = is.is_slot in
    let same : n ≡ (n - 1) + 1 = omega arith in
    subst (λ m. All (λ r. IfSome r.writer (λ w. w < m)) (in_order outer.rules)) same below

-- on a switch an inner slice has a write rule for a header exactly where the holder and it have one
inner_has : (outer : PolicyView) (slot : ℕ) (inner : PolicyView) → IsDivisible outer slot inner → (datapath t : ℕ) (h : Header)
    → HasWriteRule (rules_on datapath (flat outer slot inner).rules) (inner_slot (division_of outer slot inner) t) h ↔ (HasWriteRule (rules_on datapath outer.rules) slot h × HasWriteRule (rules_on datapath inner.rules) t h)
unfolding flat
inner_has outer slot inner is datapath t h =
    let d = division_of outer slot inner in
    let f = flat outer slot inner in
    let is_slot = more_by_one (length outer.slices) slot is.is_slot in (
      λ some.
          let both = of_both d is_slot datapath t h (in_order outer.rules) (outer_rules outer slot inner is) (flat_some d (in_order outer.rules) datapath (inner_slot d t) h (on_switch f.rules datapath (inner_slot d t) h some)) in
          (from_switch outer.rules datapath slot h both.0, from_switch inner.rules datapath t h both.1),
      λ both.
          from_switch f.rules datapath (inner_slot d t) h (some_flat d (in_order outer.rules) datapath (inner_slot d t) h
          (both_of d is_slot datapath t h (in_order outer.rules) (on_switch outer.rules datapath slot h both.0, on_switch inner.rules datapath t h both.1))),
    )

other_has : (outer : PolicyView) (slot : ℕ) (inner : PolicyView) → IsDivisible outer slot inner → (datapath s : ℕ) → s < length outer.slices → s ≢ slot → (h : Header)
    → HasWriteRule (rules_on datapath (flat outer slot inner).rules) (outer_slot (division_of outer slot inner) s) h ↔ HasWriteRule (rules_on datapath outer.rules) s h
unfolding flat
other_has outer slot inner is datapath s lt differs h =
    let d = division_of outer slot inner in
    let f = flat outer slot inner in
    let is_slot = more_by_one (length outer.slices) slot is.is_slot in
    let below = more_by_one (length outer.slices) s lt in (
      λ some.
          from_switch outer.rules datapath s h
          (others_of d is_slot datapath s below differs h (in_order outer.rules) (flat_some d (in_order outer.rules) datapath (outer_slot d s) h (on_switch f.rules datapath (outer_slot d s) h some))),
      λ some.
          from_switch f.rules datapath (outer_slot d s) h (some_flat d (in_order outer.rules) datapath (outer_slot d s) h
          (of_others d is_slot datapath s below differs h (in_order outer.rules) (on_switch outer.rules datapath s h some))),
    )

-- ---- what slices write

writes_iff : (p : PolicyView) → IsPolicy p.slices p.rules → (datapath slot : ℕ) (h : Header) → IsHeader h → Writes (rules_on datapath p.rules) slot h ↔ HasWriteRule (rules_on datapath p.rules) slot h
writes_iff p policy datapath slot h range = Writes-iff p.slices (rules_on datapath p.rules) (IsSwitchPolicy-rules_on p.slices p.rules datapath policy) slot h range

pub inner_write : (outer : PolicyView) (slot : ℕ) (inner : PolicyView) → IsDivisible outer slot inner → IsPolicy (flat outer slot inner).slices (flat outer slot inner).rules → (datapath t : ℕ) (h : Header) → IsHeader h
    → Writes (rules_on datapath (flat outer slot inner).rules) (inner_slot (division_of outer slot inner) t) h ↔ (Writes (rules_on datapath outer.rules) slot h × Writes (rules_on datapath inner.rules) t h)
inner_write outer slot inner is policy datapath t h range =
    let has_rule = inner_has outer slot inner is datapath t h in
    let of_flat = writes_iff (flat outer slot inner) policy datapath (inner_slot (division_of outer slot inner) t) h range in
    let of_outer = writes_iff outer is.outer_policy datapath slot h range in
    let of_inner = writes_iff inner is.inner_policy datapath t h range in (
      λ writes. let both = has_rule.0 (of_flat.0 writes) in (of_outer.1 both.0, of_inner.1 both.1),
      λ both. of_flat.1 (has_rule.1 (of_outer.0 both.0, of_inner.0 both.1)),
    )

pub other_write : (outer : PolicyView) (slot : ℕ) (inner : PolicyView) → IsDivisible outer slot inner → IsPolicy (flat outer slot inner).slices (flat outer slot inner).rules → (datapath s : ℕ) → s < length outer.slices → s ≢ slot → (h : Header) → IsHeader h
    → Writes (rules_on datapath (flat outer slot inner).rules) (outer_slot (division_of outer slot inner) s) h ↔ Writes (rules_on datapath outer.rules) s h
other_write outer slot inner is policy datapath s lt differs h range =
    let has_rule = other_has outer slot inner is datapath s lt differs h in
    let of_flat = writes_iff (flat outer slot inner) policy datapath (outer_slot (division_of outer slot inner) s) h range in
    let of_outer = writes_iff outer is.outer_policy datapath s h range in
    (λ writes. of_outer.1 (has_rule.0 (of_flat.0 writes)), λ writes. of_flat.1 (has_rule.1 (of_outer.0 writes)))

-- ---- pieces

pub inner_pieces : (outer : PolicyView) (slot : ℕ) (inner : PolicyView) → IsDivisible outer slot inner → (datapath t : ℕ) (m : Pattern) (h : Header)
    → Any (λ x. Has x h) (pieces_of (rules_on datapath (flat outer slot inner).rules) (inner_slot (division_of outer slot inner) t) m)
    ↔ (Any (λ x. Has x h) (pieces_of (rules_on datapath outer.rules) slot m) × Any (λ x. Has x h) (pieces_of (rules_on datapath inner.rules) t m))
inner_pieces outer slot inner is datapath t m h =
    let has_rule = inner_has outer slot inner is datapath t h in
    let of_flat = Any-pieces_of (rules_on datapath (flat outer slot inner).rules) (inner_slot (division_of outer slot inner) t) m h in
    let of_outer = Any-pieces_of (rules_on datapath outer.rules) slot m h in
    let of_inner = Any-pieces_of (rules_on datapath inner.rules) t m h in (
      λ some. let at = of_flat.0 some in let both = has_rule.0 at.1 in (of_outer.1 (at.0, both.0), of_inner.1 (at.0, both.1)),
      λ both. let left = of_outer.0 both.0 in of_flat.1 (left.0, has_rule.1 (left.1, (of_inner.0 both.1).1)),
    )
