-- Which booked pairs stay, and that each other one is planned.
use Rattle.std.proofs.Common.{◌≡◌, ℕ, suc, zero, ◌+◌, not, cond, Bool, true, false, List, [], ◌∷◌, ◌++◌, filter, length, take, drop, get_or, Option, Some, None, sym, ap, ap₂, subst, ◌∙◌, ◌<◌, inl, inr, refl, append_assoc}
use Rattle.std.specs.Prelude.{All, ◌↔◌, Contains, slice_get, IsTrue}
use Rattle.std.specs.List.{list_any}
use Rattle.std.proofs.lemmas.Bool.{and_from, and_parts, cases_Bool}
use Rattle.std.proofs.lemmas.List.{append-nil, drop_more, take_more}
use Rattle.std.proofs.lemmas.List.Elements.{Contains-append_left, Contains-append_right, All-push, filter_more}
use Rattle.std.proofs.lemmas.List.Folds.{Any-from_list_any, list_any-from_Any}
use Rattle.std.proofs.lemmas.Option.{slice_get_within, get_or_from_slice_get}
use Rattle.of10_model.specs.declared.pattern.Pattern.{Pattern}
use Rattle.of10_model.specs.Normal.{IsNormal}
use Rattle.of10_model.specs.Inclusion.{includes_of}
use Rattle.of10_model.proofs.Including.{Has-includes, includes-Includes}
use Rattle.of10_flow.proofs.Choosing.{Contains-iff, filter_among}
use Rattle.flowspace.specs.declared.rules.Rule.{Rule}
use Rattle.flowspace.specs.declared.slices.Slice.{Slice}
use Rattle.flowspace.specs.Rules.{is_written_by}
use Rattle.flowspace.specs.Owners.{Owns}
use Rattle.flowspace.specs.Places.{covers_match}
use Rattle.flowspace.specs.Policies.{SwitchView, AreNormal}
use Rattle.flowspace.specs.Slices.{slot_named}
use Rattle.flowspace.proofs.Refusing.{is_value-Some, Some-is_value}
use Rattle.flow_book.specs.declared.booked.Booked.{Booked}
use Rattle.flow_book.specs.declared.state.SliceState.{SliceState}
use Rattle.flow_book.specs.Order.{ArePairsInOrder}
use Rattle.policy_change.specs.Planned.{stays, planned_of, planned, books_of, LiesInOneRule, OthersLieInOneRule}

-- ---- a match that lies in one rule of a slice

covered_lies : (rules : List Rule) (slot : ℕ) (m : Pattern) → list_any (λ rule. covers_match slot true rule m) rules ≡ true → Owns rules slot m
covered_lies rules slot m found =
    let some = Any-from_list_any (λ rule. covers_match slot true rule m) rules found in
    let covers = and_parts (is_written_by slot some.1) (includes_of some.1.pattern m) some.4 in
    (some.0, some.1, some.2, some.3, (is_value-Some slot some.1.writer covers.0, λ h range in_m. Has-includes some.1.pattern m covers.1 h in_m))

lying_is_covered : (rules : List Rule) → AreNormal rules → (slot : ℕ) (m : Pattern) → IsNormal m → Owns rules slot m → list_any (λ rule. covers_match slot true rule m) rules ≡ true
lying_is_covered rules normal slot m normal_m some =
    let normal_rule : IsNormal some.1.pattern = rw some.3 at (normal some.0 some.1 some.2) in
    let includes = includes-Includes some.1.pattern m normal_rule.0 normal_m.0 some.4.1 in
    list_any-from_Any (λ rule. covers_match slot true rule m) rules
    (some.0, some.1, some.2, some.3, and_from (is_written_by slot some.1) (includes_of some.1.pattern m) (Some-is_value slot some.1.writer some.4.0) includes)

-- ---- the same by the slice's name

staying_lies : (policy : SwitchView) (s : Slice) (b : Booked) (own : Option ℕ) → slot_named policy.slices s.name ≡ own → stays policy.rules own b ≡ true → LiesInOneRule policy s b
staying_lies policy s b None named found = absurd (let clash : false ≡ true = found in cc)
staying_lies policy s b (Some slot) named found = record { slot = slot; named = named; owns = covered_lies policy.rules slot b.pattern found }

pub stays-LiesInOneRule : (policy : SwitchView) (s : Slice) (b : Booked) → AreNormal policy.rules → IsNormal b.pattern → IsTrue (stays policy.rules (slot_named policy.slices s.name) b) ↔ LiesInOneRule policy s b
stays-LiesInOneRule policy s b normal normal_b = (
  staying_lies policy s b (slot_named policy.slices s.name) refl,
  λ lies. rw lies.named (lying_is_covered policy.rules normal lies.slot b.pattern normal_b lies.owns),
)

-- ---- each other pair is planned

planned_one : (new : SwitchView) (s : Slice) (pairs : List Booked) (b : Booked) → Contains pairs b → stays new.rules (slot_named new.slices s.name) b ≡ false → Contains (planned_of new s pairs) b
planned_one new s pairs b at goes =
    let p : Booked → Bool = λ b. not (stays new.rules (slot_named new.slices s.name) b) in
    (Contains-iff (filter p pairs) b).1 (filter_among p pairs b ((Contains-iff pairs b).0 at) (ap not goes))

planned_at : (new : SwitchView) (slices : List Slice) (states : List SliceState) (slot : ℕ) (s : Slice) (state : SliceState) (b : Booked)
    → slice_get slices slot ≡ Some s → slice_get states slot ≡ Some state → Contains (planned_of new s state.book.booked) b → Contains (planned new slices (books_of states)) b
planned_at new [] states slot s state b is_slice is_state at = absurd (let clash : None ≡ Some s = is_slice in cc)
planned_at new (x ∷ slices) [] slot s state b is_slice is_state at = absurd (let clash : None ≡ Some state = is_state in cc)
planned_at new (x ∷ slices) (y ∷ states) zero s state b is_slice is_state at =
    let is_x : x ≡ s = cc in
    let is_y : y ≡ state = cc in
    Contains-append_left (planned_of new x y.book.booked) (planned new slices (books_of states)) b (rw (is_x, is_y) at)
planned_at new (x ∷ slices) (y ∷ states) (suc slot) s state b is_slice is_state at =
    Contains-append_right (planned_of new x y.book.booked) (planned new slices (books_of states)) b (planned_at new slices states slot s state b is_slice is_state at)

pub others_lie : (new : SwitchView) (slices : List Slice) (states : List SliceState) → OthersLieInOneRule new slices states
others_lie new slices states s b is = elim (cases_Bool (stays new.rules (slot_named new.slices s.name) b)) [
  | inl found ↦ inr (staying_lies new s b (slot_named new.slices s.name) refl found)
  | inr goes ↦ inl (planned_at new slices states is.slot s is.state b is.is_slice is.is_state (planned_one new s is.state.book.booked b is.booked goes))
]

-- ---- the pairs of a book one after another

-- one pair more
planned_more : (new : SwitchView) (s : Slice) (pairs : List Booked) (place : ℕ) (b : Booked) → slice_get pairs place ≡ Some b
    → planned_of new s (take (place + 1) pairs) ≡ planned_of new s (take place pairs) ++ cond (not (stays new.rules (slot_named new.slices s.name) b)) (b ∷ []) []
planned_more new s pairs place b at =
    let p : Booked → Bool = λ b. not (stays new.rules (slot_named new.slices s.name) b) in
    filter_more p pairs place b (slice_get_within pairs place b at) ∙ ap (λ x. filter p (take place pairs) ++ cond (p x) (x ∷ []) []) (get_or_from_slice_get pairs place b b at)

-- it doesn't stay, and is put behind the others
pub planned_one_more : (new : SwitchView) (s : Slice) (pairs to before after : List Booked) (place : ℕ) (b : Booked) → slice_get pairs place ≡ Some b → stays new.rules (slot_named new.slices s.name) b ≡ false
    → before ≡ to ++ planned_of new s (take place pairs) → after ≡ before ++ (b ∷ []) → after ≡ to ++ planned_of new s (take (place + 1) pairs)
planned_one_more new s pairs to before after place b at goes so_far pushed =
    pushed ∙ ap (λ l. l ++ (b ∷ [])) so_far ∙ append_assoc to (planned_of new s (take place pairs)) (b ∷ [])
    ∙ ap (λ l. to ++ l) (sym (planned_more new s pairs place b at ∙ ap (λ stay. planned_of new s (take place pairs) ++ cond (not stay) (b ∷ []) []) goes))

-- it stays
pub planned_no_more : (new : SwitchView) (s : Slice) (pairs to before : List Booked) (place : ℕ) (b : Booked) → slice_get pairs place ≡ Some b → stays new.rules (slot_named new.slices s.name) b ≡ true
    → before ≡ to ++ planned_of new s (take place pairs) → before ≡ to ++ planned_of new s (take (place + 1) pairs)
planned_no_more new s pairs to before place b at stay so_far =
    so_far
    ∙ ap (λ l. to ++ l) (sym (planned_more new s pairs place b at ∙ ap (λ stay. planned_of new s (take place pairs) ++ cond (not stay) (b ∷ []) []) stay ∙ append-nil (planned_of new s (take place pairs))))

-- ---- the books one after another

-- one slice more
pub slices_one_more : (new : SwitchView) (slices : List Slice) (states : List SliceState) (place next : ℕ) (s : Slice) (state : SliceState) (before after all : List Booked)
    → place < length slices → place < length states → s ≡ get_or slices place s → state ≡ get_or states place state → next ≡ place + 1
    → before ++ planned new (drop place slices) (books_of (drop place states)) ≡ all → after ≡ before ++ planned_of new s state.book.booked
    → after ++ planned new (drop next slices) (books_of (drop next states)) ≡ all
slices_one_more new slices states place next s state before after all in_slices in_states is_s is_state is_next so_far put =
    let rest = planned new (drop (place + 1) slices) (books_of (drop (place + 1) states)) in
    let at_slice : drop place slices ≡ s ∷ drop (place + 1) slices = drop_more slices place s in_slices ∙ ap (λ x. x ∷ drop (place + 1) slices) (sym is_s) in
    let at_state : drop place states ≡ state ∷ drop (place + 1) states = drop_more states place state in_states ∙ ap (λ x. x ∷ drop (place + 1) states) (sym is_state) in
    let split : planned new (drop place slices) (books_of (drop place states)) ≡ planned_of new s state.book.booked ++ rest = ap₂ (λ xs ys. planned new xs (books_of ys)) at_slice at_state in
    ap₂ (λ l n. l ++ planned new (drop n slices) (books_of (drop n states))) put is_next
    ∙ append_assoc before (planned_of new s state.book.booked) rest ∙ ap (λ l. before ++ l) (sym split) ∙ so_far

-- each book so far is in order
pub states_one_more : (states : List SliceState) (place next : ℕ) (state : SliceState) → place < length states → state ≡ get_or states place state → next ≡ place + 1 → ArePairsInOrder state.book.booked
    → All (λ (x : SliceState). ArePairsInOrder x.book.booked) (take place states) → All (λ (x : SliceState). ArePairsInOrder x.book.booked) (take next states)
states_one_more states place next state within is is_next order so_far =
    let P : SliceState → Type 0 = λ (x : SliceState). ArePairsInOrder x.book.booked in
    subst (λ xs. All P xs) (sym (take_more states place state within ∙ ap (λ x. take place states ++ x ∷ []) (sym is)) ∙ ap (λ n. take n states) (sym is_next)) (All-push P (take place states) state so_far order)
