-- The plan for a switch, by what is kept of its slices, and the messages of a plan.
use Rattle.std.proofs.Common.{ℕ, suc, ◌≡◌, ◌+◌, ◌%◌, ◌^◌, List, [], ◌∷◌, length, map, Some, refl, sym, ap₂, subst, arith}
use Rattle.std.specs.Prelude.{All, slice_get}
use Rattle.std.specs.List.{enumerate_from}
use Rattle.std.proofs.lemmas.List.Elements.{All-nil, All-cons, All-head, All-tail}
use Rattle.of10_flow.specs.declared.flow_mod.FlowMod.{FlowMod}
use Rattle.of10_port.specs.declared.features.Features.{Features}
use Rattle.flowspace.specs.declared.slices.Slice.{Slice}
use Rattle.flowspace.specs.Policies.{PolicyView}
use Rattle.flow_book.specs.declared.booked.Booked.{Booked}
use Rattle.flow_book.specs.declared.state.SliceState.{SliceState}
use Rattle.flow_book.specs.Order.{ArePairsInOrder}
use Rattle.policy_change.specs.Plans.{deletion, plan_from}
use Rattle.policy_change.specs.Planned.{books_of}
use Rattle.slice_words.specs.Standing.{SliceStands, past_of}
use Rattle.slice_words.specs.Calls.{book_calls}
use Rattle.desk_words.specs.declared.event.Timed.{Timed}
use Rattle.desk_words.specs.Histories.{settings_at, side_of, view_of}
use Rattle.change_words.specs.Changes.{booked_after, books_after}
use Rattle.change_words.proofs.Ordered.{booked_in_order}

-- ---- messages

pub no_actions : (number : ℕ) (pairs : List Booked) → All (λ m. m.actions ≡ []) (plan_from number pairs)
no_actions number [] = All-nil (λ (m : FlowMod). m.actions ≡ [])
no_actions number (b ∷ rest) = All-cons (λ (m : FlowMod). m.actions ≡ []) (deletion (number % 2 ^ 32) b) (plan_from (number + 1) rest) refl (no_actions (number + 1) rest)

-- ---- books

-- the state of each slice belongs to what it sees
abbrev pub AreOfHistory : PolicyView → List Timed → Features → List SliceState → Type 0
AreOfHistory policy h features states = (slot : ℕ) (state : SliceState) → slice_get states slot ≡ Some state → SliceStands (settings_at policy slot (Some features)) (side_of policy slot h).sight state

book_is : (policy : PolicyView) (h : List Timed) (features : Features) (slot : ℕ) (state : SliceState)
    → SliceStands (settings_at policy slot (Some features)) (side_of policy slot h).sight state → ArePairsInOrder state.book.booked → state.book.booked ≡ booked_after policy h features slot
unfolding booked_after
book_is policy h features slot state stands ordered =
    let s = settings_at policy slot (Some features) in
    sym (booked_in_order (book_calls s (past_of s (view_of policy slot h))) state.book.booked (stands.book.same, ordered))

books_are : (policy : PolicyView) (h : List Timed) (features : Features) (n : ℕ) (slices : List Slice) (states : List SliceState) → length states ≡ length slices
    → ((slot : ℕ) (state : SliceState) → slice_get states slot ≡ Some state → SliceStands (settings_at policy (n + slot) (Some features)) (side_of policy (n + slot) h).sight state)
    → All (λ state. ArePairsInOrder state.book.booked) states
    → books_of states ≡ map (λ one. booked_after policy h features one.0) (enumerate_from n slices)
books_are policy h features n [] [] count stand ordered = refl
books_are policy h features n [] (state ∷ states) count stand ordered = absurd (omega (arith, count))
books_are policy h features n (s ∷ slices) [] count stand ordered = absurd (omega (arith, count))
books_are policy h features n (s ∷ slices) (state ∷ states) count stand ordered =
    let Ordered = λ (x : SliceState). ArePairsInOrder x.book.booked in
    let here : n + 0 ≡ n = omega arith in
    let first : SliceStands (settings_at policy n (Some features)) (side_of policy n h).sight state =
    subst (λ (at : ℕ). SliceStands (settings_at policy at (Some features)) (side_of policy at h).sight state) here (stand 0 state refl) in
    let later = λ (slot : ℕ) (x : SliceState) (is : slice_get states slot ≡ Some x).
    (let next : n + suc slot ≡ (n + 1) + slot = omega arith in
    subst (λ (at : ℕ). SliceStands (settings_at policy at (Some features)) (side_of policy at h).sight x) next (stand (suc slot) x is)) in
    ap₂ (λ (book : List Booked) (books : List (List Booked)). book ∷ books)
    (book_is policy h features n state first (All-head Ordered state states ordered))
    (books_are policy h features (n + 1) slices states (omega (arith, count)) later (All-tail Ordered state states ordered))

-- the books of all slices after a history
pub books_after_history : (policy : PolicyView) (h : List Timed) (features : Features) (states : List SliceState) → length states ≡ length policy.slices
    → AreOfHistory policy h features states → All (λ state. ArePairsInOrder state.book.booked) states → books_of states ≡ books_after policy h features
books_after_history policy h features states count stand ordered =
    books_are policy h features 0 policy.slices states count
    (λ slot state is. (let none : slot ≡ 0 + slot = omega arith in subst (λ (at : ℕ). SliceStands (settings_at policy at (Some features)) (side_of policy at h).sight state) none (stand slot state is)))
    ordered
