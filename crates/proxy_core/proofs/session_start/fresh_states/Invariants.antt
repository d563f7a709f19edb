use Rattle.std.proofs.Common.{ℕ, ◌≡◌, Some, length, slice_get}
use Rattle.flowspace.specs.declared.slices.Slice.{Slice}
use Rattle.flow_book.specs.declared.state.SliceState.{SliceState}
use Rattle.flow_book.specs.States.{IsFreshState}
use Rattle.proxy_core.proofs.session_start.fresh_states.Given as goal

abbrev pub invariant-loop-place : goal.invariant-loop-place
invariant-loop-place l = record {
  count : length l.states.items ≡ l.place;
  each : (slot : ℕ) (slice : Slice) (state : SliceState) → slice_get l.slices slot ≡ Some slice → slice_get l.states.items slot ≡ Some state → IsFreshState slot slice state;
}
