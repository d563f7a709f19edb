use Rattle.std.proofs.Common.{ℕ, ◌≡◌, ◌≤◌, ◌-◌, length, Some, slice_get}
use Rattle.trace_audit.specs.declared.switch.Switch.{Switch}
use Rattle.trace_audit.specs.Standing.{IsFresh}
use Rattle.trace_audit.proofs.auditing.fresh_switches.Given as goal

abbrev pub invariant-loop-alloc : goal.invariant-loop-alloc
invariant-loop-alloc l = record {
  few : length l.switches.items ≤ 16;
  each : (number : ℕ) (s : Switch) → slice_get l.switches.items number ≡ Some s → IsFresh s;
}

abbrev pub decreases-loop-alloc : goal.decreases-loop-alloc
decreases-loop-alloc l = 16 - length l.switches.items
