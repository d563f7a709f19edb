use Rattle.std.proofs.Common.{ℕ, ◌≡◌, ◌≤◌, ◌-◌, length, Some, None, Option, slice_get}
use Rattle.event_player.specs.declared.switch.Switch.{Switch}
use Rattle.event_player.proofs.all_switches.no_switches.Given as goal

abbrev pub invariant-loop-switches : goal.invariant-loop-switches
invariant-loop-switches l = record {
  few : length l.switches.items ≤ 16;
  each : (number : ℕ) (switch : Option Switch) → slice_get l.switches.items number ≡ Some switch → switch ≡ None;
}

abbrev pub decreases-loop-switches : goal.decreases-loop-switches
decreases-loop-switches l = 16 - length l.switches.items
