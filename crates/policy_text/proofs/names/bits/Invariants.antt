use Rattle.std.proofs.Common.{◌≡◌, ◌<◌, ◌^◌}
use Rattle.policy_text.specs.Rules.{bits_below}
use Rattle.policy_text.proofs.names.bits.Given as goal

abbrev pub invariant-loop-slot : goal.invariant-loop-slot
invariant-loop-slot l = (l.bits ≡ bits_below l.slot l.slots) × (l.bits < 2 ^ l.slot)
