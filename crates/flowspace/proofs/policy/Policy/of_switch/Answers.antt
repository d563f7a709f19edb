use Rattle.flowspace.proofs.Parts.{IsSwitchPolicy-rules_on}
use Rattle.flowspace.proofs.Swapping.{AreSwaps-swaps_on}
use Rattle.flowspace.proofs.policy.Policy.of_switch.Goals as goal

pub of-requires : goal.of-requires
of-requires c = record {
  policy = rw (c.in_ok-slices.ensures, c.in_ok-rules.ensures, c.deref.ensures.value, c.deref-2.ensures.value) (IsSwitchPolicy-rules_on c.self.inside.slices.items c.self.inside.rules.items c.args.datapath c.self.invariant.0);
  swaps = rw (c.in_ok-slices.ensures, c.in_ok-swaps.ensures, c.deref.ensures.value, c.deref-3.ensures.value) (AreSwaps-swaps_on _ c.args.datapath c.self.inside.swaps.items c.self.invariant.1);
}
