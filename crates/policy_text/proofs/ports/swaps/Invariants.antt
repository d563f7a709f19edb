use Rattle.std.proofs.Common.{◌≡◌, drop}
use Rattle.toml.specs.View.{items_view}
use Rattle.policy_text.specs.Ports.{swaps_from}
use Rattle.of10_model.proofs.Results.{with_front}
use Rattle.policy_text.proofs.ports.swaps.Given as goal

abbrev pub invariant-loop-index : goal.invariant-loop-index
invariant-loop-index l = with_front l.swaps.items (swaps_from l.names l.index (items_view (drop l.index l.values))) ≡ swaps_from l.names 0 (items_view l.values)
