use Rattle.std.proofs.Common.{◌≡◌, drop}
use Rattle.toml.specs.View.{items_view}
use Rattle.policy_text.specs.Slices.{slices_from}
use Rattle.of10_model.proofs.Results.{with_front}
use Rattle.policy_text.proofs.slices.slices.Given as goal

abbrev pub invariant-loop-index : goal.invariant-loop-index
invariant-loop-index l = with_front l.slices.items (slices_from l.index (items_view (drop l.index l.values))) ≡ slices_from 0 (items_view l.values)
