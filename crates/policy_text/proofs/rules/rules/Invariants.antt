use Rattle.std.proofs.Common.{◌≡◌, drop}
use Rattle.toml.specs.View.{items_view}
use Rattle.policy_text.specs.Rules.{rules_from}
use Rattle.of10_model.proofs.Results.{with_front}
use Rattle.policy_text.proofs.rules.rules.Given as goal

abbrev pub invariant-loop-index : goal.invariant-loop-index
invariant-loop-index l = with_front l.rules.items (rules_from l.names l.index (items_view (drop l.index l.values))) ≡ rules_from l.names 0 (items_view l.values)
