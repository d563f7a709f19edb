use Rattle.std.proofs.Common.{◌≡◌, drop, map}
use Rattle.toml.specs.View.{items_view}
use Rattle.policy_text.specs.Reading.{each_text}
use Rattle.policy_text.proofs.Loop.{after_front}
use Rattle.policy_text.proofs.values.each_text.Given as goal

abbrev pub invariant-loop-value : goal.invariant-loop-value
invariant-loop-value l = after_front (map (λ s. s.now) l.texts.items) (each_text (items_view (drop l.value-index l.values))) ≡ each_text (items_view l.values)
