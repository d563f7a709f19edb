use Rattle.std.proofs.Common.{◌≡◌, length, map}
use Rattle.policy_text.specs.Rules.{slots_of}
use Rattle.of10_model.proofs.Results.{with_front}
use Rattle.policy_text.proofs.names.slots.Given as goal

abbrev pub invariant-loop-rest : goal.invariant-loop-rest
invariant-loop-rest l = with_front l.slots.items (slots_of l.names l.index (map (λ s. s.now) l.rest)) ≡ slots_of l.names l.index (map (λ s. s.now) l.readers)

abbrev pub decreases-loop-rest : goal.decreases-loop-rest
decreases-loop-rest l = length l.rest
