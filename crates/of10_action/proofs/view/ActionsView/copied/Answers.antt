use Rattle.std.proofs.Common.{Ok, Err, ap, ◌∙◌}
use Rattle.of10_action.proofs.Views.{some_action}
use Rattle.of10_action.proofs.view.ActionsView.copied.Goals as goal

pub returns-in-Err-Memory-clause-memory : goal.returns-in-Err-Memory-clause-memory
returns-in-Err-Memory-clause-memory c = λ _. some_action c.self.inside.bytes.now c.args.self.now (c.self.invariant ∙ ap (λ actions. Ok actions) c.self.view_is) (c.in-Err-Memory.ensures.memory (ap (λ fault. Err fault) c.in-Err-Memory.field-0-is))
