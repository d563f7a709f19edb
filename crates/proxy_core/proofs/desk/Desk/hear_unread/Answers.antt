use Rattle.std.proofs.Common.{Result, Err, refl, sym, ap, ◌∙◌}
use Rattle.std.proofs.lemmas.Result.{IfOk-weaker}
use Rattle.of10_message.specs.declared.fault.Unread.{Unread}
use Rattle.of10_message.specs.Switch.{SwitchMessage}
use Rattle.proxy_core.proofs.Beginning.{bad_said, other_fault}
use Rattle.proxy_core.proofs.Switched.{begun_ends}
use Rattle.proxy_core.proofs.desk.Desk.hear_unread.Goals as goal

pub returns-in-BadLength-clause-ok : goal.returns-in-BadLength-clause-ok
returns-in-BadLength-clause-ok c moment message read =
    begun_ends c.args.self.now c.end.new.self moment message c.end.ensures.ended (bad_said message (read ∙ ap (λ (fault : Unread). let said : Result SwitchMessage Unread = Err fault in said) c.in-BadLength.is))

pub returns-in_default-clause-ok : goal.returns-in_default-clause-ok
returns-in_default-clause-ok c = IfOk-weaker c.answer.result _ _
    (λ go acts moment message read. acts moment message (Err c.args.fault) read (other_fault c.args.fault c.in_default.not-BadLength) refl (sym c.new.ensures.items)) c.answer.ensures.ok
