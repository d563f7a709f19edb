use Rattle.std.proofs.Common.{ℕ, Ok, refl, ap, sym, ◌∙◌}
use Rattle.std.proofs.lemmas.Result.{IfOk-weaker}
use Rattle.of10_message.specs.SwitchViews.{said_by}
use Rattle.desk_words.specs.Sent.{echo_said}
use Rattle.proxy_core.proofs.Beginning.{other_said}
use Rattle.proxy_core.proofs.desk.Desk.hear_said.Goals as goal

pub returns-in-FeaturesReply-clause-ok : goal.returns-in-FeaturesReply-clause-ok
returns-in-FeaturesReply-clause-ok c = IfOk-weaker c.open.result _ _
    (λ go acts moment message read same. acts moment message (read ∙ ap (λ said. Ok (said_by said)) c.in-FeaturesReply.is)) c.open.ensures.ok

pub returns-in_ok-messages-in_default-clause-ok : goal.returns-in_ok-messages-in_default-clause-ok
returns-in_ok-messages-in_default-clause-ok c = IfOk-weaker c.answer.result _ _
    (λ go acts moment message read same. acts moment message (Ok (said_by c.args.said.now)) read refl (other_said c.args.said.now c.in_default.not-FeaturesReply)
    (ap (λ (xid : ℕ). echo_said xid (Ok (said_by c.args.said.now))) same ∙ sym c.in_ok-messages-in_default.ensures)) c.answer.ensures.ok
