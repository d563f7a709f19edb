use Rattle.std.proofs.Common.{refl, inl, inr}
use Rattle.std.proofs.lemmas.Result.{IfOk-weaker}
use Rattle.desk_words.specs.declared.event.Event.TheVariants.{SwitchMsg}
use Rattle.desk_words.specs.declared.phase.Phase.TheVariants.{Begun, Opened}
use Rattle.proxy_core.proofs.Events.{fresh_idle}
use Rattle.proxy_core.proofs.Switched.{acts_of, ended_never}
use Rattle.proxy_core.proofs.desk.Desk.hear_switch.Goals as goal

pub returns-in-Begun-clause-ok : goal.returns-in-Begun-clause-ok
returns-in-Begun-clause-ok c = IfOk-weaker c.hear_first.result _ _
    (λ go acts moment. acts_of Begun c.args.self.now c.hear_first.new.self (record { event = SwitchMsg c.args.frame.now; moment = moment }) go c.in-Begun.is (acts moment)) c.hear_first.ensures.ok

pub returns-in-Opened-clause-ok : goal.returns-in-Opened-clause-ok
returns-in-Opened-clause-ok c = IfOk-weaker c.hear_later.result _ _
    (λ go acts moment. acts_of Opened c.args.self.now c.hear_later.new.self (record { event = SwitchMsg c.args.frame.now; moment = moment }) go c.in-Opened.is (acts moment)) c.hear_later.ensures.ok

pub returns-in-Fresh-clause-ok : goal.returns-in-Fresh-clause-ok
returns-in-Fresh-clause-ok c moment = elim c.in-Fresh.is [
  | inl is ↦ fresh_idle c.args.self.now (SwitchMsg c.args.frame.now) moment is refl
  | inr is ↦ ended_never c.args.self.now c.args.self.now (record { event = SwitchMsg c.args.frame.now; moment = moment }) _ is
]
