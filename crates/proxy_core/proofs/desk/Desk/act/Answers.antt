use Rattle.std.proofs.Common.{ℕ, IfOk}
use Rattle.std.proofs.lemmas.Result.{IfOk-weaker}
use Rattle.desk_words.specs.declared.event.Event.TheVariants.{SwitchUp, SwitchMsg, SwitchDown, SliceUp, SliceMsg, SliceDown}
use Rattle.proxy_core.specs.Desks.{Acts}
use Rattle.proxy_core.proofs.Switched.{at_event}
use Rattle.proxy_core.proofs.desk.Desk.act.Goals as goal

pub returns-in-SwitchUp-clause-ok : goal.returns-in-SwitchUp-clause-ok
returns-in-SwitchUp-clause-ok c = IfOk-weaker c.greet.result _ _
    (λ go acts. at_event c.args.self.now c.greet.new.self c.args.timed SwitchUp go c.in-SwitchUp.is (acts c.args.timed.moment)) c.greet.ensures.ok

pub returns-in-SwitchMsg-clause-ok : goal.returns-in-SwitchMsg-clause-ok
returns-in-SwitchMsg-clause-ok c =
    let heard : IfOk c.take_in.result (λ go. (moment : ℕ) → Acts c.args.self.now (record { event = SwitchMsg c.in-SwitchMsg.frame; moment = moment }) go c.take_in.new.self) = rw c.in-SwitchMsg.is at c.take_in.ensures.ok in
    IfOk-weaker c.take_in.result _ _ (λ go acts. at_event c.args.self.now c.take_in.new.self c.args.timed (SwitchMsg c.in-SwitchMsg.frame) go c.in-SwitchMsg.is (acts c.args.timed.moment)) heard

pub returns-in-SwitchDown-clause-ok : goal.returns-in-SwitchDown-clause-ok
returns-in-SwitchDown-clause-ok c =
    at_event c.args.self.now c.lose_switch.new.self c.args.timed SwitchDown c.lose_switch.result c.in-SwitchDown.is (c.lose_switch.ensures.acts c.args.timed.moment)

pub returns-in-SliceUp-clause-ok : goal.returns-in-SliceUp-clause-ok
returns-in-SliceUp-clause-ok c = IfOk-weaker c.greet_slice.result _ _
    (λ go acts. at_event c.args.self.now c.greet_slice.new.self c.args.timed (SliceUp c.in-SliceUp.slot) go c.in-SliceUp.is (acts c.args.timed.moment)) c.greet_slice.ensures.ok

pub returns-in-SliceMsg-clause-ok : goal.returns-in-SliceMsg-clause-ok
returns-in-SliceMsg-clause-ok c =
    let heard : IfOk c.hear_slice.result (λ go. Acts c.args.self.now (record { event = SliceMsg c.in-SliceMsg.slot c.in-SliceMsg.frame; moment = c.args.timed.moment }) go c.hear_slice.new.self) = rw c.in-SliceMsg.is at c.hear_slice.ensures.ok in
    IfOk-weaker c.hear_slice.result _ _ (λ go acts. at_event c.args.self.now c.hear_slice.new.self c.args.timed (SliceMsg c.in-SliceMsg.slot c.in-SliceMsg.frame) go c.in-SliceMsg.is acts) heard

pub returns-in-SliceDown-clause-ok : goal.returns-in-SliceDown-clause-ok
returns-in-SliceDown-clause-ok c =
    at_event c.args.self.now c.lose_slice.new.self c.args.timed (SliceDown c.in-SliceDown.slot) c.lose_slice.result c.in-SliceDown.is (c.lose_slice.ensures.acts c.args.timed.moment)
