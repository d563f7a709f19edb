use Rattle.std.proofs.Common.{ℕ, ◌∷◌, true, false, subst}
use Rattle.desk_words.specs.Recorded.{timed_at}
use Rattle.desk_words.specs.Sent.{sent_by, lane_by}
use Rattle.desk_words.specs.Reports.{event_lines}
use Rattle.event_player.specs.Telling.{says}
use Rattle.event_player.proofs.Players.{told_none, memory_on}
use Rattle.event_player.proofs.Turning.{Answered, taken_going, taken_closing, refused, told_taken, told_over}
use Rattle.event_player.proofs.player.Player.take_in.Goals as goal

pub returns-in_err-step : goal.returns-in_err-step
returns-in_err-step g c = λ scene h is quiet framed one.
    told_none (says g.T.Teller.Tells) scene c.from_residual.result (event_lines scene.policy scene.place h (timed_at scene.moment c.args.event)) c.args.self.now (memory_on _ c.from_residual.result c.from_residual.ensures.1 c.in_err-step.ensures.memory)

pub returns-in-Go : goal.returns-in-Go
returns-in-Go g c = λ scene h is quiet framed one.
    let p = scene.policy in
    let timed = timed_at scene.moment c.args.event in
    let answered = subst (λ (m : ℕ). Answered p h (timed_at m c.args.event) c.in_ok-step.field-0 c.step.new.desk) is.moment (c.in_ok-step.ensures.after p h quiet framed one) in
    let taken = taken_going p h timed _ c.step.new.desk c.in-Go.is answered in
    told_taken (says g.T.Teller.Tells) scene h timed false c.step.new.desk c.put_taken.new.desk _ c.put_taken.result c.args.self.now c.put_taken.new.self taken c.speaker-speaker.ensures
    (c.put_taken.ensures scene (timed ∷ h) (λ slot. sent_by p slot h timed) (lane_by p h timed) is taken.holds)

pub returns-in-Close : goal.returns-in-Close
returns-in-Close g c = λ scene h is quiet framed one.
    let p = scene.policy in
    let timed = timed_at scene.moment c.args.event in
    let answered = subst (λ (m : ℕ). Answered p h (timed_at m c.args.event) c.in_ok-step.field-0 c.step.new.desk) is.moment (c.in_ok-step.ensures.after p h quiet framed one) in
    let taken = taken_closing p h timed _ c.step.new.desk c.in-Close.is answered in
    told_taken (says g.T.Teller.Tells) scene h timed true c.step.new.desk c.put_taken-in-Close.new.desk _ c.put_taken-in-Close.result c.args.self.now c.put_taken-in-Close.new.self taken c.speaker-speaker.ensures
    (c.put_taken-in-Close.ensures scene (timed ∷ h) (λ slot. sent_by p slot h timed) (lane_by p h timed) is taken.holds)

pub returns-in-Ended : goal.returns-in-Ended
returns-in-Ended g c = λ scene h is quiet framed one.
    let p = scene.policy in
    let timed = timed_at scene.moment c.args.event in
    let answered = subst (λ (m : ℕ). Answered p h (timed_at m c.args.event) c.in_ok-step.field-0 c.step.new.desk) is.moment (c.in_ok-step.ensures.after p h quiet framed one) in
    told_over (says g.T.Teller.Tells) scene h timed c.step.new.desk _ c.put_over.result c.args.self.now c.put_over.new.self (refused p h timed _ c.step.new.desk c.in-Ended.is answered) c.speaker-speaker.ensures
    (c.put_over.ensures scene h is (refused p h timed _ c.step.new.desk c.in-Ended.is answered).1)
