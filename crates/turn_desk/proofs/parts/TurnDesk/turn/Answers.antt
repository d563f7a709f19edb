use Rattle.std.proofs.Common.{◌≡◌, [], sym, subst}
use Rattle.turn_desk.specs.Rule.{passed_view}
use Rattle.turn_desk.proofs.Keeps.{idle_view}
use Rattle.turn_desk.proofs.Wraps.{waits_drawn, turned, turn_row, holds_here, called_here}
use Rattle.turn_desk.proofs.parts.TurnDesk.turn.Goals as goal

pub wait-requires-clause-waits : goal.wait-requires-clause-waits
wait-requires-clause-waits g c = waits_drawn g.O.Object.acts c.draw-ticket.result c.args.seat.now.me.0 c.draw-ticket.new.seat.me (idle_view c.args.seat.now.me c.requires.idle) c.draw-ticket.ensures.view

pub act_in_place-reply-requires-clause-turn : goal.act_in_place-reply-requires-clause-turn
act_in_place-reply-requires-clause-turn g c = turn_row g.O.Object.acts c.draw-ticket.result c.args.seat.now.me.0 c.wait.new.seat.me (turned g.O.Object.acts c.draw-ticket.result c.args.seat.now.me.0 c.draw-ticket.new.seat.me c.wait.new.seat.me (idle_view c.args.seat.now.me c.requires.idle) c.draw-ticket.ensures.view c.wait.ensures.turn)

pub pass-requires-clause-holds : goal.pass-requires-clause-holds
pass-requires-clause-holds g c =
    let h = turned g.O.Object.acts c.draw-ticket.result c.args.seat.now.me.0 c.draw-ticket.new.seat.me c.wait.new.seat.me (idle_view c.args.seat.now.me c.requires.idle) c.draw-ticket.ensures.view c.wait.ensures.turn in
    let a = c.act_in_place-reply.ensures.acted in
    holds_here g.O.Object.acts c.draw-ticket.result c.args.seat.now.me.0 c.wait.new.seat.me c.act_in_place-reply.new.seat.me a.0 a.1 _ _ h a.2 a.3 (subst (λ o. g.O.Object.acts a.0 o c.of.result.value a.1) (sym c.of-said.ensures) (subst (λ r. g.O.Object.acts a.0 c.args.op r a.1) (sym c.of.ensures) a.4))

pub returns-clause-called : goal.returns-clause-called
returns-clause-called g c =
    let h = turned g.O.Object.acts c.draw-ticket.result c.args.seat.now.me.0 c.draw-ticket.new.seat.me c.wait.new.seat.me (idle_view c.args.seat.now.me c.requires.idle) c.draw-ticket.ensures.view c.wait.ensures.turn in
    let a = c.act_in_place-reply.ensures.acted in
    called_here g.O.Object.acts c.draw-ticket.result c.args.seat.now.me.0 c.wait.new.seat.me c.act_in_place-reply.new.seat.me c.pass.new.seat.me a.0 a.1 c.args.op c.act_in_place-reply.result h a.2 a.3 a.4 (subst (λ o. c.pass.new.seat.me ≡ (passed_view o c.act_in_place-reply.result c.act_in_place-reply.new.seat.me.0, [])) c.of-said.ensures (subst (λ r. c.pass.new.seat.me ≡ (passed_view c.of-said.result.value r c.act_in_place-reply.new.seat.me.0, [])) c.of.ensures c.pass.ensures.view))
