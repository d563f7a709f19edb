use Rattle.std.proofs.Common.{subst}
use Rattle.turn_desk.specs.Histories.{Called}
use Rattle.live_desk.specs.declared.object.DeskOp.TheVariants.{Take}
use Rattle.live_desk.specs.Operates.{Operates}
use Rattle.live_session.proofs.Wanting.{not_stepped, taking_one}
use Rattle.live_session.proofs.writer.take.Goals as goal

pub unreachable-requires : goal.unreachable-requires
unreachable-requires g c =
    let v = c.args.seat.now.seat.me.0 in
    let w = c.submit.new.seat.seat.me.0 in
    not_stepped c.args.dest v w c.in-Ok-Stepped.field-0-0 (subst (λ r. Called Operates v (Take c.args.dest) r w) c.in-Ok-Stepped.field-0-is c.in-Ok-Stepped.ensures.called)

pub returns-in-Ok-Took-clause-took : goal.returns-in-Ok-Took-clause-took
returns-in-Ok-Took-clause-took g c =
    let v = c.args.seat.now.seat.me.0 in
    let w = c.submit.new.seat.seat.me.0 in
    taking_one c.args.dest v w c.args.seat.now.left c.submit.new.seat.left c.in-Ok-Took.taken (subst (λ r. Called Operates v (Take c.args.dest) r w) c.in-Ok-Took.field-0-is c.in-Ok-Took.ensures.called) c.in-Ok-Took.ensures.fewer
