use Rattle.std.proofs.Common.{subst}
use Rattle.turn_desk.specs.Histories.{Called}
use Rattle.turn_desk.specs.Seats.{view}
use Rattle.live_desk.specs.declared.object.DeskOp.TheVariants.{Step}
use Rattle.live_desk.specs.Operates.{Operates}
use Rattle.live_session.proofs.Going.{not_took}
use Rattle.live_session.proofs.reader.step.Goals as goal

pub unreachable-requires : goal.unreachable-requires
unreachable-requires g c =
    let v = view c.args.seat.now in
    let w = view c.submit.new.seat in
    not_took v w c.args.timed c.in-Ok-Took.field-0-0 (subst (λ r. Called Operates v (Step c.args.timed) r w) c.in-Ok-Took.field-0-is c.in-Ok-Took.ensures.called)
