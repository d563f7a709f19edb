use Rattle.std.specs.declared.option.Option.TheVariants.{Some}
use Rattle.turn_desk.proofs.Wraps.{one_row}
use Rattle.turn_desk.proofs.parts.TurnDesk.act_in_place.Goals as goal

pub slot_mut-requires : goal.slot_mut-requires
slot_mut-requires g c = (c.requires.desk, (Some c.requires.turn.0, one_row c.args.seat.now.me.1 c.requires.turn.0 c.requires.turn.1))
