use Rattle.std.proofs.Common.{arith}
use Rattle.turn_desk.proofs.Keeps.{cuts, idle_view}
use Rattle.turn_desk.proofs.parts.TurnDesk.cut.Goals as goal

pub split_seat-other-requires : goal.split_seat-other-requires
split_seat-other-requires g c = (
  c.requires.desk,
  (let w = c.args.self.now.words in omega arith),
  cuts g.O.Object.acts c.args.self.now.table.shared.key.value c.args.seat.now.seat.id g.W.Amount.calls c.args.seat.now.seat.me.0 (idle_view c.args.seat.now.seat.me c.args.seat.now.idle) (let p = c.args.seat.now.lefts in let q = c.requires.amount in let r = c.requires.enough in omega arith),
)
