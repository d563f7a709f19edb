use Rattle.std.proofs.Common.{arith}
use Rattle.turn_desk.proofs.Keeps.{meets, idle_view, empty_view}
use Rattle.turn_desk.proofs.parts.TurnDesk.merge.Goals as goal

pub join_seat-requires : goal.join_seat-requires
join_seat-requires g c = (
  c.requires.desk.0,
  c.requires.desk.1,
  empty_view c.args.other.me c.requires.idle.1,
  (let w = c.args.self.now.words in omega arith),
  meets g.O.Object.acts c.args.self.now.table.shared.key.value c.args.seat.now.id c.args.other.id c.args.seat.now.me.0 c.args.other.me.0 (idle_view c.args.seat.now.me c.requires.idle.0) (idle_view c.args.other.me c.requires.idle.1),
)
