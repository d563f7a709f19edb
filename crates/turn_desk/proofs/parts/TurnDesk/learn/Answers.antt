use Rattle.std.proofs.Common.{arith}
use Rattle.turn_desk.proofs.Keeps.{learns}
use Rattle.turn_desk.proofs.parts.TurnDesk.learn.Goals as goal

pub load-requires : goal.load-requires
load-requires g c = (
  c.requires.desk,
  (let w = c.args.self.now.words in omega arith),
  learns g.O.Object.acts c.args.self.now.table.shared.key.value c.args.self.now.table.shared.table_id.slots c.args.seat.now.id c.args.seat.now.me,
)
