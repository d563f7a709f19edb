use Rattle.std.proofs.Common.{arith}
use Rattle.turn_desk.proofs.Keeps.{idle_view}
use Rattle.turn_desk.proofs.Steps.{draws}
use Rattle.turn_desk.proofs.parts.TurnDesk.draw.Goals as goal

pub fetch_add-requires : goal.fetch_add-requires
fetch_add-requires g c = (
  c.requires.desk,
  (let w = c.args.self.now.words in omega arith),
  draws g.O.Object.acts c.args.self.now.table.shared.key.value c.args.self.now.table.shared.table_id.slots c.args.seat.now.id c.args.seat.now.me.0 c.args.seat.now.me.1 (idle_view c.args.seat.now.me c.requires.idle) c.requires.left,
)
