use Rattle.std.proofs.Common.{arith}
use mathlib.Core.Option.{none}
use Rattle.atomic_table.specs.Table.{step}
use Rattle.turn_desk.proofs.Wraps.{passes', passed_is}
use Rattle.turn_desk.proofs.parts.TurnDesk.pass.Goals as goal

pub fetch_add-requires : goal.fetch_add-requires
fetch_add-requires g c = (
  c.requires.desk,
  (let w = c.args.self.now.words in omega arith),
  passes' g.O.Object.acts c.args.self.now.table.shared.key.value c.args.self.now.table.shared.table_id.slots c.args.seat.now.id c.args.seat.now.me c.args.op.value c.args.reply.value g.W.Said.op g.W.Said.reply (let w = c.args.self.now.slots in omega arith) c.requires.holds c.requires.said.0 c.requires.said.1,
)

pub returns-clause-view : goal.returns-clause-view
returns-clause-view g c = passed_is g.O.Object.acts (step c.args.self.now.table.shared.table_id.slots 1 1 0 none) c.fetch_add.result c.args.seat.now.me c.fetch_add.new.seat.me c.args.op.value c.args.reply.value g.W.Said.op g.W.Said.reply c.requires.said.0 c.requires.said.1 c.fetch_add.ensures.2
