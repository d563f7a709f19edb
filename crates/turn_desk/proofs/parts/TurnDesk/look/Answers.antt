use Rattle.std.proofs.Common.{arith}
use mathlib.Core.Option.{none}
use Rattle.atomic_table.specs.Table.{step}
use Rattle.turn_desk.proofs.Wraps.{looks', told}
use Rattle.turn_desk.proofs.parts.TurnDesk.look.Goals as goal

pub load-requires : goal.load-requires
load-requires g c = (
  c.requires.desk,
  (let w = c.args.self.now.words in omega arith),
  looks' g.O.Object.acts c.args.self.now.table.shared.key.value c.args.self.now.table.shared.table_id.slots c.args.seat.now.id c.args.ticket c.args.seat.now.me c.requires.waits,
)

pub returns-clause-turn : goal.returns-clause-turn
returns-clause-turn g c = told g.O.Object.acts (step c.args.self.now.table.shared.table_id.slots 1 0 0 none) c.args.ticket c.load.result c.args.seat.now.me c.load.new.seat.me c.requires.waits c.load.ensures.2
