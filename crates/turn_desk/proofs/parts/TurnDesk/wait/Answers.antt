use Rattle.std.proofs.Common.{sym, subst}
use Rattle.turn_desk.specs.Rule.{WaitsWith}
use Rattle.turn_desk.proofs.parts.TurnDesk.wait.Goals as goal

pub look-requires-clause-waits : goal.look-requires-clause-waits
look-requires-clause-waits g c = subst (WaitsWith c.args.ticket) (sym c.loop.invariant.3) c.requires.waits
