use Rattle.std.specs.declared.option.Option.TheVariants.{Some}
use Rattle.turn_desk.proofs.parts.TurnDesk.turn.Given as goal

abbrev pub ghosts-pass : goal.ghosts-pass
ghosts-pass g a = record { op = Some a.op.value; reply = Some a.reply.value }
