use Rattle.std.proofs.Common.{refl}
use Rattle.event_player.proofs.Holding.{answered, stepped}
use Rattle.event_player.proofs.event_lines.step.Goals as goal

pub returns-in-Ok-clause-after : goal.returns-in-Ok-clause-after
returns-in-Ok-clause-after c = λ p h quiet framed one. (
  answered p h c.args.timed c.args.desk.now c.step.new.self c.in-Ok.verdict c.in-Ok.ensures quiet,
  stepped p h c.args.timed c.args.desk.now c.step.new.self c.in-Ok.verdict _ c.in-Ok.ensures refl quiet framed one,
)
