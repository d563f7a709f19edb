use Rattle.match_meet.proofs.Covering.{includes-any}
use Rattle.match_meet.proofs.sets.includes_pattern.Goals as goal

pub returns : goal.returns
returns c = rw c.covers_each.ensures (includes-any c.args.a.now c.args.b.now)
