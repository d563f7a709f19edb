use Rattle.match_meet.proofs.Covering.{includes-aside}
use Rattle.match_meet.proofs.sets.includes_pattern_aside.Goals as goal

pub returns : goal.returns
returns c = rw c.covers_rest.ensures (includes-aside c.args.a.now c.args.b.now)
