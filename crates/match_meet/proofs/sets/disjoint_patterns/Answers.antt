use Rattle.match_meet.proofs.Apart.{is_disjoint-any}
use Rattle.match_meet.proofs.sets.disjoint_patterns.Goals as goal

pub returns : goal.returns
returns c = rw c.differ.ensures (is_disjoint-any c.args.a.now c.args.b.now)
