use Rattle.std.proofs.Common.{◌≡◌}
use Rattle.of10_model.specs.Meet.{is_disjoint}
use Rattle.of10_model.proofs.Disjointness.{is_disjoint_iff}
use Rattle.match_meet.proofs.sets.disjoint.Goals as goal

pub returns-clause-headers : goal.returns-clause-headers
returns-clause-headers c =
    let value : c.disjoint_patterns.result ≡ is_disjoint c.args.a.now c.args.b.now = cc in
    rw value (is_disjoint_iff c.args.a.now c.args.b.now c.pattern.ensures.normal.0 c.pattern-2.ensures.normal.0)
