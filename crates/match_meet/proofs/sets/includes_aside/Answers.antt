use Rattle.std.proofs.Common.{◌≡◌}
use Rattle.of10_model.specs.Inclusion.{includes_of, any_in_port}
use Rattle.of10_model.proofs.Including.{includes_iff, IsInRange-any_in_port}
use Rattle.match_meet.proofs.sets.includes_aside.Goals as goal

pub returns-clause-headers : goal.returns-clause-headers
returns-clause-headers c =
    let value : c.includes_pattern_aside.result ≡ includes_of (any_in_port c.args.a.now) c.args.b.now = cc in
    rw value (includes_iff (any_in_port c.args.a.now) c.args.b.now (IsInRange-any_in_port c.args.a.now c.pattern.ensures.normal.0) c.pattern-2.ensures.normal.0)
