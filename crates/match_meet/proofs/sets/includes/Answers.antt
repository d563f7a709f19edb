use Rattle.std.proofs.Common.{◌≡◌}
use Rattle.of10_model.specs.Inclusion.{includes_of}
use Rattle.of10_model.proofs.Including.{includes_iff}
use Rattle.match_meet.proofs.sets.includes.Goals as goal

pub returns-clause-headers : goal.returns-clause-headers
returns-clause-headers c =
    let value : c.includes_pattern.result ≡ includes_of c.args.a.now c.args.b.now = cc in
    rw value (includes_iff c.args.a.now c.args.b.now c.pattern.ensures.normal.0 c.pattern-2.ensures.normal.0)
