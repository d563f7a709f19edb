use Rattle.std.proofs.Common.{◌≡◌}
use Rattle.of10_model.specs.Normal.{applied}
use Rattle.match_meet.specs.Rewriting.{cover_of}
use Rattle.match_meet.proofs.CoverNormal.{applied-cover_of}
use Rattle.match_meet.proofs.CoverHas.{Has-cover_of}
use Rattle.match_meet.proofs.cover.rewrite.Goals as goal

pub of-requires : goal.of-requires
of-requires c =
    let value : c.cover.result ≡ cover_of c.args.m.now c.args.action.now = cc in
    let normal : applied c.cover.result ≡ c.cover.result = rw value (applied-cover_of c.args.m.now c.args.action.now c.pattern.ensures.normal.1) in
    (c.cover.ensures.range, normal)

pub returns-clause-headers : goal.returns-clause-headers
returns-clause-headers c =
    let value : c.of.result ≡ cover_of c.args.m.now c.args.action.now = cc in
    λ h i p. rw value (Has-cover_of c.args.m.now h c.args.action.now c.pattern.ensures.normal.1 p)
