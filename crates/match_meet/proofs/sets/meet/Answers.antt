use Rattle.std.proofs.Common.{◌≡◌, Some, None}
use Rattle.of10_model.specs.Meet.{meet_of}
use Rattle.of10_model.proofs.Meeting.{some_meet, none_meet}
use Rattle.of10_model.proofs.MeetNormal.{IsInRange-meet, IsNormal-meet}
use Rattle.of10_model.proofs.Inhabited.{has_header}
use Rattle.match_meet.proofs.sets.meet.Goals as goal

pub of-requires : goal.of-requires
of-requires c =
    let value : meet_of c.args.a.now c.args.b.now ≡ Some c.in-Some.pattern = cc c.in-Some.ensures in
    IsNormal-meet c.args.a.now c.args.b.now c.in-Some.pattern c.pattern.ensures.normal c.pattern-2.ensures.normal value

pub returns-in-Some-clause-exact : goal.returns-in-Some-clause-exact
returns-in-Some-clause-exact c =
    let value : meet_of c.args.a.now c.args.b.now ≡ Some c.of.result = cc c.in-Some.ensures in
    some_meet c.args.a.now c.args.b.now c.of.result value

pub returns-in-Some-clause-shared : goal.returns-in-Some-clause-shared
returns-in-Some-clause-shared c =
    let value : meet_of c.args.a.now c.args.b.now ≡ Some c.of.result = cc c.in-Some.ensures in
    has_header c.of.result (IsInRange-meet c.args.a.now c.args.b.now c.of.result c.pattern.ensures.normal.0 c.pattern-2.ensures.normal.0 value)

pub returns-in-None-clause-none : goal.returns-in-None-clause-none
returns-in-None-clause-none c =
    let value : meet_of c.args.a.now c.args.b.now ≡ None = cc c.in-None.ensures in
    none_meet c.args.a.now c.args.b.now value
