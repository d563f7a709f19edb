use Rattle.std.proofs.Common.{◌≡◌, ◌≢◌, ◌<◌, ◌≤◌, length, get_or, count_by, AllPairs, sym, ◌∙◌, ap, subst, arith}
use Rattle.flowspace.specs.Rules.{is_written_by}
use Rattle.flowmod_expand.specs.Pieces.{writes_of, pieces_of}
use Rattle.flowmod_expand.proofs.Splits.{found_more, found_same, found_all, writes_length, write_at_place}
use Rattle.flowmod_expand.proofs.Space.{pieces_of_distinct, pieces_of_few}
use Rattle.flowmod_expand.proofs.match_pieces.pieces.Goals as goal
use Rattle.flowmod_expand.proofs.match_pieces.pieces.Goals.{in-Some+in_ok-add, in_default}

pub loop-place-preserved : goal.loop-place-preserved
loop-place-preserved c =
    let rules = c.args.policy.now.rules in
    let slot = c.args.slot in
    let places = c.write_places-place-items.result.now in
    let i = c.loop-place.place-index in
    let rule = c.index-rules-from.result in
    let long = writes_length rules slot places c.write_places-place-items.ensures.value in
    let test = c.loop-place-test.true in
    let lt : i < length (writes_of rules slot) = omega arith in
    let own =
    write_at_place rules slot places i c.from.result rule c.write_places-place-items.ensures.value test c.from.ensures
    (c.index-rules-from.is ∙ ap (λ rs. get_or rs c.from.result rule) c.rules-rules.ensures.value) in
    elim c.match-meet.branch [
      | in-Some+in_ok-add w ↦
          rw (w.found-is, w.marks-is)
          (found_more (writes_of rules slot) i rule.pattern c.args.pattern.now w.in-Some.piece c.loop-place.found.items w.add.new.found.items c.loop-place.marks w.add.new.marks
          lt own (sym c.meet.ensures.value ∙ w.in-Some.is) w.in_ok-add.ensures.normal c.loop-place.invariant w.in_ok-add.ensures.added w.in_ok-add.ensures.marked)
      | in_default w ↦
          rw (w.found-is, w.marks-is)
          (found_same (writes_of rules slot) i rule.pattern c.args.pattern.now c.loop-place.found.items c.loop-place.marks lt own (sym c.meet.ensures.value ∙ w.in_default.is) c.loop-place.invariant)
    ]

pub returns-clause-value : goal.returns-clause-value
returns-clause-value c =
    let long = writes_length c.args.policy.now.rules c.args.slot c.write_places-place-items.result.now c.write_places-place-items.ensures.value in
    let test = c.loop-place-test.false in
    found_all (writes_of c.args.policy.now.rules c.args.slot) c.args.pattern.now c.loop-place.found.items c.loop-place.marks c.loop-place.place-index (omega arith) c.loop-place.invariant

pub returns-clause-distinct : goal.returns-clause-distinct
returns-clause-distinct c =
    let long = writes_length c.args.policy.now.rules c.args.slot c.write_places-place-items.result.now c.write_places-place-items.ensures.value in
    let test = c.loop-place-test.false in
    let all = found_all (writes_of c.args.policy.now.rules c.args.slot) c.args.pattern.now c.loop-place.found.items c.loop-place.marks c.loop-place.place-index (omega arith) c.loop-place.invariant in
    subst (AllPairs (λ a b. a ≢ b)) (sym all) (pieces_of_distinct c.args.policy.now.rules c.args.slot c.args.pattern.now)

pub returns-clause-few : goal.returns-clause-few
returns-clause-few c =
    let rules = c.args.policy.now.rules in
    let slot = c.args.slot in
    let long = writes_length rules slot c.write_places-place-items.result.now c.write_places-place-items.ensures.value in
    let test = c.loop-place-test.false in
    let all = found_all (writes_of rules slot) c.args.pattern.now c.loop-place.found.items c.loop-place.marks c.loop-place.place-index (omega arith) c.loop-place.invariant in
    let few = pieces_of_few rules slot c.args.pattern.now in
    let limit : count_by (is_written_by slot) rules ≤ 256 = c.rules-rules.ensures.policy.proper.few_writes slot in
    let size : length c.loop-place.found.items ≡ length (pieces_of rules slot c.args.pattern.now) = ap length all in
    omega arith
