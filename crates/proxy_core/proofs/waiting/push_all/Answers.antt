use Rattle.std.proofs.Common.{◌≡◌, [], length, ap, sym, ◌∙◌, subst, arith}
use Rattle.std.proofs.lemmas.List.{nil_from_length}
use Rattle.std.specs.Vec.Iter.{into_iter_items}
use Rattle.outbox.specs.Queues.{push, QueueStands}
use Rattle.proxy_core.proofs.Rooms.{pushed_more, all_pushed}
use Rattle.proxy_core.proofs.waiting.push_all.Goals as goal

pub push-requires : goal.push-requires
push-requires c =
    let short = ap length c.in-Some.ensures.steps.0 in
    let room = c.loop-message.invariant.room in
    omega arith

pub loop-message-preserved : goal.loop-message-preserved
loop-message-preserved c =
    let at = c.loop-message in
    let steps = c.in-Some.ensures.steps in
    let short = ap length steps.0 in
    let was = at.invariant.whole in
    let gone = steps.1 in
    let room = at.invariant.room in
    let kept = c.push.ensures.room in
    record {
      whole = omega arith;
      room = omega arith;
      pushed = λ limit q h.
          let before = at.invariant.pushed limit q h in (
            push limit before.0 c.in-Some.message,
            c.push.ensures.stands limit before.0 before.1,
            pushed_more limit before.0 c.in-Some.message (into_iter_items c.next.new.self) (into_iter_items at.message-iterator) steps.0 ∙ before.2,
          );
    }

pub returns : goal.returns
returns c = λ limit q h.
    let at = c.loop-message in
    let before = at.invariant.pushed limit q h in
    let empty : into_iter_items at.message-iterator ≡ [] = nil_from_length _ (sym at.invariant.whole ∙ c.in-None.ensures.steps.0) in
    subst (λ k. QueueStands limit k at.waiting)
    (all_pushed limit before.0 q (into_iter_items at.message-iterator) _ c.args.messages.items empty before.2 c.into_iter-message-iterator.ensures.into_iter_gives.0) before.1
