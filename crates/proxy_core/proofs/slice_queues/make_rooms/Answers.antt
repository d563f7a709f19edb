use Rattle.std.proofs.Common.{ℕ, ◌≡◌, List, Some, slice_get, length, refl, sym, subst, arith}
use Rattle.std.proofs.lemmas.Option.{slice_get_read, slice_get_within}
use Rattle.std.proofs.lemmas.Result.{err_from_is_err_and}
use Rattle.proxy_core.specs.Handing.{HasRoomAt}
use Rattle.proxy_core.proofs.Handed.{same_then, rooms_more, room_for_own}
use Rattle.proxy_core.proofs.slice_queues.make_rooms.Goals as goal

pub returns-in_err-make_room_at-clause-same : goal.returns-in_err-make_room_at-clause-same
returns-in_err-make_room_at-clause-same c = same_then c.args.queues.now.items c.loop-at.queues.items c.make_room_at.new.queues.items c.loop-at.invariant.same c.make_room_at.ensures.same

pub returns-in_err-make_room_at-clause-full : goal.returns-in_err-make_room_at-clause-full
returns-in_err-make_room_at-clause-full c =
    let p = err_from_is_err_and c.from_residual.result c.from_residual.ensures.1 in
    let messages = c.args.messages.now in
    let here = slice_get_read messages (length messages) c.loop-at.at c.index-messages-at.result refl c.loop-at-test.true c.index-messages-at.is in
    rw p.1 (λ room. c.in_err-make_room_at.ensures.full
    (subst (λ (m : ℕ × List ℕ). HasRoomAt m.0 (length messages) c.loop-at.queues.items) c.index-messages-at.is
    (c.loop-at.invariant.more c.index-messages-at.result.0 (length messages) (room c.loop-at.at c.index-messages-at.result here))))

pub loop-at-preserved : goal.loop-at-preserved
loop-at-preserved c =
    let messages = c.args.messages.now in
    record {
      same = same_then c.args.queues.now.items c.loop-at.queues.items c.make_room_at.new.queues.items c.loop-at.invariant.same c.make_room_at.ensures.same;
      more = λ slot n room. c.make_room_at.ensures.more slot n (c.loop-at.invariant.more slot n room);
      room = rooms_more messages c.loop-at.at (length messages) c.index-messages-at.result c.loop-at.queues.items c.make_room_at.new.queues.items
          (slice_get_read messages (length messages) c.loop-at.at c.index-messages-at.result refl c.loop-at-test.true c.index-messages-at.is)
          (subst (λ (m : ℕ × List ℕ). HasRoomAt m.0 (length messages) c.make_room_at.new.queues.items) (sym c.index-messages-at.is) c.in_ok-make_room_at.ensures.room)
          (λ slot. c.make_room_at.ensures.more slot (length messages)) c.loop-at.invariant.room;
    }

pub returns-clause-room : goal.returns-clause-room
returns-clause-room c = λ slot queue g.
    let messages = c.args.messages.now in
    let out = c.loop-at-test.false in
    room_for_own slot queue.room (length messages) messages (omega arith)
    (λ i pair gi e. c.loop-at.invariant.room i pair (let within = slice_get_within messages i pair gi in omega arith) gi queue
    (subst (λ (k : ℕ). slice_get c.loop-at.queues.items k ≡ Some queue) (sym e) g))
