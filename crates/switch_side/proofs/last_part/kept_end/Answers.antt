use Rattle.stats_filter.proofs.Paging.{size_from}
use Rattle.switch_side.proofs.Walking.{room_step, room_past, room_done}
use Rattle.switch_side.proofs.last_part.kept_end.Goals as goal

pub loop-size-preserved : goal.loop-size-preserved
loop-size-preserved c = room_step c.args.kind c.args.room c.in-Some.size c.args.entries.now c.loop-size.end c.loop-size.invariant (size_from c.args.kind c.args.entries.now c.loop-size.end _ c.in-Some.ensures.value) c.if-size-room.false

pub returns-then-size-room-clause-kept : goal.returns-then-size-room-clause-kept
returns-then-size-room-clause-kept c = room_past c.args.kind c.args.room c.in-Some.size c.args.entries.now c.loop-size.end c.loop-size.invariant (size_from c.args.kind c.args.entries.now c.loop-size.end _ c.in-Some.ensures.value) c.if-size-room.true

pub returns-in_default-clause-kept : goal.returns-in_default-clause-kept
returns-in_default-clause-kept c = room_done c.args.kind c.args.room c.args.entries.now c.loop-size.end c.loop-size.invariant (size_from c.args.kind c.args.entries.now c.loop-size.end _ c.in_default.ensures.value)
