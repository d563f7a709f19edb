use Rattle.std.proofs.Common.{◌≡◌, List}
use Rattle.desk_words.specs.declared.dest.Dest.TheVariants.{Slice}
use Rattle.live_session.specs.Stretches.{DeskCall}
use Rattle.live_session.specs.Takings.{Taking}
use Rattle.live_session.specs.Links.{AreEarly}
use Rattle.live_session.proofs.slice.await_open.Given as goal

abbrev pub invariant-loop : goal.invariant-loop
invariant-loop g l = record {
  can : (goal.iterator-loop g).can_next l.iterator';
  ends : (goal.iterator-loop g).is_finite l.iterator';
  desk : l.seat.seat.table_id ≡ l.fn.seat.seat.table_id;
  early : (calls : List DeskCall) × Taking (Slice l.slot) l.fn.seat.seat.me.0 l.fn.seat.left calls l.seat.seat.me.0 l.seat.left × AreEarly calls;
}
