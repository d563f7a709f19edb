use Rattle.std.proofs.Common.{◌≡◌, List, []}
use Rattle.fv_base.specs.Told.{appended}
use Rattle.live_session.specs.Stretches.{DeskCall}
use Rattle.live_session.specs.Takings.{Taking, joined_messages}
use Rattle.live_session.proofs.writer.write_on.Given as goal

abbrev pub invariant-loop : goal.invariant-loop
invariant-loop g l = record {
  can : (goal.iterator-loop g).can_next l.iterator';
  ends : (goal.iterator-loop g).is_finite l.iterator';
  desk : l.seat.seat.table_id ≡ l.fn.seat.seat.table_id;
  empty : l.buffer.items ≡ [];
  calm : g.K.Sink.faults l.sink ≡ g.K.Sink.faults l.fn.sink;
  wrote : (calls : List DeskCall) × Taking l.dest l.fn.seat.seat.me.0 l.fn.seat.left calls l.seat.seat.me.0 l.seat.left × (g.K.Sink.contents l.sink ≡ appended (g.K.Sink.contents l.fn.sink) (joined_messages calls));
}
