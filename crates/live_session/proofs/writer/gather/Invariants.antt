use Rattle.std.proofs.Common.{◌≡◌, List, ◌++◌}
use Rattle.live_session.specs.Stretches.{DeskCall}
use Rattle.live_session.specs.Takings.{Taking, joined_messages}
use Rattle.live_session.proofs.writer.gather.Given as goal

abbrev pub invariant-loop : goal.invariant-loop
invariant-loop g l = record {
  desk : l.seat.seat.table_id ≡ l.fn.seat.seat.table_id;
  gathered : (calls : List DeskCall) × Taking l.dest l.fn.seat.seat.me.0 l.fn.seat.left calls l.seat.seat.me.0 l.seat.left × (l.buffer.items ≡ l.fn.buffer.items ++ joined_messages calls);
}
