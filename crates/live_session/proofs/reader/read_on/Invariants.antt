use Rattle.std.proofs.Common.{◌≡◌, ℕ, List}
use Rattle.of10_ctl.specs.Streams.{Stands, frames_of}
use Rattle.fv_live.specs.Live.{Moved}
use Rattle.live_session.specs.Stretches.{spot, messages, Went, WentOn, DeskCall}
use Rattle.live_session.proofs.reader.read_on.Given as goal

abbrev pub invariant-loop : goal.invariant-loop
invariant-loop g l = record {
  can : (goal.iterator-loop g).can_next l.iterator';
  ends : (goal.iterator-loop g).is_finite l.iterator';
  desk : l.seat.seat.table_id ≡ l.fn.seat.seat.table_id;
  calm : g.S.Source.faults l.source ≡ g.S.Source.faults l.fn.source;
  read : (bytes : List ℕ) × (calls : List DeskCall) × Stands l.framer bytes (frames_of bytes) × Moved (g.S.Source.left l.fn.source) bytes (g.S.Source.left l.source) × Went (spot l.fn.seat (g.C.Clock.coming l.fn.clock)) (messages l.facts.side (frames_of bytes)) calls (spot l.seat (g.C.Clock.coming l.clock)) × WentOn calls;
}
