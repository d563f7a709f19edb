use Rattle.std.proofs.Common.{◌≡◌, ℕ, List, ◌++◌}
use Rattle.of10_ctl.specs.Streams.{Stands}
use Rattle.live_session.specs.Stretches.{spot, messages, Went, WentOn, DeskCall}
use Rattle.live_session.proofs.reader.hand_each.Given as goal

abbrev pub invariant-loop : goal.invariant-loop
invariant-loop g l = record {
  can : (goal.iterator-loop g).can_next l.iterator';
  ends : (goal.iterator-loop g).is_finite l.iterator';
  desk : l.seat.seat.table_id ≡ l.fn.seat.seat.table_id;
  handed : (fed : List ℕ) (given : List (List ℕ)) → Stands l.fn.framer fed given → (more : List (List ℕ)) × (calls : List DeskCall) × Stands l.framer fed (given ++ more) × Went (spot l.fn.seat (g.C.Clock.coming l.fn.clock)) (messages l.facts.side more) calls (spot l.seat (g.C.Clock.coming l.clock)) × WentOn calls;
}
