use Rattle.std.proofs.Common.{◌≡◌, ◌<◌, List}
use Rattle.live_session.specs.Links.{RoseBy}
use Rattle.live_session.specs.Stretches.{spot}
use Rattle.live_session.specs.Links.{Linked, Way}
use Rattle.live_session.proofs.Linking.{SoFar}
use Rattle.live_session.proofs.slice.dial_on.Given as goal

abbrev pub invariant-loop : goal.invariant-loop
invariant-loop g l = record {
  can : (goal.iterator-loop g).can_next l.iterator';
  finite : (goal.iterator-loop g).is_finite l.iterator';
  desk : l.seat.seat.table_id ≡ l.fn.seat.seat.table_id;
  few : l.failed < 1000;
  rose : RoseBy l.failed (g.D.Dialer.faults l.fn.dialer l.controller.address.now) (g.D.Dialer.faults l.dialer l.controller.address.now);
  links : (ways : List Way) × Linked l.facts.side ways (spot l.fn.seat (g.C.Clock.coming l.fn.clock)) (spot l.seat (g.C.Clock.coming l.clock)) × SoFar (g.D.Dialer.links l.fn.dialer) l.asked ways (g.D.Dialer.links l.dialer);
}
