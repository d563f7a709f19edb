use Rattle.flowspace.proofs.Placing.{ArePlacesIn}
use Rattle.flowspace.proofs.writes.write_places.Given as goal

abbrev pub invariant-loop-place : goal.invariant-loop-place
invariant-loop-place l = ArePlacesIn l.rules l.slot l.place l.places.items
