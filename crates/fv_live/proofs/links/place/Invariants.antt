use Rattle.std.proofs.Common.{◌≡◌, ◌+◌, drop}
use Rattle.fv_live.specs.Links.{place_of_link}
use Rattle.fv_live.proofs.links.place.Given as goal

abbrev pub invariant-loop-i : goal.invariant-loop-i
invariant-loop-i g l = l.i + place_of_link (drop l.i l.links) l.to ≡ place_of_link l.links l.to
