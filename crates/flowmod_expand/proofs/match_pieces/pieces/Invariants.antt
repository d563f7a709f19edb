use Rattle.flowmod_expand.specs.Pieces.{writes_of}
use Rattle.flowmod_expand.proofs.Splits.{Found}
use Rattle.flowmod_expand.proofs.match_pieces.pieces.Given as goal

abbrev pub invariant-loop-place : goal.invariant-loop-place
invariant-loop-place l = Found (writes_of l.policy.rules l.slot) l.pattern l.found.items l.marks l.place-index
