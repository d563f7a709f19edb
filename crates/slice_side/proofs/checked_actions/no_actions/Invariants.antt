use Rattle.std.proofs.Common.{◌≡◌, [], map, take}
use Rattle.slice_side.proofs.checked_actions.no_actions.Given as goal

abbrev pub invariant-loop-piece : goal.invariant-loop-piece
invariant-loop-piece l = l.lists.items ≡ map (λ piece. []) (take l._piece-index l.pieces)
