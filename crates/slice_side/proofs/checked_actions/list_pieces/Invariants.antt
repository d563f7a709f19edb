use Rattle.std.proofs.Common.{take}
use Rattle.action_check.specs.declared.origin.Origin.TheVariants.{Piece}
use Rattle.action_check.specs.Permitted.{permitted}
use Rattle.slice_side.specs.Checking.{AreListed}
use Rattle.slice_side.proofs.checked_actions.list_pieces.Given as goal

abbrev pub invariant-loop-piece : goal.invariant-loop-piece
invariant-loop-piece l =
    AreListed (λ piece. permitted l.around.policy.now.rules l.around.slot (Piece piece) l.actions l.floods.flood.items l.floods.all.items) (take l.piece-index l.pieces) l.lists.items l.is_long
