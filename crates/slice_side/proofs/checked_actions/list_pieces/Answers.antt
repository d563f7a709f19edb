use Rattle.std.proofs.Common.{subst}
use Rattle.action_check.specs.declared.origin.Origin.TheVariants.{Piece}
use Rattle.action_check.specs.Permitted.{permitted}
use Rattle.slice_side.specs.Checking.{IsChecked}
use Rattle.slice_side.proofs.Listing.{forbidden_there, grown, grown_long}
use Rattle.slice_side.proofs.checked_actions.list_pieces.Goals as goal
use Rattle.slice_side.proofs.checked_actions.list_pieces.Goals.{in-Given+in_ok-push-in-Given, in-TooMany}

pub returns-in-Forbidden : goal.returns-in-Forbidden
returns-in-Forbidden c =
    forbidden_there (λ piece. permitted c.args.around.now.policy.now.rules c.args.around.now.slot (Piece piece) c.args.actions.now c.args.floods.now.flood.items c.args.floods.now.all.items)
    c.args.pieces.now c.loop-piece.piece-index c.piece-item.result c.loop-piece.lists.items c.loop-piece.is_long c.in-Forbidden.code c.loop-piece-test.true c.piece-item.is c.loop-piece.invariant
    (subst (IsChecked _) c.in-Forbidden.is c.in_ok-list.ensures)

pub loop-piece-preserved : goal.loop-piece-preserved
loop-piece-preserved c = elim c.match-branch-2.branch [
  | in-Given+in_ok-push-in-Given w ↦
      rw (w.lists-is, w.is_long-is) (grown (λ piece. permitted c.args.around.now.policy.now.rules c.args.around.now.slot (Piece piece) c.args.actions.now c.args.floods.now.flood.items c.args.floods.now.all.items)
      c.args.pieces.now c.loop-piece.piece-index c.piece-item.result c.loop-piece.lists.items _ c.loop-piece.is_long w.in-Given.list c.loop-piece-test.true c.piece-item.is c.loop-piece.invariant
      (subst (IsChecked _) w.in-Given.is c.in_ok-list.ensures) w.in_ok-push-in-Given.ensures.items)
  | in-TooMany w ↦
      rw (w.lists-is, w.is_long-is) (grown_long (λ piece. permitted c.args.around.now.policy.now.rules c.args.around.now.slot (Piece piece) c.args.actions.now c.args.floods.now.flood.items c.args.floods.now.all.items)
      c.args.pieces.now c.loop-piece.piece-index c.piece-item.result c.loop-piece.lists.items c.loop-piece.is_long c.loop-piece-test.true c.piece-item.is c.loop-piece.invariant
      (subst (IsChecked _) w.in-TooMany.is c.in_ok-list.ensures))
]
