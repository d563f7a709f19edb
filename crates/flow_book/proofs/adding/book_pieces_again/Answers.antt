use Rattle.std.proofs.Common.{sym, ap, ◌∙◌, map, refl}
use Rattle.flow_book.specs.Adding.{with_asked}
use Rattle.flow_book.proofs.Steps.{again_none, again_more}
use Rattle.flow_book.proofs.adding.book_pieces_again.Goals as goal

pub loop-piece-init : goal.loop-piece-init
loop-piece-init c = (sym (again_none c.args.priority c.args.asked c.args.entries.now.booked), c.requires, refl)

pub loop-piece-preserved : goal.loop-piece-preserved
loop-piece-preserved c = (
  c.book_pair_again.ensures.items ∙ ap (map (with_asked c.piece-item.result c.args.priority c.args.asked)) c.loop-piece.invariant.0
      ∙ again_more c.args.pieces.now c.loop-piece.piece-index c.piece-item.result c.args.priority c.args.asked c.args.entries.now.booked c.loop-piece-test.true c.piece-item.is,
  c.book_pair_again.ensures.order,
  c.book_pair_again.ensures.room ∙ c.loop-piece.invariant.2,
)
