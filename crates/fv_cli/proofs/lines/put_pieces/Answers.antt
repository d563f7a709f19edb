use Rattle.std.proofs.Common.{◌∙◌}
use Rattle.fv_base.proofs.Appending.{on_err}
use Rattle.fv_cli.proofs.Pieces.{piece-put, part-put}
use Rattle.fv_cli.proofs.lines.put_pieces.Goals as goal

pub returns-in_err-put_piece-clause-part : goal.returns-in_err-put_piece-clause-part
returns-in_err-put_piece-clause-part g c =
    let (put, is, told) = c.in_err-put_piece.ensures.part in
    on_err c.from_residual.result (part-put c.args.pieces.now c.loop-piece.piece-index _ (g.K.Sink.contents c.args.sink.now) (g.K.Sink.contents c.loop-piece.sink) (g.K.Sink.contents c.put_piece.new.sink) put c.loop-piece-test.true c.loop-piece.invariant.put is told)

pub loop-piece-preserved : goal.loop-piece-preserved
loop-piece-preserved g c = record {
  put = piece-put c.args.pieces.now c.loop-piece.piece-index _ (g.K.Sink.contents c.args.sink.now) (g.K.Sink.contents c.loop-piece.sink) (g.K.Sink.contents c.put_piece.new.sink) c.loop-piece-test.true c.loop-piece.invariant.put c.in_ok-put_piece.ensures.all;
  calm = c.in_ok-put_piece.ensures.calm ∙ c.loop-piece.invariant.calm;
}
