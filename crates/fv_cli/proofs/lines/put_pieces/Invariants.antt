use Rattle.std.proofs.Common.{◌≡◌, take}
use Rattle.fv_base.specs.Told.{appended}
use Rattle.fv_cli.specs.Lines.{whole_text}
use Rattle.fv_cli.proofs.lines.put_pieces.Given as goal

abbrev pub invariant-loop-piece : goal.invariant-loop-piece
invariant-loop-piece g l = record {
  put : g.K.Sink.contents l.sink ≡ appended (g.K.Sink.contents l.fn.sink) (whole_text (take l.piece-index l.pieces));
  calm : g.K.Sink.faults l.sink ≡ g.K.Sink.faults l.fn.sink;
}
