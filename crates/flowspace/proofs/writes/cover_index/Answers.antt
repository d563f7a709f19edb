use Rattle.std.proofs.Common.{sym, ◌∙◌}
use Rattle.flowspace.proofs.Covering.{covers_more, covers_same}
use Rattle.flowspace.proofs.writes.cover_index.Goals as goal
use Rattle.flowspace.proofs.writes.cover_index.Goals.{then-is_written_by+in_ok-put, else-is_written_by}

pub loop-place-preserved : goal.loop-place-preserved
loop-place-preserved c =
    elim c.if-is_written_by.branch [
      | then-is_written_by+in_ok-put w ↦
          rw w.index-is
          (covers_more c.args.by_port c.args.rules.now c.args.slot c.loop-place.place c.index-rules-place.result c.loop-place.index w.put.new.self c.loop-place-test.true c.index-rules-place.is
          (sym c.is_written_by.ensures ∙ w.if-is_written_by.true) w.counted.ensures.normal (rw w.counted.ensures.value at w.in_ok-put.ensures.put) c.loop-place.invariant)
      | else-is_written_by w ↦
          rw w.index-is
          (covers_same c.args.by_port c.args.rules.now c.args.slot c.loop-place.place c.index-rules-place.result c.loop-place.index c.loop-place-test.true c.index-rules-place.is
          (sym c.is_written_by.ensures ∙ w.if-is_written_by.false) c.loop-place.invariant)
    ]
