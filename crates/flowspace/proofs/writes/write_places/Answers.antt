use Rattle.std.proofs.Common.{sym, ◌∙◌}
use Rattle.flowspace.proofs.Placing.{places_more, places_same}
use Rattle.flowspace.proofs.writes.write_places.Goals as goal
use Rattle.flowspace.proofs.writes.write_places.Goals.{then-is_written_by+in_ok-push, else-is_written_by}

pub loop-place-preserved : goal.loop-place-preserved
loop-place-preserved c =
    elim c.if-is_written_by.branch [
      | then-is_written_by+in_ok-push w ↦
          rw (w.places-is, w.in_ok-push.ensures.items)
          (places_more c.args.rules.now c.args.slot c.loop-place.place c.index-rules-place.result c.loop-place.places.items c.loop-place-test.true c.index-rules-place.is
          (sym c.is_written_by.ensures ∙ w.if-is_written_by.true) c.loop-place.invariant)
      | else-is_written_by w ↦
          rw w.places-is
          (places_same c.args.rules.now c.args.slot c.loop-place.place c.index-rules-place.result c.loop-place.places.items c.loop-place-test.true c.index-rules-place.is
          (sym c.is_written_by.ensures ∙ w.if-is_written_by.false) c.loop-place.invariant)
    ]
