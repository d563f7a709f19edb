use Rattle.std.proofs.Common.{◌++◌, [], ◌∷◌, reverse, sym}
use Rattle.std.proofs.lemmas.List.{reverse-append}
use Rattle.recording.proofs.Walk.{goes_on, ends_so, is_done}
use Rattle.recording.proofs.reading.accept_records.Goals as goal

pub returns-in-Err-clause-refused : goal.returns-in-Err-clause-refused
returns-in-Err-clause-refused c =
    let s = c.loop-at.invariant.so_far in
    ends_so c.args.layout c.args.slices c.args.bytes.now s.0 c.loop-at.at c.in-Err.fault _ c.loop-at-test.true (sym (c.in-Err.ensures.value (reverse s.0) s.2)) s.1

pub loop-at-preserved : goal.loop-at-preserved
loop-at-preserved c =
    let s = c.loop-at.invariant.so_far in
    let newest = reverse-append s.0 (c.in-Ok.item ∷ []) in
    record {
      so_far = (
        s.0 ++ c.in-Ok.item ∷ [],
        goes_on c.args.layout c.args.slices c.args.bytes.now s.0 c.loop-at.at c.in-Ok.item _ c.loop-at-test.true (sym (c.in-Ok.ensures.value (reverse s.0) s.2)) s.1,
        rw newest (c.note.ensures (reverse s.0) s.2),
      );
      inside = c.in-Ok.ensures.item.within;
    }

pub returns-clause-accepted : goal.returns-clause-accepted
returns-clause-accepted c =
    let s = c.loop-at.invariant.so_far in
    (s.0, is_done c.args.layout c.args.slices c.args.bytes.now s.0 c.loop-at.at _ c.loop-at-test.false s.1)
