use Rattle.std.proofs.Common.{[], ◌∷◌, reverse, sym, inr}
use Rattle.std.proofs.lemmas.List.{reverse-append}
use Rattle.std.proofs.lemmas.List.Elements.{All-push}
use Rattle.recording.specs.Recordings.{IsRead}
use Rattle.recording.proofs.Walk.{goes_on, ends, is_done, first_read}
use Rattle.recording.proofs.reading.records.Goals as goal

pub returns-in-Err-clause-exact : goal.returns-in-Err-clause-exact
returns-in-Err-clause-exact c =
    ends c.args.layout c.args.slices c.args.bytes.now c.loop-at.items.items c.loop-at.at c.in-Err.fault _ c.loop-at-test.true
    (sym (c.in-Err.ensures.value (reverse c.loop-at.items.items) c.loop-at.invariant.stands)) c.loop-at.invariant.so_far

pub loop-at-preserved : goal.loop-at-preserved
loop-at-preserved c =
    let front = c.loop-at.items.items in
    let newest = reverse-append front (c.in-Ok.item ∷ []) in
    record {
      so_far = rw c.in_ok-push.ensures.items
          (goes_on c.args.layout c.args.slices c.args.bytes.now front c.loop-at.at c.in-Ok.item _ c.loop-at-test.true
          (sym (c.in-Ok.ensures.value (reverse front) c.loop-at.invariant.stands)) c.loop-at.invariant.so_far);
      stands = rw (c.in_ok-push.ensures.items, newest) (c.note.ensures (reverse front) c.loop-at.invariant.stands);
      range = rw c.in_ok-push.ensures.items (All-push (IsRead c.args.layout c.args.slices c.args.bytes.now) front c.in-Ok.item c.loop-at.invariant.range c.in-Ok.ensures.item);
      inside = c.in-Ok.ensures.item.within;
      begun = inr (first_read c.args.layout c.args.slices c.args.bytes.now front c.loop-at.at c.in-Ok.item c.loop-at.invariant.begun (sym (c.in-Ok.ensures.value (reverse front) c.loop-at.invariant.stands)));
    }

pub returns-clause-exact : goal.returns-clause-exact
returns-clause-exact c = is_done c.args.layout c.args.slices c.args.bytes.now c.loop-at.items.items c.loop-at.at _ c.loop-at-test.false c.loop-at.invariant.so_far
