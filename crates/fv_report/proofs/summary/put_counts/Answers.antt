use Rattle.std.proofs.Common.{List, ◌≡◌, ◌++◌, length, refl, subst, ap, Some, slice_get, arith}
use Rattle.std.proofs.lemmas.Option.{slice_get_read, slice_get-get_or}
use Rattle.flowspace.specs.declared.slices.Slice.{Slice}
use Rattle.run_words.specs.Summaries.{count_lines}
use Rattle.fv_report.proofs.Counting.{line_put}
use Rattle.fv_report.proofs.summary.put_counts.Goals as goal

pub loop-slot-preserved : goal.loop-slot-preserved
loop-slot-preserved c = λ messages counted.
    let at = c.loop-slot.slot in
    let all = c.args.policy.now.slices in
    let known = c.requires in
    let same = ap length c.slices-slice-items.ensures.value in
    let within = c.loop-slot-test.true in
    let slice : slice_get all at ≡ Some c.slice-item.result =
    subst (λ (xs : List Slice). slice_get xs at ≡ Some c.slice-item.result) c.slices-slice-items.ensures.value (slice_get_read c.slices-slice-items.result.now (length c.slices-slice-items.result.now) at c.slice-item.result refl within c.slice-item.is) in
    line_put messages all at c.slice-item.result c.as_str.result.now c.loop-slot.text.items c.put_count.new.text.items (c.args.text.now.items ++ count_lines messages all) slice c.as_str.ensures (c.loop-slot.invariant messages counted)
    (c.in_ok-put_count.ensures (messages at) (counted at _ (slice_get-get_or c.args.counts.now at _ (omega (arith, known, same, within)))))
