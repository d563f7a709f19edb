use Rattle.std.proofs.Common.{◌≡◌, false, slice_index_or, sym, subst}
use Rattle.flowmod_expand.proofs.Marked.{unmarked_new}
use Rattle.flowmod_expand.proofs.match_pieces.is_repeat.Goals as goal

pub returns-then-not-marks-mark : goal.returns-then-not-marks-mark
returns-then-not-marks-mark c =
    let unmarked = subst (λ n. slice_index_or c.args.marks.now n false ≡ false) c.requires.own c.if-not-marks-mark.true in
    sym (unmarked_new c.args.marks.now c.args.found.now c.args.piece.now c.requires.marked unmarked)
