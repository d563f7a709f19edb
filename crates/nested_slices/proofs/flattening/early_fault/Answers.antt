use Rattle.std.proofs.Common.{◌≡◌, false, ◌||◌, None, Some, get_or, refl, sym, ap, ◌∙◌}
use Rattle.std.proofs.lemmas.Option.{slice_get_read}
use Rattle.nested_slices.specs.Refused.{has_swaps, unwritten, shares_of, share_fault}
use Rattle.nested_slices.proofs.Flattened.{early_reader, early_share}
use Rattle.nested_slices.proofs.flattening.early_fault.Goals as goal

pub returns-in-Some-clause-value : goal.returns-in-Some-clause-value
returns-in-Some-clause-value c =
    let o = c.args.outer.now in
    let i = c.args.inner.now in
    let plain : (has_swaps o || has_swaps i) ≡ false = sym c.if-have_swaps.ensures in
    let at : unwritten i.rules ≡ Some c.in-Some.place = ap unwritten (sym c.rules-rules.ensures.value) ∙ sym c.in-Some.ensures in
    sym (early_reader o c.args.slot i c.in-Some.place plain at)

pub returns-in-None-clause-value : goal.returns-in-None-clause-value
returns-in-None-clause-value c =
    let o = c.args.outer.now in
    let i = c.args.inner.now in
    let holder = c.index-slices-from.result in
    let plain : (has_swaps o || has_swaps i) ≡ false = sym c.if-have_swaps.ensures in
    let none : unwritten i.rules ≡ None = ap unwritten (sym c.rules-rules.ensures.value) ∙ sym c.in-None.ensures in
    let read : holder ≡ get_or o.slices c.args.slot holder = cc (c.index-slices-from.is, c.from.ensures, c.slices.ensures.value) in
    let there = slice_get_read o.slices _ c.args.slot holder refl c.requires read in
    c.share_fault.ensures
    ∙ ap (λ t. share_fault t holder) (c.shares_of.ensures ∙ ap shares_of c.slices-in-None.ensures.value)
    ∙ sym (early_share o c.args.slot i holder plain none there)
