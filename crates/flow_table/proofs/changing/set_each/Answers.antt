use Rattle.std.proofs.Common.{◌≡◌, ◌+◌, if◌then◌else◌, sym, ap, ◌∙◌, subst, set, drop, arith, get_or}
use Rattle.std.specs.Prelude.{count_by, vec_len}
use Rattle.std.proofs.lemmas.List.Edits.{map_over_more}
use Rattle.of10_flow.specs.Tables.{touches, with_actions_of}
use Rattle.flow_table.proofs.Setting.{count_more, as_it_was}
use Rattle.flow_table.proofs.changing.set_each.Goals as goal

pub loop-entry-preserved : goal.loop-entry-preserved
loop-entry-preserved c =
    let m = c.args.m.now in
    let xs = c.args.entries.now in
    let i = c.loop-entry.entry-index in
    let e = c.entry-item.result in
    let here : e ≡ get_or xs i e = c.entry-item.is ∙ as_it_was (with_actions_of m) xs c.loop-entry.entries i e c.loop-entry-test.true c.loop-entry.invariant.0 in
    let count : count_by (touches m) (drop i xs) ≡ (if touches m e then 1 else 0) + count_by (touches m) (drop (i + 1) xs) =
    subst (λ x. count_by (touches m) (drop i xs) ≡ (if touches m x then 1 else 0) + count_by (touches m) (drop (i + 1) xs)) (sym here) (count_more m xs i e c.loop-entry-test.true) in
    let left : vec_len c.loop-entry.lists ≡ vec_len c.set_one.new.lists + (if touches m e then 1 else 0) =
    subst (λ x. vec_len c.loop-entry.lists ≡ vec_len c.set_one.new.lists + (if touches m x then 1 else 0)) (sym c.entry-item.is) c.set_one.ensures.left in (
      ap (set c.loop-entry.entries i) c.set_one.ensures.entry ∙ ap (λ x. set c.loop-entry.entries i (with_actions_of m x)) (sym c.entry-item.is)
          ∙ map_over_more (with_actions_of m) xs c.loop-entry.entries i e c.loop-entry-test.true c.loop-entry.invariant.0 c.entry-item.is,
      c.set_one.ensures.copies,
      omega (arith, count, c.loop-entry.invariant.2, left),
    )
