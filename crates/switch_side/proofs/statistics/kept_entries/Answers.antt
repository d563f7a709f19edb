use Rattle.std.proofs.Common.{true, false, refl, sym, ◌∙◌}
use Rattle.switch_side.proofs.Walking.{kept_step, kept_done}
use Rattle.switch_side.proofs.statistics.kept_entries.Goals as goal

pub loop-size-preserved-in_ok-extend_from_slice : goal.loop-size-preserved-in_ok-extend_from_slice
loop-size-preserved-in_ok-extend_from_slice c =
    kept_step c.args.policy.now.rules c.args.slot c.args.kind c.args.asked c.loop-size.rest.now c.split_at.result.0.now c.split_at.result.1.now _ c.loop-size.kept.items c.extend_from_slice.new.self.items true c.requires
    (record { size = c.in-Some.size; there = c.in-Some.ensures.value; front = c.split_at.ensures.front; back = c.split_at.ensures.back }) (sym c.if-keep.true ∙ c.keep.ensures)
    c.loop-size.invariant c.in_ok-extend_from_slice.ensures.items

pub loop-size-preserved : goal.loop-size-preserved
loop-size-preserved c =
    kept_step c.args.policy.now.rules c.args.slot c.args.kind c.args.asked c.loop-size.rest.now c.split_at.result.0.now c.split_at.result.1.now _ c.loop-size.kept.items c.loop-size.kept.items false c.requires
    (record { size = c.in-Some.size; there = c.in-Some.ensures.value; front = c.split_at.ensures.front; back = c.split_at.ensures.back }) (sym c.if-keep.false ∙ c.keep.ensures)
    c.loop-size.invariant refl

pub returns : goal.returns
returns c = kept_done c.args.policy.now.rules c.args.slot c.args.kind c.loop-size.rest.now _ c.loop-size.kept.items c.in_default.ensures.value c.loop-size.invariant
