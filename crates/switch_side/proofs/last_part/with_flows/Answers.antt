use Rattle.std.proofs.Common.{ap, sym, ◌∙◌}
use Rattle.of10_stats.specs.declared.protocol.TheConstants.{FLOW}
use Rattle.stats_filter.specs.Keeping.{entries_in}
use Rattle.switch_side.specs.Collecting.{with_flows}
use Rattle.switch_side.proofs.Walking.{flows_first, flows_none}
use Rattle.switch_side.proofs.last_part.with_flows.Goals as goal

pub loop-size-preserved : goal.loop-size-preserved
loop-size-preserved c =
    ap (with_flows (entries_in FLOW c.split_at.result.1.now)) c.with_flow-sums.ensures
    ∙ sym (flows_first c.loop-size.rest.now c.split_at.result.0.now c.split_at.result.1.now c.loop-size.sums
    (record { size = c.in-Some.size; there = c.in-Some.ensures.value; front = c.split_at.ensures.front; back = c.split_at.ensures.back }))
    ∙ c.loop-size.invariant

pub returns : goal.returns
returns c = sym (flows_none c.loop-size.rest.now c.loop-size.sums c.in_default.ensures.value) ∙ c.loop-size.invariant
