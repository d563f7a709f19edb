use Rattle.std.proofs.Common.{sym, ap, ◌∙◌}
use Rattle.flowspace.specs.Swaps.{pairs_of}
use Rattle.port_turns.specs.declared.receiving.Layout.{Layout}
use Rattle.port_turns.specs.Received.{turn_laid}
use Rattle.port_turns.proofs.Received.{in_turned, in_stays}
use Rattle.port_turns.proofs.receiving.turn_in.Goals as goal

pub returns-then-has_swaps : goal.returns-then-has_swaps
returns-then-has_swaps c =
    let pairs = pairs_of c.args.policy.now.swaps c.args.slot in
    record {
      value = c.turn_laid.ensures
          ∙ ap (λ (l : Layout). turn_laid pairs l c.args.frame.now) c.layout_of-layout.ensures.value
          ∙ in_turned pairs c.args.frame.now (sym c.has_swaps.ensures ∙ c.if-has_swaps.true);
    }

pub returns-else-has_swaps : goal.returns-else-has_swaps
returns-else-has_swaps c = record { value = in_stays (pairs_of c.args.policy.now.swaps c.args.slot) c.args.frame.now (sym c.has_swaps.ensures ∙ c.if-has_swaps.false) }
