use Rattle.std.proofs.Common.{sym, ◌∙◌}
use Rattle.flowspace.specs.Swaps.{pairs_of}
use Rattle.port_turns.proofs.Stays.{none_out}
use Rattle.port_turns.proofs.sending.turn_each_out.Goals as goal

pub returns-else-has_swaps : goal.returns-else-has_swaps
returns-else-has_swaps c = sym (none_out (pairs_of c.args.policy.now.swaps c.args.slot) (sym c.has_swaps.ensures ∙ c.if-has_swaps.false) c.args.frames.now.items)
