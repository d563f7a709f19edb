use Rattle.std.proofs.Common.{sym, ◌∙◌}
use Rattle.flowspace.specs.Swaps.{pairs_of}
use Rattle.port_turns.specs.Turned.{exchanged}
use Rattle.port_turns.proofs.Same.{same_packet_out, none_named}
use Rattle.port_turns.proofs.values.turned_packet_out.Goals as goal

pub returns-then-not-has_swaps : goal.returns-then-not-has_swaps
returns-then-not-has_swaps c =
    sym (same_packet_out (exchanged (pairs_of c.args.policy.now.swaps c.args.slot)) (none_named c.args.policy.now.swaps c.args.slot (sym c.has_swaps.ensures ∙ c.if-not-has_swaps.true)) c.args.m)
