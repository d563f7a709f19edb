use Rattle.std.proofs.Common.{sym, ◌∙◌, true≢false}
use Rattle.flowspace.specs.Swaps.{pairs_of}
use Rattle.port_turns.proofs.Stays.{out_sorted}
use Rattle.port_turns.proofs.sending.turn_out.Goals as goal
use Rattle.port_turns.proofs.sending.turn_out.Goals.{in-Ports, in_default}

pub returns-in_ok-sort_ports : goal.returns-in_ok-sort_ports
returns-in_ok-sort_ports c =
    elim c.match-matches.branch [
      | in-Ports w ↦ out_sorted (pairs_of c.args.policy.now.swaps c.args.slot) c.args.frame.now c.turn_at.new.frame c.sort_ports.new.frame c.places_of-places.result (sym c.has_swaps.ensures ∙ c.if-has_swaps.true) c.places_of-places.ensures.value w.in-Ports.is c.turn_at.ensures.value c.in_ok-sort_ports.ensures
      | in_default w ↦ absurd (true≢false (sym c.if-matches.true ∙ w.matches-is))
    ]
