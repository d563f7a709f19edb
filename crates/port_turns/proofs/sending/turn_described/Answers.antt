use Rattle.std.proofs.Common.{◌∙◌}
use Rattle.flowspace.specs.Swaps.{pairs_of}
use Rattle.port_turns.proofs.Pieces.{described_part, port_lies}
use Rattle.port_turns.proofs.sending.turn_described.Goals as goal

pub returns-clause-value : goal.returns-clause-value
returns-clause-value c =
    c.turn_port.ensures.value ∙ described_part (pairs_of c.args.policy.now.swaps c.args.slot) c.args.size c.args.at c.args.frame.now (port_lies c.args.size c.args.at c.args.frame.now c.requires.some c.requires.whole) c.requires.some c.requires.whole
