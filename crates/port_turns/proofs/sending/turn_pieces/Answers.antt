use Rattle.std.proofs.Common.{◌+◌, length, drop, sym, ap, ◌∙◌, arith}
use Rattle.std.proofs.lemmas.List.{length-drop}
use Rattle.flowspace.specs.Swaps.{pairs_of}
use Rattle.port_turns.specs.Sent.{piece_size}
use Rattle.port_turns.proofs.Pieces.{pieces_step, pieces_end, rest_here}
use Rattle.port_turns.proofs.sending.turn_pieces.Goals as goal

pub returns-clause-value : goal.returns-clause-value
returns-clause-value c =
    let done = c.loop-size-test.false in
    let first = c.loop-size.invariant.first in
    sym (pieces_end (pairs_of c.args.policy.now.swaps c.args.slot) c.args.piece c.loop-size.frame c.loop-size.at (omega (arith, done, first))) ∙ c.loop-size.invariant.turning

pub loop-size-preserved : goal.loop-size-preserved
loop-size-preserved c =
    let fits = c.size-size-in-loop-size.ensures.within in
    let part = ap length (rest_here (c.loop-size.at + c.loop-size.size) c.as_slice-in-loop-size.result.now) in
    let behind = length-drop (c.loop-size.at + c.loop-size.size) c.as_slice-in-loop-size.result.now in
    let same = ap length c.as_slice-in-loop-size.ensures.value in
    let kept = c.turn_piece.ensures.size in
    let i_body = c.loop-size.invariant.body in
    let within = c.loop-size.invariant.within in
    record {
      turning = pieces_step (pairs_of c.args.policy.now.swaps c.args.slot) c.args.piece c.loop-size.frame c.turn_piece.new.frame c.loop-size.at c.loop-size.size (omega (arith, within)) (let some = c.loop-size-test.true in omega (arith, some)) c.loop-size.invariant.first c.turn_piece.ensures.value c.turn_piece.ensures.size ∙ c.loop-size.invariant.turning;
      first = c.size-size-in-loop-size.ensures.value ∙ ap (piece_size c.args.piece) (rest_here (c.loop-size.at + c.loop-size.size) c.as_slice-in-loop-size.result.now ∙ ap (drop (c.loop-size.at + c.loop-size.size)) c.as_slice-in-loop-size.ensures.value);
      body = omega (arith, i_body);
      within = omega (arith, fits, part, behind, same, kept, within);
      size = c.turn_piece.ensures.size ∙ c.loop-size.invariant.size;
    }
