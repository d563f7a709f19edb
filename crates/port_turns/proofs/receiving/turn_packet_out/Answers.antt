use Rattle.std.proofs.Common.{◌≡◌, ◌+◌, ◌-◌, List, ℕ, take, drop, ap, ◌∙◌}
use Rattle.std.specs.Prelude.{is_ok}
use Rattle.byteorder.specs.Endian.{big_number}
use Rattle.of10_model.specs.Normal.{number_at}
use Rattle.of10_action.specs.Reading.{read_all}
use Rattle.flowspace.specs.Swaps.{pairs_of}
use Rattle.port_turns.specs.Turns.{turn_list}
use Rattle.port_turns.specs.Sent.{turned_part}
use Rattle.port_turns.proofs.Received.{out_actions, out_in_place}
use Rattle.port_turns.proofs.receiving.turn_packet_out.Goals as goal

pub turn_actions-requires-clause-right : goal.turn_actions-requires-clause-right
turn_actions-requires-clause-right c =
    let pairs = pairs_of c.args.policy.now.swaps c.args.slot in
    let size = c.from-size.result in
    let is : size ≡ number_at c.args.frame.now 14 2 = c.from-size.ensures ∙ c.u16_at.ensures ∙ ap (λ (l : List ℕ). big_number 2 (drop 14 l)) c.as_slice.ensures.value in
    ap (λ (l : List ℕ). is_ok (read_all (take (16 + size - 16) (drop 16 l)))) c.turn_port.ensures.value
    ∙ ap (λ (l : List ℕ). is_ok (read_all l)) (out_actions pairs c.args.frame.now size is c.requires.whole)
    ∙ c.requires.right

pub returns : goal.returns
returns c =
    let pairs = pairs_of c.args.policy.now.swaps c.args.slot in
    let size = c.from-size.result in
    let is : size ≡ number_at c.args.frame.now 14 2 = c.from-size.ensures ∙ c.u16_at.ensures ∙ ap (λ (l : List ℕ). big_number 2 (drop 14 l)) c.as_slice.ensures.value in
    c.turn_actions.ensures.value
    ∙ ap (turned_part (turn_list pairs) 16 (16 + size - 16)) c.turn_port.ensures.value
    ∙ out_in_place pairs c.args.frame.now size is c.requires.whole
