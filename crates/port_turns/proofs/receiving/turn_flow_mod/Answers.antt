use Rattle.std.proofs.Common.{◌-◌, List, ℕ, length, take, drop, ap, ◌∙◌}
use Rattle.std.specs.Prelude.{is_ok}
use Rattle.of10_action.specs.Reading.{read_all}
use Rattle.flowspace.specs.Swaps.{pairs_of}
use Rattle.port_turns.specs.Turns.{turn_port, turn_list}
use Rattle.port_turns.specs.Sent.{turned_part}
use Rattle.port_turns.proofs.Received.{mod_actions, mod_in_place}
use Rattle.port_turns.proofs.receiving.turn_flow_mod.Goals as goal

pub turn_actions-requires-clause-right : goal.turn_actions-requires-clause-right
turn_actions-requires-clause-right c =
    let pairs = pairs_of c.args.policy.now.swaps c.args.slot in
    let fields = c.turn_port.ensures.value ∙ ap (turn_port pairs 68) c.turn_match.ensures.value in
    ap (λ (l : List ℕ). is_ok (read_all (take (length l - 72) (drop 72 c.turn_port.new.frame)))) c.as_slice-end.ensures.value
    ∙ ap (λ (l : List ℕ). is_ok (read_all (take (length c.args.frame.now - 72) (drop 72 l)))) fields
    ∙ ap (λ (l : List ℕ). is_ok (read_all l)) (mod_actions pairs c.args.frame.now c.requires.long)
    ∙ c.requires.right

pub returns : goal.returns
returns c =
    let pairs = pairs_of c.args.policy.now.swaps c.args.slot in
    let fields = c.turn_port.ensures.value ∙ ap (turn_port pairs 68) c.turn_match.ensures.value in
    c.turn_actions.ensures.value
    ∙ ap (λ (l : List ℕ). turned_part (turn_list pairs) 72 (length l - 72) c.turn_port.new.frame) c.as_slice-end.ensures.value
    ∙ ap (turned_part (turn_list pairs) 72 (length c.args.frame.now - 72)) fields
    ∙ mod_in_place pairs c.args.frame.now c.requires.long
