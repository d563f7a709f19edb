use Rattle.std.proofs.Common.{◌+◌, ◌-◌, List, ℕ, take, drop, sym, ap, ◌∙◌}
use Rattle.std.specs.Prelude.{is_ok}
use Rattle.of10_action.specs.Reading.{read_all}
use Rattle.flowspace.specs.Swaps.{pairs_of}
use Rattle.port_turns.specs.Turns.{turn_list}
use Rattle.port_turns.specs.Sent.{turned_part}
use Rattle.port_turns.proofs.Pieces.{list_before, list_after, flow_right, flow_other}
use Rattle.port_turns.proofs.sending.turn_flow.Goals as goal

pub turn_actions-requires-clause-right : goal.turn_actions-requires-clause-right
turn_actions-requires-clause-right c =
    let pairs = pairs_of c.args.policy.now.swaps c.args.slot in
    let read = λ (l : List ℕ). is_ok (read_all (take (c.args.at + c.args.size - (c.args.at + 88)) (drop (c.args.at + 88) l))) in
    let before = list_before pairs c.args.frame.now c.args.at c.args.size c.requires.within c.requires.long in
    let after = list_after pairs c.args.frame.now c.args.at c.args.size c.requires.within c.requires.long in
    ap read c.turn_match.ensures.value
    ∙ ap (λ (l : List ℕ). is_ok (read_all l)) (after ∙ sym before)
    ∙ sym (c.are_actions-right.ensures ∙ ap read c.as_slice-bytes.ensures.value)
    ∙ c.if-right.true

pub returns-then-right-clause-value : goal.returns-then-right-clause-value
returns-then-right-clause-value c =
    let pairs = pairs_of c.args.policy.now.swaps c.args.slot in
    let read = λ (l : List ℕ). is_ok (read_all (take (c.args.at + c.args.size - (c.args.at + 88)) (drop (c.args.at + 88) l))) in
    let before = list_before pairs c.args.frame.now c.args.at c.args.size c.requires.within c.requires.long in
    let right = ap (λ (l : List ℕ). is_ok (read_all l)) (sym before) ∙ sym (c.are_actions-right.ensures ∙ ap read c.as_slice-bytes.ensures.value) ∙ c.if-right.true in
    c.turn_actions.ensures.value
    ∙ ap (turned_part (turn_list pairs) (c.args.at + 88) (c.args.at + c.args.size - (c.args.at + 88))) c.turn_match.ensures.value
    ∙ flow_right pairs c.args.frame.now c.args.at c.args.size c.requires.within c.requires.long right

pub returns-else-right-clause-value : goal.returns-else-right-clause-value
returns-else-right-clause-value c =
    let pairs = pairs_of c.args.policy.now.swaps c.args.slot in
    let read = λ (l : List ℕ). is_ok (read_all (take (c.args.at + c.args.size - (c.args.at + 88)) (drop (c.args.at + 88) l))) in
    let before = list_before pairs c.args.frame.now c.args.at c.args.size c.requires.within c.requires.long in
    let wrong = ap (λ (l : List ℕ). is_ok (read_all l)) (sym before) ∙ sym (c.are_actions-right.ensures ∙ ap read c.as_slice-bytes.ensures.value) ∙ c.if-right.false in
    c.turn_match.ensures.value ∙ flow_other pairs c.args.frame.now c.args.at c.args.size c.requires.within c.requires.long wrong
