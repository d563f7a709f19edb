use Rattle.std.proofs.Common.{sym, ◌∙◌, arith}
use Rattle.std.proofs.lemmas.Bool.{ne_eqb}
use Rattle.std.proofs.lemmas.List.{length-drop}
use Rattle.flowspace.specs.Swaps.{pairs_of}
use Rattle.port_turns.proofs.Pieces.{flow_long, entry_two, entry_lies, entry_port_part, entry_other_part}
use Rattle.port_turns.proofs.sending.turn_entry.Goals as goal

pub turn_flow-requires-clause-long : goal.turn_flow-requires-clause-long
turn_flow-requires-clause-long c = flow_long c.args.kind c.args.size _ c.if-kind-eq-FLOW.true c.requires.some c.requires.whole

pub turn_port-requires-clause-within : goal.turn_port-requires-clause-within
turn_port-requires-clause-within c =
    let t = c.if-begins_with_port.true in
    let f = c.if-kind-eq-FLOW.false in
    let two = entry_two c.args.kind c.args.size _ (sym c.begins_with_port.ensures ∙ c.if-begins_with_port.true) c.requires.some c.requires.whole in
    let lies = entry_lies c.args.kind c.args.size c.args.at c.args.frame.now c.requires.some c.requires.whole in
    let few = two.0 in
    let most = two.1 in
    let behind = length-drop c.args.at c.args.frame.now in
    omega (arith, few, most, behind, lies)

pub returns-then-begins_with_port-clause-value : goal.returns-then-begins_with_port-clause-value
returns-then-begins_with_port-clause-value c =
    let lies = entry_lies c.args.kind c.args.size c.args.at c.args.frame.now c.requires.some c.requires.whole in
    c.turn_port.ensures.value
    ∙ entry_port_part (pairs_of c.args.policy.now.swaps c.args.slot) c.args.kind c.args.size c.args.at c.args.frame.now lies (ne_eqb c.args.kind 1 c.if-kind-eq-FLOW.false) (sym c.begins_with_port.ensures ∙ c.if-begins_with_port.true) c.requires.some c.requires.whole

pub returns-else-begins_with_port-clause-value : goal.returns-else-begins_with_port-clause-value
returns-else-begins_with_port-clause-value c =
    entry_other_part (pairs_of c.args.policy.now.swaps c.args.slot) c.args.kind c.args.size c.args.at c.args.frame.now (ne_eqb c.args.kind 1 c.if-kind-eq-FLOW.false) (sym c.begins_with_port.ensures ∙ c.if-begins_with_port.false)
