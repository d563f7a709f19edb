use Rattle.std.proofs.Common.{sym, ap, subst, ◌∙◌, Ok, Err, IfOk}
use Rattle.std.proofs.lemmas.Result.{IfOk-weaker}
use Rattle.of10_message.specs.declared.controller.FromController.{FromController}
use Rattle.flowspace.specs.Swaps.{pairs_of}
use Rattle.port_turns.specs.Turned.{exchanged}
use Rattle.port_turns.specs.Readings.{read_turned}
use Rattle.slice_words.specs.Messages.{Reading}
use Rattle.slice_words.specs.Pasts.{Answer}
use Rattle.slice_words.specs.Standing.{past_of}
use Rattle.slice_words.proofs.ReadAlike.{same_asks}
use Rattle.slice_side.specs.Reactions.{Follows, physical_said}
use Rattle.slice_side.specs.Checking.{AreSentOn}
use Rattle.slice_side.proofs.Answering.{shown, read_pairs, read_physical, names_no_port, reaction_of, asked_answer}
use Rattle.slice_side.proofs.Sending.{nothing_sent}
use Rattle.slice_side.proofs.reacting.answer.Goals as goal

pub returns-in-Err-clause-answer : goal.returns-in-Err-clause-answer
returns-in-Err-clause-answer c s sight stands sees = IfOk-weaker c.unread.result _ _
    (λ r follows. reaction_of s sight c.args.frame.now c.args.moment r (Err c.in-Err.fault) sees.up (read_physical s (pairs_of c.args.around.now.policy.now.swaps c.args.around.now.slot) c.args.frame.now (Err c.in-Err.fault) sees.same_swaps (sym c.in-Err.ensures)) follows) (c.unread.ensures.follows s sight)

pub returns-then-asks_switch-clause-answer : goal.returns-then-asks_switch-clause-answer
returns-then-asks_switch-clause-answer c s sight stands sees = IfOk-weaker c.question.result _ _
    (let pairs = pairs_of c.args.around.now.policy.now.swaps c.args.around.now.slot in
    let physical = physical_said c.args.around.now.policy.now c.args.around.now.slot c.in-Ok.message in
    λ r follows. reaction_of s sight c.args.frame.now c.args.moment r (Ok physical) sees.up (read_physical s pairs c.args.frame.now (Ok c.in-Ok.message) sees.same_swaps (sym c.in-Ok.ensures))
    (subst (λ (a : Answer). Follows s sight c.args.frame.now (Ok physical) a c.args.moment r)
    (asked_answer s sight.view (past_of s sight.view) c.args.moment c.args.frame.now physical (same_asks (exchanged pairs) (Ok c.in-Ok.message) ∙ sym c.asks_switch.ensures ∙ c.if-asks_switch.true)) follows)) (c.question.ensures.follows s sight stands sees)

pub returns-else-asks_switch-clause-answer : goal.returns-else-asks_switch-clause-answer
returns-else-asks_switch-clause-answer c s sight stands sees = IfOk-weaker c.local.result _ _
    (λ r follows. reaction_of s sight c.args.frame.now c.args.moment r (Ok c.in-Ok.message) sees.up
    (read_physical s (pairs_of c.args.around.now.policy.now.swaps c.args.around.now.slot) c.args.frame.now (Ok c.in-Ok.message) sees.same_swaps (sym c.in-Ok.ensures)
    ∙ ap (λ (asked : FromController). Ok asked) (names_no_port c.args.around.now.policy.now c.args.around.now.slot c.in-Ok.message (sym c.asks_switch.ensures ∙ c.if-asks_switch.false))) follows)
    (c.local.ensures.follows s sight (past_of s sight.view) (shown s sight c.args.around.now.state.now c.args.around.now.policy.now c.args.around.now.ports.now c.args.around.now.features.now c.args.around.now.slot stands sees))

pub returns-in-Err-clause-sent : goal.returns-in-Err-clause-sent
returns-in-Err-clause-sent c = nothing_sent c.unread.result c.args.around.now.policy.now.rules c.args.around.now.slot c.args.around.now.ports.now c.args.around.now.state.now (read_turned (pairs_of c.args.around.now.policy.now.swaps c.args.around.now.slot) c.args.frame.now) c.unread.ensures.nothing

pub returns-then-asks_switch-clause-sent : goal.returns-then-asks_switch-clause-sent
returns-then-asks_switch-clause-sent c =
    subst (λ (read : Reading). IfOk c.question.result (λ r. AreSentOn c.args.around.now.policy.now.rules c.args.around.now.slot c.args.around.now.ports.now c.args.around.now.state.now read r.to_switch.items))
    (sym (read_pairs (pairs_of c.args.around.now.policy.now.swaps c.args.around.now.slot) c.args.frame.now (Ok c.in-Ok.message) (sym c.in-Ok.ensures))) c.question.ensures.sent

pub returns-else-asks_switch-clause-sent : goal.returns-else-asks_switch-clause-sent
returns-else-asks_switch-clause-sent c = nothing_sent c.local.result c.args.around.now.policy.now.rules c.args.around.now.slot c.args.around.now.ports.now c.args.around.now.state.now (read_turned (pairs_of c.args.around.now.policy.now.swaps c.args.around.now.slot) c.args.frame.now) c.local.ensures.nothing
