use Rattle.std.proofs.Common.{◌≡◌, ℕ, ◌/◌, ◌^◌, IfOk, slice_get, Some, None, option_and_then, sym, ap, ◌∙◌, subst}
use Rattle.switch_side.specs.Carrying.{carried, turning, collecting_turn}
use Rattle.switch_side.proofs.statistics.answered.Goals as goal

pub returns-in-None : goal.returns-in-None
returns-in-None c called all =
    c.nothing.ensures
    ∙ ap (λ found. turning (option_and_then (collecting_turn c.args.policy.now.rules (called (c.args.xid / 2 ^ 24)) (c.args.xid / 2 ^ 24) c.args.part.now c.args.body.now) found)) (c.in-None.ensures.request called all)

pub returns-in-Some : goal.returns-in-Some
returns-in-Some c called all =
    let seen = c.in-Some.seen in
    subst (λ found. IfOk c.followed.result (λ d. carried d ≡ turning (option_and_then (collecting_turn c.args.policy.now.rules (called (c.args.xid / 2 ^ 24)) (c.args.xid / 2 ^ 24) c.args.part.now c.args.body.now) found))) (c.in-Some.ensures.request called all)
    (subst (λ (n : ℕ). IfOk c.followed.result (λ d. carried d ≡ turning (collecting_turn c.args.policy.now.rules (called n) n c.args.part.now c.args.body.now seen.request))) c.in-Some.ensures.slot
    (c.followed.ensures (called seen.slot) (all seen.slot seen.state.now c.in-Some.ensures.state).2))
