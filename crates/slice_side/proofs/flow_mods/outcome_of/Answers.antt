use Rattle.std.proofs.Common.{◌≡◌, length, refl, sym, subst, ◌∙◌}
use Rattle.slice_side.specs.Reactions.{ground_at}
use Rattle.slice_side.specs.Checking.{IsListed, HasLists}
use Rattle.slice_side.proofs.Lines.{early_here, refused_early, outside_refused, passes_early, refused_action, refused_long, one_list_each, command_known}
use Rattle.slice_side.proofs.flow_mods.outcome_of.Goals as goal

pub returns-in-Some-clause-outcome : goal.returns-in-Some-clause-outcome
returns-in-Some-clause-outcome c = refused_early (ground_at c.args.around.now.policy.now.rules c.args.around.now.slot c.args.around.now.ports.now c.args.quota c.args.xid c.args.around.now.state.now) c.args.m.now (c.in-Some.class, c.in-Some.code) (sym (c.early_fault.ensures ∙ early_here (ground_at c.args.around.now.policy.now.rules c.args.around.now.slot c.args.around.now.ports.now c.args.quota c.args.xid c.args.around.now.state.now) c.args.m.now c.args.around.now.state.now refl) ∙ c.in-Some.is)

pub returns-then-is_outside-clause-outcome : goal.returns-then-is_outside-clause-outcome
returns-then-is_outside-clause-outcome c =
    outside_refused (ground_at c.args.around.now.policy.now.rules c.args.around.now.slot c.args.around.now.ports.now c.args.quota c.args.xid c.args.around.now.state.now) c.args.m.now c.deref.result.now (sym (c.early_fault.ensures ∙ early_here (ground_at c.args.around.now.policy.now.rules c.args.around.now.slot c.args.around.now.ports.now c.args.quota c.args.xid c.args.around.now.state.now) c.args.m.now c.args.around.now.state.now refl) ∙ c.in-None.is) (c.deref.ensures.value ∙ c.in_ok-pieces.ensures.value) (sym c.is_outside.ensures ∙ c.if-is_outside.true)

pub built-requires-clause-command : goal.built-requires-clause-command
built-requires-clause-command c = command_known (ground_at c.args.around.now.policy.now.rules c.args.around.now.slot c.args.around.now.ports.now c.args.quota c.args.xid c.args.around.now.state.now) c.args.m.now (sym (c.early_fault.ensures ∙ early_here (ground_at c.args.around.now.policy.now.rules c.args.around.now.slot c.args.around.now.ports.now c.args.quota c.args.xid c.args.around.now.state.now) c.args.m.now c.args.around.now.state.now refl) ∙ c.in-None.is)

pub built-requires-clause-lists : goal.built-requires-clause-lists
built-requires-clause-lists c =
    subst (λ lists. length lists ≡ length c.in_ok-pieces.pieces.items) (sym c.deref-in-Given.ensures.value)
    (one_list_each (ground_at c.args.around.now.policy.now.rules c.args.around.now.slot c.args.around.now.ports.now c.args.quota c.args.xid c.args.around.now.state.now) c.args.m.now c.in_ok-pieces.pieces.items c.in-Given.lists.items (subst (IsListed (ground_at c.args.around.now.policy.now.rules c.args.around.now.slot c.args.around.now.ports.now c.args.quota c.args.xid c.args.around.now.state.now) c.args.m.now) c.in-Given.is (c.in_ok-code.ensures c.args.quota c.args.xid)) c.in_ok-pieces.ensures.value)

pub returns-in-Forbidden-clause-outcome : goal.returns-in-Forbidden-clause-outcome
returns-in-Forbidden-clause-outcome c = refused_action (ground_at c.args.around.now.policy.now.rules c.args.around.now.slot c.args.around.now.ports.now c.args.quota c.args.xid c.args.around.now.state.now) c.args.m.now c.in-Forbidden.code (passes_early (ground_at c.args.around.now.policy.now.rules c.args.around.now.slot c.args.around.now.ports.now c.args.quota c.args.xid c.args.around.now.state.now) c.args.m.now c.deref.result.now (sym (c.early_fault.ensures ∙ early_here (ground_at c.args.around.now.policy.now.rules c.args.around.now.slot c.args.around.now.ports.now c.args.quota c.args.xid c.args.around.now.state.now) c.args.m.now c.args.around.now.state.now refl) ∙ c.in-None.is) (c.deref.ensures.value ∙ c.in_ok-pieces.ensures.value) (sym c.is_outside.ensures ∙ c.if-is_outside.false)) (subst (IsListed (ground_at c.args.around.now.policy.now.rules c.args.around.now.slot c.args.around.now.ports.now c.args.quota c.args.xid c.args.around.now.state.now) c.args.m.now) c.in-Forbidden.is (c.in_ok-code.ensures c.args.quota c.args.xid))

pub returns-in-TooMany-clause-outcome : goal.returns-in-TooMany-clause-outcome
returns-in-TooMany-clause-outcome c = (let told = (subst (IsListed (ground_at c.args.around.now.policy.now.rules c.args.around.now.slot c.args.around.now.ports.now c.args.quota c.args.xid c.args.around.now.state.now) c.args.m.now) c.in-TooMany.is (c.in_ok-code.ensures c.args.quota c.args.xid)) in refused_long (ground_at c.args.around.now.policy.now.rules c.args.around.now.slot c.args.around.now.ports.now c.args.quota c.args.xid c.args.around.now.state.now) c.args.m.now (passes_early (ground_at c.args.around.now.policy.now.rules c.args.around.now.slot c.args.around.now.ports.now c.args.quota c.args.xid c.args.around.now.state.now) c.args.m.now c.deref.result.now (sym (c.early_fault.ensures ∙ early_here (ground_at c.args.around.now.policy.now.rules c.args.around.now.slot c.args.around.now.ports.now c.args.quota c.args.xid c.args.around.now.state.now) c.args.m.now c.args.around.now.state.now refl) ∙ c.in-None.is) (c.deref.ensures.value ∙ c.in_ok-pieces.ensures.value) (sym c.is_outside.ensures ∙ c.if-is_outside.false)) told.0 told.1)

pub returns-in-Given-clause-outcome : goal.returns-in-Given-clause-outcome
returns-in-Given-clause-outcome c = c.built.ensures.outcome (passes_early (ground_at c.args.around.now.policy.now.rules c.args.around.now.slot c.args.around.now.ports.now c.args.quota c.args.xid c.args.around.now.state.now) c.args.m.now c.deref.result.now (sym (c.early_fault.ensures ∙ early_here (ground_at c.args.around.now.policy.now.rules c.args.around.now.slot c.args.around.now.ports.now c.args.quota c.args.xid c.args.around.now.state.now) c.args.m.now c.args.around.now.state.now refl) ∙ c.in-None.is) (c.deref.ensures.value ∙ c.in_ok-pieces.ensures.value) (sym c.is_outside.ensures ∙ c.if-is_outside.false)) (subst (HasLists (ground_at c.args.around.now.policy.now.rules c.args.around.now.slot c.args.around.now.ports.now c.args.quota c.args.xid c.args.around.now.state.now) c.args.m.now) (sym c.deref-in-Given.ensures.value) (subst (IsListed (ground_at c.args.around.now.policy.now.rules c.args.around.now.slot c.args.around.now.ports.now c.args.quota c.args.xid c.args.around.now.state.now) c.args.m.now) c.in-Given.is (c.in_ok-code.ensures c.args.quota c.args.xid)))
