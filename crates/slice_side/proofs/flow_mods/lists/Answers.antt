use Rattle.std.proofs.Common.{List, IfOk, sym, subst, ◌∙◌, true, false}
use Rattle.of10_action.specs.declared.action.Action.{Action}
use Rattle.of10_port.specs.declared.protocol.TheConstants.{FLOOD, ALL}
use Rattle.action_check.specs.declared.origin.Origin.TheVariants.{Piece}
use Rattle.action_check.specs.Permitted.{permitted}
use Rattle.std.proofs.lemmas.Result.{IfOk-weaker}
use Rattle.slice_side.specs.Reactions.{ground_at}
use Rattle.slice_side.specs.Checking.{IsListing}
use Rattle.slice_side.proofs.Lines.{delete_lists, listed}
use Rattle.slice_side.proofs.Grounds.{ports_own, permitted_same}
use Rattle.slice_side.proofs.flow_mods.lists.Goals as goal

pub returns-then-is_delete : goal.returns-then-is_delete
returns-then-is_delete c quota xid = delete_lists (ground_at c.args.around.now.policy.now.rules c.args.around.now.slot c.args.around.now.ports.now quota xid c.args.around.now.state.now) c.args.m.now c.args.pieces.now c.in_ok-no_actions.field-0.items (sym c.is_delete.ensures ∙ c.if-is_delete.true) c.requires c.in_ok-no_actions.ensures

pub list_pieces-requires-clause-flood : goal.list_pieces-requires-clause-flood
list_pieces-requires-clause-flood c = ports_own c.args.around.now.policy.now.rules c.args.around.now.slot FLOOD false c.args.around.now.ports.now c.as_slice-actions.result.now c.in_ok-floods.floods.flood.items c.in_ok-floods.ensures.flood

pub list_pieces-requires-clause-all : goal.list_pieces-requires-clause-all
list_pieces-requires-clause-all c = ports_own c.args.around.now.policy.now.rules c.args.around.now.slot ALL true c.args.around.now.ports.now c.as_slice-actions.result.now c.in_ok-floods.floods.all.items c.in_ok-floods.ensures.all

pub returns : goal.returns
returns c quota xid = IfOk-weaker c.list_pieces.result _ _
    (λ l is. listed (ground_at c.args.around.now.policy.now.rules c.args.around.now.slot c.args.around.now.ports.now quota xid c.args.around.now.state.now) c.args.m.now (λ piece. permitted c.args.around.now.policy.now.rules c.args.around.now.slot (Piece piece) c.args.m.now.actions c.in_ok-floods.floods.flood.items c.in_ok-floods.floods.all.items) c.args.pieces.now l
    (sym c.is_delete.ensures ∙ c.if-is_delete.false)
    (λ i piece. permitted_same c.args.around.now.policy.now.rules c.args.around.now.slot c.args.around.now.ports.now (Piece piece) c.args.m.now.actions c.in_ok-floods.floods.flood.items c.in_ok-floods.floods.all.items
    (rw c.as_slice-actions.ensures.value at c.in_ok-floods.ensures.flood) (rw c.as_slice-actions.ensures.value at c.in_ok-floods.ensures.all) i)
    c.requires is)
    (subst (λ (actions : List Action). IfOk c.list_pieces.result (IsListing (λ piece. permitted c.args.around.now.policy.now.rules c.args.around.now.slot (Piece piece) actions c.in_ok-floods.floods.flood.items c.in_ok-floods.floods.all.items) c.args.pieces.now))
    c.as_slice-actions.ensures.value c.list_pieces.ensures)
