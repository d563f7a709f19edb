use Rattle.std.proofs.Common.{List, IfOk, Option, option_map, ap, ap₂, subst, ◌∙◌, true, false, refl, ℕ, Result}
use Rattle.of10_action.specs.declared.action.Action.{Action}
use Rattle.of10_port.specs.declared.protocol.TheConstants.{FLOOD, ALL}
use Rattle.action_check.specs.declared.origin.Origin.{Origin}
use Rattle.action_check.specs.Permitted.{permitted}
use Rattle.slice_words.specs.Buffers.{HeldPacket}
use Rattle.slice_words.specs.FlowMods.{packet_at}
use Rattle.slice_words.specs.PacketOuts.{origin_with}
use Rattle.slice_side.specs.Reactions.{without_physical, ground_at}
use Rattle.slice_side.specs.Checking.{IsChecked}
use Rattle.slice_side.proofs.Grounds.{ports_own, permitted_same}
use Rattle.slice_side.proofs.Packets.{kept_packet}
use Rattle.slice_side.proofs.packet_outs.check_out.Goals as goal

pub check_actions-requires-clause-flood : goal.check_actions-requires-clause-flood
check_actions-requires-clause-flood c = ports_own c.args.around.now.policy.now.rules c.args.around.now.slot FLOOD false c.args.around.now.ports.now c.as_slice-actions.result.now c.in_ok-floods.floods.flood.items c.in_ok-floods.ensures.flood

pub check_actions-requires-clause-all : goal.check_actions-requires-clause-all
check_actions-requires-clause-all c = ports_own c.args.around.now.policy.now.rules c.args.around.now.slot ALL true c.args.around.now.ports.now c.as_slice-actions.result.now c.in_ok-floods.floods.all.items c.in_ok-floods.ensures.all

pub returns : goal.returns
returns c quota xid =
    let g = ground_at c.args.around.now.policy.now.rules c.args.around.now.slot c.args.around.now.ports.now quota xid c.args.around.now.state.now in
    subst (λ (list : Result (List Action) ℕ). IfOk c.check_actions.result (IsChecked list))
    (ap₂ (λ (origin : Origin) (actions : List Action). permitted c.args.around.now.policy.now.rules c.args.around.now.slot origin actions c.in_ok-floods.floods.flood.items c.in_ok-floods.floods.all.items)
    (c.origin_of-origin.ensures ∙ ap (λ (packet : Option HeldPacket). origin_with packet c.args.m.now) (ap (option_map without_physical) c.requires ∙ kept_packet c.args.around.now.state.now g c.args.m.now.buffer refl))
    c.as_slice-actions.ensures.value
    ∙ permitted_same c.args.around.now.policy.now.rules c.args.around.now.slot c.args.around.now.ports.now (origin_with (packet_at g c.args.m.now.buffer) c.args.m.now) c.args.m.now.actions c.in_ok-floods.floods.flood.items c.in_ok-floods.floods.all.items
    (rw c.as_slice-actions.ensures.value at c.in_ok-floods.ensures.flood) (rw c.as_slice-actions.ensures.value at c.in_ok-floods.ensures.all))
    c.check_actions.ensures
