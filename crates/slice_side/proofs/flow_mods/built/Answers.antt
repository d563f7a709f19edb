use Rattle.std.proofs.Common.{ℕ, List, Vec, map, option_map, refl, sym, ap, ap₂, ◌∙◌}
use Rattle.of10_flow.specs.FlowMods.{spell_flow_mod}
use Rattle.flowmod_expand.specs.Messages.{piece_messages}
use Rattle.slice_words.specs.FlowMods.{pieces_on}
use Rattle.slice_side.specs.Reactions.{ground_at}
use Rattle.slice_side.specs.Checking.{held_for, carrier_in}
use Rattle.slice_side.proofs.Lines.{built_large, built_late, built_messages, large_told}
use Rattle.slice_side.proofs.Packets.{used_same}
use Rattle.slice_side.proofs.flow_mods.built.Goals as goal

pub returns-in-Err-TooLarge-clause-outcome : goal.returns-in-Err-TooLarge-clause-outcome
returns-in-Err-TooLarge-clause-outcome c passes has =
    built_large (ground_at c.args.around.now.policy.now.rules c.args.around.now.slot c.args.around.now.ports.now c.args.quota c.args.xid c.args.around.now.state.now) c.args.m.now c.deref-2.result.now c.args.lists.now c.carrier-carrier.result passes has (c.deref-2.ensures.value ∙ c.requires.pieces)
    (large_told {A = Vec (List ℕ) (Unit {0})} (λ frames. frames.items) c.in-Err-TooLarge.field-0 (map spell_flow_mod (piece_messages 0 c.args.m.now c.args.xid c.deref-2.result.now c.args.lists.now c.carrier-carrier.result)) c.in-Err-TooLarge.field-0-is c.in-Err-TooLarge.ensures.exact)

pub returns-in-Some-clause-outcome : goal.returns-in-Some-clause-outcome
returns-in-Some-clause-outcome c passes has =
    built_late (ground_at c.args.around.now.policy.now.rules c.args.around.now.slot c.args.around.now.ports.now c.args.quota c.args.xid c.args.around.now.state.now) c.args.m.now c.deref-2.result.now c.args.lists.now c.carrier-carrier.result _ passes has (c.deref-2.ensures.value ∙ c.requires.pieces) c.in-Ok.ensures.exact.1
    (sym c.in-Some.is ∙ c.late_fault.ensures (ground_at c.args.around.now.policy.now.rules c.args.around.now.slot c.args.around.now.ports.now c.args.quota c.args.xid c.args.around.now.state.now) (c.deref-in-Ok.ensures.value ∙ c.requires.pieces) refl refl)

pub returns-clause-outcome : goal.returns-clause-outcome
returns-clause-outcome c passes has =
    let g = (ground_at c.args.around.now.policy.now.rules c.args.around.now.slot c.args.around.now.ports.now c.args.quota c.args.xid c.args.around.now.state.now) in
    let carried = c.carrier-carrier.ensures.value ∙ ap₂ carrier_in c.packet_for.ensures (c.deref.ensures.value ∙ c.requires.pieces) in (
      built_late g c.args.m.now c.deref-2.result.now c.args.lists.now c.carrier-carrier.result _ passes has (c.deref-2.ensures.value ∙ c.requires.pieces) c.in-Ok.ensures.exact.1
          (sym c.in-None.is ∙ c.late_fault.ensures g (c.deref-in-Ok.ensures.value ∙ c.requires.pieces) refl refl),
      built_messages g c.args.m.now c.deref-2.result.now c.args.lists.now c.carrier-carrier.result (carrier_in (held_for c.args.around.now.state.now c.args.m.now) (pieces_on g c.args.m.now)) c.in-Ok.frames.items has (c.deref-2.ensures.value ∙ c.requires.pieces) c.in-Ok.ensures.exact.0 carried,
      c.requires.pieces,
      c.used.ensures ∙ ap (option_map (λ (own : ℕ × ℕ). c.args.m.now.buffer)) carried ∙ used_same c.args.around.now.state.now g c.args.m.now (pieces_on g c.args.m.now) refl,
    )
