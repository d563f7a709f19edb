use Rattle.std.proofs.Common.{true, false, refl, sym, ◌∙◌}
use Rattle.slice_side.proofs.Outs.{early_same}
use Rattle.slice_side.proofs.packet_outs.early_fault.Goals as goal

pub returns-then-names_no_packet : goal.returns-then-names_no_packet
returns-then-names_no_packet c quota xid = early_same c.args.around.now.policy.now.rules c.args.around.now.slot quota xid c.args.around.now.ports.now c.args.around.now.state.now c.args.m.now c.args.packet.now true _ _ c.requires (sym c.if-names_no_packet.true ∙ c.names_no_packet.ensures) refl refl

pub returns-then-comes_by_another : goal.returns-then-comes_by_another
returns-then-comes_by_another c quota xid = early_same c.args.around.now.policy.now.rules c.args.around.now.slot quota xid c.args.around.now.ports.now c.args.around.now.state.now c.args.m.now c.args.packet.now false true _ c.requires (sym c.if-names_no_packet.false ∙ c.names_no_packet.ensures) (sym c.if-comes_by_another.true ∙ c.comes_by_another.ensures) refl

pub returns-then-carries_another : goal.returns-then-carries_another
returns-then-carries_another c quota xid = early_same c.args.around.now.policy.now.rules c.args.around.now.slot quota xid c.args.around.now.ports.now c.args.around.now.state.now c.args.m.now c.args.packet.now false false true c.requires (sym c.if-names_no_packet.false ∙ c.names_no_packet.ensures) (sym c.if-comes_by_another.false ∙ c.comes_by_another.ensures) (sym c.if-carries_another.true ∙ c.carries_another.ensures)

pub returns : goal.returns
returns c quota xid = early_same c.args.around.now.policy.now.rules c.args.around.now.slot quota xid c.args.around.now.ports.now c.args.around.now.state.now c.args.m.now c.args.packet.now false false false c.requires (sym c.if-names_no_packet.false ∙ c.names_no_packet.ensures) (sym c.if-comes_by_another.false ∙ c.comes_by_another.ensures) (sym c.if-carries_another.false ∙ c.carries_another.ensures)
