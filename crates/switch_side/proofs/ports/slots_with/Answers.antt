use Rattle.std.proofs.Common.{List, sym, ◌∙◌, subst}
use Rattle.flowspace.specs.declared.rules.Rule.{Rule}
use Rattle.switch_side.specs.Sharing.{AreSlotsWith}
use Rattle.switch_side.proofs.Sharing.{port_noted, port_unnoted}
use Rattle.switch_side.proofs.ports.slots_with.Goals as goal

pub returns-then-is_in_port : goal.returns-then-is_in_port
returns-then-is_in_port c =
    subst (λ (rules : List Rule). AreSlotsWith rules c.args.port c.note_all.new.slots) c.rules.ensures.value
    (port_noted c.rules.result.now c.args.port c.note_all.new.slots (sym c.is_in_port.ensures ∙ c.if-is_in_port.true) c.note_all.ensures)

pub returns-else-is_in_port : goal.returns-else-is_in_port
returns-else-is_in_port c = port_unnoted c.args.policy.now.rules c.args.port (sym c.is_in_port.ensures ∙ c.if-is_in_port.false)
