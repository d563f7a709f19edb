use Rattle.std.proofs.Common.{◌&&◌, ap, ◌∙◌}
use Rattle.std.specs.List.{list_any}
use Rattle.flowspace.specs.Owners.{is_rule_at}
use Rattle.flowspace.proofs.Owning.{has_port-tested}
use Rattle.flowspace.proofs.switch.SwitchPolicy.has_port.Goals as goal

pub returns-then-is_in_port-clause-ports : goal.returns-then-is_in_port-clause-ports
returns-then-is_in_port-clause-ports c =
    has_port-tested c.args.self.now.rules c.args.slot c.args.port c.has_rule_at.result
    (c.has_rule_at.ensures ∙ ap (λ b. b && list_any (is_rule_at c.args.slot c.args.port) c.args.self.now.rules) c.if-is_in_port.ensures)

pub returns-else-is_in_port-clause-ports : goal.returns-else-is_in_port-clause-ports
returns-else-is_in_port-clause-ports c =
    has_port-tested c.args.self.now.rules c.args.slot c.args.port c.is_in_port.result
    (c.if-is_in_port.false ∙ ap (λ b. b && list_any (is_rule_at c.args.slot c.args.port) c.args.self.now.rules) c.if-is_in_port.ensures)
