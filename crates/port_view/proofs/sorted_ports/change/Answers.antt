use Rattle.std.proofs.Common.{◌∙◌, sym}
use Rattle.of10_port.specs.Ports.{port_number}
use Rattle.port_view.proofs.Cutting.{without_port-remove, without_port-none, changed_plainly-delete, changed_plainly-other}
use Rattle.port_view.proofs.sorted_ports.change.Goals as goal

pub returns-then-status-ne-DELETE-clause-changed : goal.returns-then-status-ne-DELETE-clause-changed
returns-then-status-ne-DELETE-clause-changed c =
    rw (changed_plainly-other c.args.status.now c.args.ports.now.items c.if-status-ne-DELETE.true) c.put.ensures.put

pub returns-in-Ok-clause-changed : goal.returns-in-Ok-clause-changed
returns-in-Ok-clause-changed c =
    c.remove.ensures.by_index.2
    ∙ without_port-remove (port_number c.args.status.now.port) c.args.ports.now.items c.in-Ok.place (rw c.in-Ok.is at c.requires)
    ∙ sym (changed_plainly-delete c.args.status.now c.args.ports.now.items c.if-status-ne-DELETE.false)

pub returns-in-Err-clause-changed : goal.returns-in-Err-clause-changed
returns-in-Err-clause-changed c =
    without_port-none (port_number c.args.status.now.port) c.args.ports.now.items c.in-Err.field-0 (rw c.in-Err.is at c.requires)
    ∙ sym (changed_plainly-delete c.args.status.now c.args.ports.now.items c.if-status-ne-DELETE.false)
