use Rattle.std.proofs.Common.{◌∙◌}
use Rattle.port_view.proofs.Cutting.{with_port-set, with_port-insert}
use Rattle.port_view.proofs.sorted_ports.put.Goals as goal

pub returns-in-Ok-clause-put : goal.returns-in-Ok-clause-put
returns-in-Ok-clause-put c = with_port-set c.args.port c.args.ports.now.items c.in-Ok.place (rw c.in-Ok.is at c.requires)

pub returns-in_ok-insert-in-Err-clause-put : goal.returns-in_ok-insert-in-Err-clause-put
returns-in_ok-insert-in-Err-clause-put c =
    c.in_ok-insert-in-Err.ensures.items ∙ with_port-insert c.args.port c.args.ports.now.items c.in-Err.place (rw c.in-Err.is at c.requires)
