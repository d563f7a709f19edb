use Rattle.std.proofs.Common.{◌≡◌, take}
use Rattle.port_view.specs.KnownPorts.{IsAscending, first_known}
use Rattle.port_view.proofs.view.first_known.Given as goal

abbrev pub invariant-loop-port : goal.invariant-loop-port
invariant-loop-port l = record {
  so_far : l.known.items ≡ first_known (take l.port-index l.ports);
  order : IsAscending l.known.items;
}
