use Rattle.std.proofs.Common.{◌≡◌, ◌++◌, ◌*◌, length, take}
use Rattle.of10_port.specs.Ports.{port_bytes}
use Rattle.of10_port.proofs.port.put_ports.Given as goal

abbrev pub invariant-loop-port : goal.invariant-loop-port
invariant-loop-port l = record {
  so_far : l.out.items ≡ l.fn.out.items ++ port_bytes (take l.port-index l.ports);
  size : length (port_bytes (take l.port-index l.ports)) ≡ 48 * l.port-index;
}
