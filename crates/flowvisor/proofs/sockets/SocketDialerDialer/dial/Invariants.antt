use Rattle.std.proofs.Common.{◌≡◌}
use Rattle.flowvisor.proofs.sockets.SocketDialerDialer.dial.Given as goal

abbrev pub invariant-loop : goal.invariant-loop
invariant-loop g l = l.self.faults ≡ l.fn.self.faults
