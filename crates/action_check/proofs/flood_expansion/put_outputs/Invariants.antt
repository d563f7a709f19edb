use Rattle.std.proofs.Common.{◌≡◌, ◌++◌, take}
use Rattle.action_check.specs.Permitted.{outputs}
use Rattle.action_check.proofs.flood_expansion.put_outputs.Given as goal

abbrev pub invariant-loop-port : goal.invariant-loop-port
invariant-loop-port l = l.out.items ≡ l.fn.out.items ++ outputs l.max_len (take l.port-index l.ports)
