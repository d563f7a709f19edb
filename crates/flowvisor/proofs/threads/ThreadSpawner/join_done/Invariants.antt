use Rattle.std.proofs.Common.{◌≡◌, ◌-◌, vec_len}
use Rattle.flowvisor.proofs.threads.ThreadSpawner.join_done.Given as goal

abbrev pub invariant-loop-at : goal.invariant-loop-at
invariant-loop-at g l = record {
  closure : l.self.by ≡ l.fn.self.by;
  faults : l.self.faults ≡ l.fn.self.faults;
}

abbrev pub decreases-loop-at : goal.decreases-loop-at
decreases-loop-at g l = vec_len l.self.threads - l.at
