use Rattle.std.proofs.Common.{◌≡◌, vec_len}
use Rattle.flowvisor.proofs.threads.ThreadSpawnerSpawner.finish.Given as goal

abbrev pub invariant-loop-thread : goal.invariant-loop-thread
invariant-loop-thread g l = record {
  closure : l.self.by ≡ l.fn.self.by;
  faults : l.self.faults ≡ l.fn.self.faults;
}

abbrev pub decreases-loop-thread : goal.decreases-loop-thread
decreases-loop-thread g l = vec_len l.self.threads
