use Rattle.std.proofs.Common.{◌≡◌, vec_len}
use Rattle.fv_live.proofs.spawner.MemorySpawnerSpawner.finish.Given as goal

abbrev pub invariant-loop-thread : goal.invariant-loop-thread
invariant-loop-thread g l = record {
  closure : l.self.by ≡ l.fn.self.by;
  started : l.self.started ≡ l.fn.self.started;
  faults : l.self.faults ≡ l.fn.self.faults;
  failing : l.self.failing ≡ l.fn.self.failing;
}

abbrev pub decreases-loop-thread : goal.decreases-loop-thread
decreases-loop-thread g l = vec_len l.self.threads
