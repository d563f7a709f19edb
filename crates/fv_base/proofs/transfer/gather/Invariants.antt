use Rattle.std.proofs.Common.{◌≡◌, ◌≤◌, ◌-◌, ℕ, List, IfSome, vec_len}
use Rattle.fv_base.specs.Told.{IsBeginning}
use Rattle.fv_base.proofs.transfer.gather.Given as goal

abbrev pub invariant-loop-count : goal.invariant-loop-count
invariant-loop-count g l = record {
  within : vec_len l.file ≤ l.limit;
  begun : IfSome (g.F.Files.contents l.files l.path) (λ bytes. IsBeginning l.file.items bytes);
  same : (at : List ℕ) → g.F.Files.contents l.files at ≡ g.F.Files.contents l.fn.files at;
  calm : (at : List ℕ) → g.F.Files.faults l.files at ≡ g.F.Files.faults l.fn.files at;
}

abbrev pub decreases-loop-count : goal.decreases-loop-count
decreases-loop-count g l = l.limit - vec_len l.file
