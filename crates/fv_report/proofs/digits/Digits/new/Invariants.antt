use Rattle.std.proofs.Common.{◌≡◌, length}
use Rattle.fv_report.specs.Digits.{ArePairs}
use Rattle.fv_report.proofs.digits.Digits.new.Given as goal

abbrev pub invariant-loop-byte : goal.invariant-loop-byte
invariant-loop-byte l = (length l.pairs ≡ 256) × ArePairs l.byte l.pairs
