use Rattle.std.proofs.Common.{◌≡◌, drop}
use Rattle.fv_base.specs.Memory.{file_at}
use Rattle.fv_base.proofs.memory.bytes_at.Given as goal

abbrev pub invariant-loop-file : goal.invariant-loop-file
invariant-loop-file l = file_at (drop l.file-index l.files) l.path ≡ file_at l.files l.path
