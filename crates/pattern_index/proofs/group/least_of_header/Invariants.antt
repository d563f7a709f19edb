use Rattle.std.proofs.Common.{◌≡◌, take}
use Rattle.of10_model.specs.Exact.{exact_of}
use Rattle.pattern_index.specs.Groups.{least_of}
use Rattle.pattern_index.proofs.group.least_of_header.Given as goal

abbrev pub invariant-loop-group : goal.invariant-loop-group
invariant-loop-group l = l.least ≡ least_of (take l.group-index l.groups) (exact_of l.h)
