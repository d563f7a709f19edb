use Rattle.std.proofs.Common.{◌≡◌, take}
use Rattle.pattern_index.specs.Groups.{least_of}
use Rattle.pattern_index.proofs.group.least_of.Given as goal

abbrev pub invariant-loop-group : goal.invariant-loop-group
invariant-loop-group l = l.least ≡ least_of (take l.group-index l.groups) l.m
