use Rattle.std.proofs.Common.{take}
use Rattle.rule_index.specs.Indexes.{IsIndex}
use Rattle.rule_index.proofs.index.indexes_of.Given as goal

abbrev pub invariant-loop-place : goal.invariant-loop-place
invariant-loop-place l = IsIndex (take l.place l.rules) l.all l.written
