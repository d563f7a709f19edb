use Rattle.std.proofs.Common.{take}
use Rattle.switch_side.specs.Sharing.{HaveNoted}
use Rattle.switch_side.proofs.ports.note_all.Given as goal

abbrev pub invariant-loop-rule : goal.invariant-loop-rule
invariant-loop-rule l = HaveNoted (take l.rule-index l.rules) l.port l.fn.slots l.slots
