use Rattle.std.proofs.Common.{length}
use Rattle.flowvisor_bench.proofs.messages.complete.Given as goal

abbrev pub decreases-loop-frame : goal.decreases-loop-frame
decreases-loop-frame l = length l.framer.left
