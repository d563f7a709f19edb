use Rattle.std.proofs.Common.{length}
use Rattle.test_messages.proofs.readings.feed.Given as goal

abbrev pub decreases-loop-frame : goal.decreases-loop-frame
decreases-loop-frame l = length l.framer.left
