use Rattle.std.proofs.Common.{length}
use Rattle.switch_side.proofs.Gathering.{less_space}
use Rattle.switch_side.proofs.collecting.add.Goals as goal

pub returns-in-Aggregate-clause-room : goal.returns-in-Aggregate-clause-room
returns-in-Aggregate-clause-room c more room =
    c.sum.ensures.kept c.args.number more (less_space c.args.number (length c.args.entry.now) more c.args.collections.now room)
