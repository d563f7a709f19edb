use Rattle.std.proofs.lemmas.Bool.{le-leb}
use Rattle.flowspace.proofs.Bits.{all_below, none_left}
use Rattle.flowspace.proofs.loading.are_slots.Goals as goal

pub returns-then-slots-ge32 : goal.returns-then-slots-ge32
returns-then-slots-ge32 c = rw (le-leb 32 c.args.slots c.if-slots-ge32.true, all_below c.args.bits c.args.slots c.ranges.bits.fits c.if-slots-ge32.true)

pub returns-else-slots-ge32 : goal.returns-else-slots-ge32
returns-else-slots-ge32 c = none_left c.args.bits c.args.slots
