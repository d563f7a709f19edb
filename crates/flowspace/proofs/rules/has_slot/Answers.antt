use Rattle.std.proofs.lemmas.Bool.{le-ltb}
use Rattle.flowspace.proofs.Bits.{no_bit}
use Rattle.flowspace.proofs.rules.has_slot.Goals as goal

pub returns-else-slot-lt32 : goal.returns-else-slot-lt32
returns-else-slot-lt32 c = rw (le-ltb c.args.slot 32 c.if-slot-lt32.false, no_bit c.args.slots c.args.slot c.ranges.slots.fits c.if-slot-lt32.false)
