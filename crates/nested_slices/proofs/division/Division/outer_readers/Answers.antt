use Rattle.std.proofs.Common.{◌<◌, ◌^◌, sym, subst}
use Rattle.nested_slices.proofs.Bits.{without_below}
use Rattle.nested_slices.proofs.division.Division.outer_readers.Goals as goal

pub returns-clause-small : goal.returns-clause-small
returns-clause-small c =
    let d = c.args.self.now in
    subst (λ n. n < 2 ^ d.others) (sym c.without_holder.ensures) (without_below c.args.bits d.slot d.others c.requires.fits.is_slot c.requires.known)
