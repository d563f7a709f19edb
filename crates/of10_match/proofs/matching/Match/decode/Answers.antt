use Rattle.std.proofs.Common.{arith}
use Rattle.of10_model.proofs.Applied.{IsNormal-Norm}
use Rattle.of10_match.proofs.matching.Match.decode.Goals as goal

pub invariant_of-result : goal.invariant_of-result
invariant_of-result c =
    rw (c.normal.ensures, c.read.ensures) (IsNormal-Norm c.args.bytes.now (λ i. omega (arith, c.fits-bytes i)))
