use Rattle.std.proofs.Common.{length, refl, arith}
use Rattle.std.proofs.lemmas.Bool.{ne_eqb}
use Rattle.of10_flow.specs.FlowRemoveds.{read_flow_removed}
use Rattle.of10_flow.proofs.Removed.{IsFlowRemoved-removal_in}
use Rattle.of10_flow.proofs.flow_removed.read.Goals as goal

pub returns-in-Ok-clause-range : goal.returns-in-Ok-clause-range
returns-in-Ok-clause-range c =
    rw c.in-Ok.ensures.1.same (IsFlowRemoved-removal_in c.args.bytes.now (λ k. omega (arith, c.type_inv.bytes k)))

pub returns-in-Err-clause-exact : goal.returns-in-Err-clause-exact
unfolding read_flow_removed
returns-in-Err-clause-exact c = rw (ne_eqb (length c.args.bytes.now) 88 c.in-Err.ensures.1) refl
