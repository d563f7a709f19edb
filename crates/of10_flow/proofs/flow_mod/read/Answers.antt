use Rattle.std.proofs.Common.{sym, arith}
use Rattle.of10_action.proofs.Lengths.{spelled_length}
use Rattle.of10_flow.proofs.Viewed.{IsFlowMod-with}
use Rattle.of10_flow.proofs.flow_mod.read.Goals as goal

pub returns-clause-range : goal.returns-clause-range
returns-clause-range c =
    let actions = c.in_ok-actions.actions in
    let long = spelled_length c.behind.result.now actions (sym c.in_ok-actions.ensures.exact) in
    IsFlowMod-with actions c.args.bytes.now (λ k. omega (arith, c.type_inv.bytes k)) c.in_ok-actions.ensures.range (omega (arith, long, c.behind.ensures.size, c.requires))
