use Rattle.std.proofs.Common.{sym, ap}
use Rattle.std.specs.Prelude.{is_ok}
use Rattle.of10_flow.proofs.Viewed.{flow_mod_begins}
use Rattle.of10_flow.proofs.flow_mod.FlowMod.decode.Goals as goal

pub returns-in_err-copied-in-Ok-clause-memory : goal.returns-in_err-copied-in-Ok-clause-memory
returns-in_err-copied-in-Ok-clause-memory c = λ _.
    flow_mod_begins c.args.frame.now c.in-Ok.view (sym c.in-Ok.ensures.exact) (c.copied.ensures.memory (ap is_ok c.in_err-copied-in-Ok.was))
