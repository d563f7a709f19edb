use Rattle.std.specs.Prelude.{is_err}
use Rattle.fv_cli.specs.declared.ending.Ending.TheVariants.{NoMemory}
use Rattle.flowvisor.proofs.Endings.{memory_suits, after_run}
use Rattle.flowvisor.proofs.run.run.Goals as goal

pub returns-in_default : goal.returns-in_default
returns-in_default g c = record { ending = NoMemory; suits = memory_suits _; answer = c.end.ensures.status; line = c.end.ensures.line }

pub returns : goal.returns
returns g c =
    let flush = c.after_flush.ensures in
    after_run _ _ (is_err c.finish.result) _ _ _ _ _ _ c.offline-status.result _ c.offline-status.ensures.ended flush.status flush.line flush.quiet
