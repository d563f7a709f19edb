use Rattle.std.proofs.Common.{refl, inl, inr}
use Rattle.fv_cli.specs.declared.ending.Ending.TheVariants.{Done, WriteFault}
use Rattle.flowvisor.proofs.Endings.{nothing_put}
use Rattle.flowvisor.proofs.run.show.Goals as goal

pub returns-in-Ok-clause-ended : goal.returns-in-Ok-clause-ended
returns-in-Ok-clause-ended g c = record { ending = Done; suits = inl refl; answer = c.status.ensures; line = nothing_put _ _ }

pub returns-in-Err-clause-ended : goal.returns-in-Err-clause-ended
returns-in-Err-clause-ended g c = record { ending = WriteFault; suits = inr refl; answer = c.end.ensures.status; line = c.end.ensures.line }
