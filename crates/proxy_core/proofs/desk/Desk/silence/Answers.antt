use Rattle.std.proofs.Common.{sym, subst}
use Rattle.proxy_core.specs.Desks.{IsSilence}
use Rattle.proxy_core.proofs.desk.Desk.silence.Goals as goal

pub returns-in-Switch-clause-value : goal.returns-in-Switch-clause-value
returns-in-Switch-clause-value c = subst (λ dest. IsSilence c.args.self.now dest c.silence_of_lane.result) (sym c.in-Switch.is) c.silence_of_lane.ensures.value

pub returns-in-Slice-clause-value : goal.returns-in-Slice-clause-value
returns-in-Slice-clause-value c = subst (λ dest. IsSilence c.args.self.now dest c.silence_of_slice.result) (sym c.in-Slice.is) c.silence_of_slice.ensures.value
