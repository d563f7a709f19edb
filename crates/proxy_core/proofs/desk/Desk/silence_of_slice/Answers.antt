use Rattle.proxy_core.proofs.Taking.{silence_known, silence_early}
use Rattle.proxy_core.proofs.desk.Desk.silence_of_slice.Goals as goal

pub returns-in-Some-clause-value : goal.returns-in-Some-clause-value
returns-in-Some-clause-value c = silence_known c.args.self.now c.in-Some.session c.args.slot c.silence.result c.in-Some.is c.in-Fresh.is c.silence.ensures.value

pub returns-in-None-clause-value : goal.returns-in-None-clause-value
returns-in-None-clause-value c = silence_early c.args.self.now c.args.slot c.silence_before.result c.in-None.is c.in-Fresh.is c.silence_before.ensures.value
