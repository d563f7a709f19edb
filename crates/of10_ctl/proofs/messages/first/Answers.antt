use Rattle.std.proofs.Common.{sym, arith}
use Rattle.std.proofs.lemmas.List.{take_all}
use Rattle.of10_ctl.proofs.messages.first.Goals as goal

pub returns-then-cause-lt-CAUSE-clause-value : goal.returns-then-cause-lt-CAUSE-clause-value
returns-then-cause-lt-CAUSE-clause-value c = let few = c.if-cause-lt-CAUSE.true in sym (take_all 64 c.args.cause.now (omega arith))
