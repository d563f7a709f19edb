use Rattle.std.proofs.Common.{None, refl}
use Rattle.trace_audit.proofs.Taking.{fresh}
use Rattle.trace_audit.proofs.switch.Switch.new.Goals as goal

pub returns : goal.returns
returns c = fresh (record { session = c.new.result; rules = None }) c.new.ensures refl
