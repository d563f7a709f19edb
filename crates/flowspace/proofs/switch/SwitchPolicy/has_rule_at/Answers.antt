use Rattle.std.proofs.Common.{sym}
use Rattle.flowspace.proofs.Placing.{no_ports}
use Rattle.flowspace.proofs.switch.SwitchPolicy.has_rule_at.Goals as goal

pub returns-in-None : goal.returns-in-None
returns-in-None c = sym (no_ports c.args.self.now.rules c.args.slot c.args.port c.in-None.ensures.none)
