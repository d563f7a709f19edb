use Rattle.std.proofs.Common.{◌≡◌, Some}
use Rattle.action_check.proofs.Aside.{has-aside}
use Rattle.action_check.proofs.action_rules.has_aside.Goals as goal

pub returns-in-Some : goal.returns-in-Some
returns-in-Some c =
    let named : c.args.m.now.in_port ≡ Some c.in-Some.in_port = cc in
    rw (c.matches-in-Some.ensures.value, c.with_in_port.ensures) (has-aside c.args.m.now c.args.header.now c.in-Some.in_port named)
