use Rattle.std.proofs.Common.{sym, ◌∙◌}
use Rattle.flowspace.proofs.Covering.{asked, no_written}
use Rattle.flowspace.proofs.switch.SwitchPolicy.first_written.Goals as goal

pub returns-in-Some : goal.returns-in-Some
returns-in-Some c =
    let found = (asked c.args.by_port c.args.self.now.rules c.args.slot c.in-Some.own.now c.index.result.now c.index.ensures c.in-Some.ensures.some).of_headers in
    c.least_of_header.ensures found.kept found.stands ∙ found.firsts c.args.h.now

pub returns-in-None : goal.returns-in-None
returns-in-None c = sym (no_written c.args.by_port c.args.self.now.rules c.args.slot c.args.h.now c.in-None.ensures.none)
