use Rattle.std.proofs.Common.{sym, ap, ◌∙◌}
use Rattle.pattern_index.specs.Places.{least_place}
use Rattle.flowspace.proofs.Covering.{asked, no_cover}
use Rattle.flowspace.proofs.switch.SwitchPolicy.first_cover.Goals as goal

pub returns-in-Some : goal.returns-in-Some
returns-in-Some c =
    let found = (asked c.args.by_port c.args.self.now.rules c.args.slot c.in-Some.own.now c.index.result.now c.index.ensures c.in-Some.ensures.some).of_matches in
    c.least.ensures found.kept found.stands ∙ ap (least_place found.kept) c.pattern.ensures.value ∙ found.firsts c.args.m.now

pub returns-in-None : goal.returns-in-None
returns-in-None c = sym (no_cover c.args.by_port c.args.self.now.rules c.args.slot c.args.m.now c.in-None.ensures.none)
