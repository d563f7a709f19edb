use Rattle.std.proofs.Common.{◌<◌, ◌≤◌, length, subst, arith}
use Rattle.std.proofs.lemmas.List.{take_all}
use Rattle.std.proofs.lemmas.List.Elements.{All-more}
use Rattle.of10_model.specs.Normal.{IsNormal}
use Rattle.flowspace.specs.Policies.{AreNormal}
use Rattle.nested_slices.proofs.normal.see_all_normal.Goals as goal

pub loop-rule-preserved : goal.loop-rule-preserved
loop-rule-preserved c =
    let rule = c.rule-item.result in
    let lt : c.loop-rule.rule-index < length c.args.rules.now = omega arith in
    All-more (λ r. IsNormal r.pattern) c.args.rules.now c.loop-rule.rule-index rule lt c.loop-rule.invariant (subst (λ r. IsNormal r.pattern) c.rule-item.is c.see_normal.ensures)

pub returns : goal.returns
returns c =
    let all : length c.args.rules.now ≤ c.loop-rule.rule-index = omega arith in
    subst AreNormal (take_all c.loop-rule.rule-index c.args.rules.now all) c.loop-rule.invariant
