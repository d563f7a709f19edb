use Rattle.std.proofs.Common.{sym, subst, ◌∙◌, ap, Some}
use Rattle.of10_model.specs.declared.pattern.Pattern.{Pattern}
use Rattle.of10_model.specs.Normal.{IsNormal, is_given}
use Rattle.port_turns.proofs.Matches.{normal_with}
use Rattle.port_turns.proofs.values.with_in_port.Goals as goal

pub of-requires : goal.of-requires
of-requires c =
    let same = c.pattern-pattern.ensures.value in
    normal_with c.pattern-pattern.result.now (Some c.args.port) (subst IsNormal (sym same) c.pattern-pattern.ensures.normal) c.ranges.port.fits
    (sym (ap (λ (m : Pattern). is_given m.in_port) same ∙ c.requires))
