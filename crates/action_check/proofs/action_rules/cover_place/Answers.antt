use Rattle.std.proofs.Common.{ap, is_some, ◌∙◌}
use Rattle.pattern_index.proofs.Firsts.{is_some-position}
use Rattle.flowspace.specs.Places.{covers_match}
use Rattle.action_check.proofs.action_rules.cover_place.Goals as goal

pub returns : goal.returns
returns c =
    rw c.sees_in_port.ensures at
    (ap is_some c.first_cover.ensures ∙ is_some-position (λ rule. covers_match c.args.slot c.sees_in_port.result rule c.args.cover.now) c.args.policy.now.rules)
