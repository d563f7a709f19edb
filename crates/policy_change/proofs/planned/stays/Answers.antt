use Rattle.std.proofs.Common.{true, is_some, ap, ◌∙◌}
use Rattle.pattern_index.proofs.Firsts.{is_some-position}
use Rattle.flowspace.specs.Places.{covers_match}
use Rattle.policy_change.proofs.planned.stays.Goals as goal

pub returns-in-Some : goal.returns-in-Some
returns-in-Some c =
    rw c.in-Some.is
    (c.is_some.ensures ∙ ap is_some c.first_cover.ensures ∙ is_some-position (λ rule. covers_match c.in-Some.slot true rule c.args.booked.now.pattern) c.args.new.now.rules)
