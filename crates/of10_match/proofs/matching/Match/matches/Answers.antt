use Rattle.std.proofs.Common.{◌≡◌}
use Rattle.of10_model.specs.Pattern.{has}
use Rattle.of10_model.proofs.Membership.{has_iff_Has}
use Rattle.of10_match.proofs.matching.Match.matches.Goals as goal

pub returns-clause-membership : goal.returns-clause-membership
returns-clause-membership c =
    let value : c.holds.result ≡ has c.args.self.now c.args.h.now = cc in
    rw value (has_iff_Has c.args.self.now c.args.h.now)
