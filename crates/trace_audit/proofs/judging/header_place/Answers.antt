use Rattle.std.proofs.Common.{true, ap, is_some, ◌∙◌}
use Rattle.pattern_index.proofs.Firsts.{is_some-position}
use Rattle.flowspace.specs.Places.{covers_header}
use Rattle.trace_audit.proofs.judging.header_place.Goals as goal

pub returns : goal.returns
returns c = ap is_some c.first_written.ensures ∙ is_some-position (λ rule. covers_header c.args.slot true rule c.args.header.now) c.args.policy.now.rules
