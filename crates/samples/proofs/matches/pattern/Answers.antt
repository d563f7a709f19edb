use Rattle.std.proofs.Common.{rules}
use Rattle.samples.proofs.Patterns.{pattern_is_normal}
use Rattle.samples.proofs.matches.pattern.Goals as goal

pub of-requires : goal.of-requires
of-requires c = rw c.kind.ensures (rw c.protocol.ensures (pattern_is_normal c.args.in_port c.args.net c.args.tcp (search rules) c.requires (search rules)))
