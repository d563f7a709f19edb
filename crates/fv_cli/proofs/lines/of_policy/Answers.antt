use Rattle.std.proofs.Common.{rules, ◌++◌, ap, codes}
use Rattle.fv_cli.proofs.Pieces.{five-whole}
use Rattle.fv_cli.proofs.lines.of_policy.Goals as goal

pub returns : goal.returns
returns c = ap (λ text. codes "policy: " ++ text) (five-whole c.args.pieces _ (codes "\n") (search rules))
