use Rattle.of10_model.proofs.Exact.{IsNormal-exact, has_exact_iff}
use Rattle.of10_match.proofs.matching.Match.exact.Goals as goal

pub invariant_of-result : goal.invariant_of-result
invariant_of-result c = rw c.exact_pattern.ensures.value (IsNormal-exact c.args.h.now c.exact_pattern.ensures.range c.requires)

pub returns-clause-alone : goal.returns-clause-alone
returns-clause-alone c = rw c.exact_pattern.ensures.value (has_exact_iff c.args.h.now)
