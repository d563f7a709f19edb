use Rattle.std.proofs.Common.{subst}
use Rattle.flowspace.specs.Loading.{GivesPolicy}
use Rattle.flowspace.proofs.Swapping.{without_swaps}
use Rattle.flowspace.proofs.policy.Policy.load.Goals as goal

pub returns-clause-answer : goal.returns-clause-answer
returns-clause-answer c = subst (GivesPolicy c.load_ports.result) (without_swaps c.args.slices.items c.args.rules.items) (rw c.new.ensures.items at c.load_ports.ensures.answer)
