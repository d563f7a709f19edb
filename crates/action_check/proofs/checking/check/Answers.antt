use Rattle.action_check.proofs.Sizes.{IsAction-expanded, HasAddress-expanded}
use Rattle.action_check.proofs.checking.check.Goals as goal

pub from_vec-requires : goal.from_vec-requires
from_vec-requires c =
    rw c.in-Ok.ensures (HasAddress-expanded c.args.policy.now.rules c.args.slot c.args.flood.now c.args.all.now c.requires.flood c.requires.all c.args.actions.now c.requires.addresses)

pub returns-in-Ok-clause-range : goal.returns-in-Ok-clause-range
returns-in-Ok-clause-range c =
    λ each. rw (c.from_vec.ensures, c.in-Ok.ensures) (IsAction-expanded c.args.policy.now.rules c.args.slot c.args.flood.now c.args.all.now c.requires.flood c.requires.all c.args.actions.now each)
