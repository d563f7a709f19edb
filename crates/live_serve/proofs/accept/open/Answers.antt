use Rattle.std.proofs.Common.{refl, map}
use Rattle.live_serve.specs.Roles.{controller_of, group}
use Rattle.live_serve.proofs.Starting.{partly_none}
use Rattle.live_serve.proofs.accept.open.Goals as goal

pub returns-in_default-clause-part : goal.returns-in_default-clause-part
returns-in_default-clause-part g c = partly_none (g.P.Spawner.roles c.args.spawner.now) (g.P.Spawner.roles c.args.spawner.now) (group (map controller_of c.args.policy.now.slices)) refl

pub returns-in_default-new-clause-part : goal.returns-in_default-new-clause-part
returns-in_default-new-clause-part g c = partly_none (g.P.Spawner.roles c.args.spawner.now) (g.P.Spawner.roles c.args.spawner.now) (group (map controller_of c.args.policy.now.slices)) refl
