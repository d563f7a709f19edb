use Rattle.std.proofs.Common.{refl, arith, map}
use Rattle.live_serve.specs.Roles.{controller_of}
use Rattle.live_serve.specs.Running.{outside}
use Rattle.live_serve.proofs.Accepting.{opened_none, begun_whole}
use Rattle.live_serve.proofs.program.run.Goals as goal

pub returns-in_default-clause-cause : goal.returns-in_default-clause-cause
returns-in_default-clause-cause g c =
    let addresses = map controller_of c.args.policy.now.slices in
    let at = c.args.listen.now in
    let roles = g.P.Spawner.roles c.args.spawner.now in
    let start_faults = g.P.Spawner.faults c.args.spawner.now in
    let a = outside (g.N.Wires.accepted c.args.wires.now) roles (g.N.Wires.faults c.args.wires.now at) start_faults in
    let b = outside (g.N.Wires.accepted c.listen.new.self) roles (g.N.Wires.faults c.listen.new.self at) start_faults in
    (begun_whole addresses 0 0 a a b (opened_none addresses a) (omega arith) c.in_default.ensures.same refl, c.in_default.ensures.cause)
