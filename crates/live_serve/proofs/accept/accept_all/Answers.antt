use Rattle.std.proofs.Common.{refl, subst, ◌∙◌, arith, map, inl}
use Rattle.fv_base.specs.Told.{Rose}
use Rattle.live_serve.specs.Roles.{controller_of}
use Rattle.live_serve.specs.Running.{outside}
use Rattle.live_serve.proofs.Starting.{rose_later}
use Rattle.live_serve.proofs.Accepting.{opened_none, opened_more, begun_whole, begun_part, served, not_started, enough_more}
use Rattle.live_serve.proofs.accept.accept_all.Goals as goal

pub returns-in_default-clause-cause : goal.returns-in_default-clause-cause
returns-in_default-clause-cause g c =
    let addresses = map controller_of c.args.policy.now.slices in
    let a = outside (g.N.Wires.accepted c.args.wires.now) (g.P.Spawner.roles c.args.spawner.now) (g.N.Wires.faults c.args.wires.now (g.N.Wires.place c.args.wires.now)) (g.P.Spawner.faults c.args.spawner.now) in
    begun_whole addresses 0 0 a a a (opened_none addresses a) (omega arith) refl refl

pub loop-accepted-init : goal.loop-accepted-init
loop-accepted-init g c =
    let addresses = map controller_of c.args.policy.now.slices in
    let a = outside (g.N.Wires.accepted c.args.wires.now) (g.P.Spawner.roles c.args.spawner.now) (g.N.Wires.faults c.args.wires.now (g.N.Wires.place c.args.wires.now)) (g.P.Spawner.faults c.args.spawner.now) in
    record {
      listens = c.requires.listens;
      place = refl;
      can = c.requires.can;
      wire_faults = omega arith;
      start_faults = omega arith;
      few = omega arith;
      bound = omega arith;
      enough = inl (omega arith);
      opened = opened_none addresses a;
    }

pub returns-clause-cause : goal.returns-clause-cause
returns-clause-cause g c =
    let h = c.loop-accepted.invariant in
    let addresses = map controller_of c.args.policy.now.slices in
    let place = g.N.Wires.place c.args.wires.now in
    let a = outside (g.N.Wires.accepted c.args.wires.now) (g.P.Spawner.roles c.args.spawner.now) (g.N.Wires.faults c.args.wires.now place) (g.P.Spawner.faults c.args.spawner.now) in
    let b = outside (g.N.Wires.accepted c.loop-accepted.wires) (g.P.Spawner.roles c.loop-accepted.spawner) (g.N.Wires.faults c.loop-accepted.wires place) (g.P.Spawner.faults c.loop-accepted.spawner) in
    served addresses c.loop-accepted.accepted c.loop-accepted.begun c.args.count a b h.opened h.few h.bound (omega arith) h.enough

pub returns-in_default-accept-clause-cause : goal.returns-in_default-accept-clause-cause
returns-in_default-accept-clause-cause g c =
    let h = c.loop-accepted.invariant in
    let addresses = map controller_of c.args.policy.now.slices in
    let place = g.N.Wires.place c.args.wires.now in
    let a = outside (g.N.Wires.accepted c.args.wires.now) (g.P.Spawner.roles c.args.spawner.now) (g.N.Wires.faults c.args.wires.now place) (g.P.Spawner.faults c.args.spawner.now) in
    let b = outside (g.N.Wires.accepted c.loop-accepted.wires) (g.P.Spawner.roles c.loop-accepted.spawner) (g.N.Wires.faults c.loop-accepted.wires place) (g.P.Spawner.faults c.loop-accepted.spawner) in
    let d = outside (g.N.Wires.accepted c.accept.new.self) (g.P.Spawner.roles c.loop-accepted.spawner) (g.N.Wires.faults c.accept.new.self place) (g.P.Spawner.faults c.loop-accepted.spawner) in (
      begun_whole addresses c.loop-accepted.accepted c.loop-accepted.begun a b d h.opened h.few c.in_default-accept.ensures.refused refl,
      rose_later (g.N.Wires.faults c.args.wires.now place) (g.N.Wires.faults c.loop-accepted.wires place) (g.N.Wires.faults c.accept.new.self place) h.wire_faults (subst (λ p. Rose (g.N.Wires.faults c.loop-accepted.wires p) (g.N.Wires.faults c.accept.new.self p)) h.place c.in_default-accept.ensures.cause),
    )

pub returns-in-Err-clause-cause : goal.returns-in-Err-clause-cause
returns-in-Err-clause-cause g c =
    let h = c.loop-accepted.invariant in
    let addresses = map controller_of c.args.policy.now.slices in
    let place = g.N.Wires.place c.args.wires.now in
    let a = outside (g.N.Wires.accepted c.args.wires.now) (g.P.Spawner.roles c.args.spawner.now) (g.N.Wires.faults c.args.wires.now place) (g.P.Spawner.faults c.args.spawner.now) in
    let b = outside (g.N.Wires.accepted c.loop-accepted.wires) (g.P.Spawner.roles c.loop-accepted.spawner) (g.N.Wires.faults c.loop-accepted.wires place) (g.P.Spawner.faults c.loop-accepted.spawner) in
    let d = outside (g.N.Wires.accepted c.accept.new.self) (g.P.Spawner.roles c.open.new.spawner) (g.N.Wires.faults c.accept.new.self place) (g.P.Spawner.faults c.open.new.spawner) in
    not_started addresses c.args.count a d c.in-Err.fault c.run_end.result c.run_end.ensures
    (begun_part addresses c.loop-accepted.accepted c.loop-accepted.begun a b d h.opened h.few c.in-Ok-accept.ensures.given c.in-Err.ensures.part)
    (λ e. rose_later (g.P.Spawner.faults c.args.spawner.now) (g.P.Spawner.faults c.loop-accepted.spawner) (g.P.Spawner.faults c.open.new.spawner) h.start_faults (c.in-Err.ensures.cause e))

pub loop-accepted-preserved : goal.loop-accepted-preserved
loop-accepted-preserved g c =
    let h = c.loop-accepted.invariant in
    let addresses = map controller_of c.args.policy.now.slices in
    let place = g.N.Wires.place c.args.wires.now in
    let a = outside (g.N.Wires.accepted c.args.wires.now) (g.P.Spawner.roles c.args.spawner.now) (g.N.Wires.faults c.args.wires.now place) (g.P.Spawner.faults c.args.spawner.now) in
    let b = outside (g.N.Wires.accepted c.loop-accepted.wires) (g.P.Spawner.roles c.loop-accepted.spawner) (g.N.Wires.faults c.loop-accepted.wires place) (g.P.Spawner.faults c.loop-accepted.spawner) in
    let d = outside (g.N.Wires.accepted c.accept.new.self) (g.P.Spawner.roles c.open.new.spawner) (g.N.Wires.faults c.accept.new.self place) (g.P.Spawner.faults c.open.new.spawner) in
    record {
      listens = c.in-Ok-accept.ensures.listens;
      place = c.in-Ok-accept.ensures.there ∙ h.place;
      can = c.in_default-open.ensures.can;
      wire_faults = let x = h.wire_faults in let y = c.in-Ok-accept.ensures.count place in omega (arith, x, y);
      start_faults = let x = h.start_faults in let y = c.in_default-open.ensures.count in omega (arith, x, y);
      few = let x = h.few in omega (arith, x);
      bound = omega arith;
      enough = enough_more c.loop-accepted.accepted c.loop-accepted.begun h.enough;
      opened = opened_more addresses c.loop-accepted.accepted c.loop-accepted.begun a b d h.opened c.in-Ok-accept.ensures.given c.in_default-open.ensures.started;
    }
