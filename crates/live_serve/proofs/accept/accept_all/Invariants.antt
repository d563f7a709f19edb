use Rattle.std.proofs.Common.{◌≡◌, ◌≤◌, ◌-◌, ◌⊎◌, map, true}
use Rattle.live_serve.specs.Roles.{controller_of}
use Rattle.live_serve.specs.Running.{outside, Opened}
use Rattle.live_serve.proofs.accept.accept_all.Given as goal

abbrev pub invariant-loop-accepted : goal.invariant-loop-accepted
invariant-loop-accepted g l = record {
  listens : g.N.Wires.listens l.wires ≡ true;
  place : g.N.Wires.place l.wires ≡ g.N.Wires.place l.fn.wires;
  can : g.P.Spawner.can_start l.spawner;
  wire_faults : g.N.Wires.faults l.fn.wires (g.N.Wires.place l.fn.wires) ≤ g.N.Wires.faults l.wires (g.N.Wires.place l.fn.wires);
  start_faults : g.P.Spawner.faults l.fn.spawner ≤ g.P.Spawner.faults l.spawner;
  few : l.begun ≤ l.accepted;
  bound : l.accepted ≤ l.count;
  enough : (l.accepted ≤ l.begun) ⊎ (16 ≤ l.begun);
  opened : Opened (map controller_of l.policy.slices) l.accepted l.begun (outside (g.N.Wires.accepted l.fn.wires) (g.P.Spawner.roles l.fn.spawner) (g.N.Wires.faults l.fn.wires (g.N.Wires.place l.fn.wires)) (g.P.Spawner.faults l.fn.spawner)) (outside (g.N.Wires.accepted l.wires) (g.P.Spawner.roles l.spawner) (g.N.Wires.faults l.wires (g.N.Wires.place l.fn.wires)) (g.P.Spawner.faults l.spawner));
}

abbrev pub decreases-loop-accepted : goal.decreases-loop-accepted
decreases-loop-accepted g l = l.count - l.accepted
