use Rattle.std.proofs.Common.{◌≡◌, ◌≤◌, List, ◌++◌, drop, map}
use Rattle.fv_live.specs.Roles.{Role, started}
use Rattle.live_serve.specs.Roles.{controller_of, slice_roles}
use Rattle.live_serve.proofs.group.start_slices.Given as goal

abbrev pub invariant-loop-i : goal.invariant-loop-i
invariant-loop-i g l = record {
  can : g.P.Spawner.can_start l.spawner;
  desk : l.seat.seat.table_id ≡ l.fn.seat.seat.table_id;
  count : g.P.Spawner.faults l.fn.spawner ≤ g.P.Spawner.faults l.spawner;
  begun : (begun : List Role) × (g.P.Spawner.roles l.spawner ≡ started (g.P.Spawner.roles l.fn.spawner) begun) × (begun ++ slice_roles l.i (map controller_of (drop l.i l.slices)) ≡ slice_roles 0 (map controller_of l.slices));
}
