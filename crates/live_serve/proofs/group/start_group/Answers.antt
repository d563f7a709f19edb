use Rattle.std.proofs.Common.{◌++◌, [], refl, ap, map, append-nil}
use Rattle.std.proofs.lemmas.Result.{on_err_weaker}
use Rattle.fv_base.proofs.Appending.{on_err}
use Rattle.live_serve.specs.Roles.{controller_of, switch_pair, slice_roles}
use Rattle.live_serve.proofs.Starting.{started_none, partly_more}
use Rattle.live_serve.proofs.group.start_group.Goals as goal

pub returns-in_err-start_switch-clause-part : goal.returns-in_err-start_switch-clause-part
returns-in_err-start_switch-clause-part g c =
    let told = g.P.Spawner.roles c.args.spawner.now in
    let slices = slice_roles 0 (map controller_of c.args.slices.now) in
    on_err c.from_residual.result (partly_more told told (g.P.Spawner.roles c.start_switch.new.spawner) [] switch_pair slices (switch_pair ++ slices) (started_none told) refl c.in_err-start_switch.ensures.part)

pub returns-clause-part : goal.returns-clause-part
returns-clause-part g c =
    let told = g.P.Spawner.roles c.args.spawner.now in
    let slices = slice_roles 0 (map controller_of c.args.slices.now) in
    on_err_weaker c.start_slices.result (partly_more told (g.P.Spawner.roles c.start_switch.new.spawner) (g.P.Spawner.roles c.start_slices.new.spawner) switch_pair slices [] (switch_pair ++ slices) c.in_ok-start_switch.ensures.started (ap (λ l. switch_pair ++ l) (append-nil slices))) c.start_slices.ensures.part
