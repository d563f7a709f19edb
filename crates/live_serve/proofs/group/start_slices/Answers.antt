use Rattle.std.proofs.Common.{◌++◌, [], ◌+◌, refl, sym, ap, ◌∙◌, append_assoc, arith, drop, map}
use Rattle.fv_base.proofs.Appending.{on_err}
use Rattle.live_serve.specs.Roles.{controller_of, pair, slice_roles}
use Rattle.live_serve.proofs.Starting.{started_none, partly_more, started_more, next_roles}
use Rattle.live_serve.proofs.group.start_slices.Goals as goal

pub loop-i-init : goal.loop-i-init
loop-i-init g c = record {
  can = c.requires.can;
  desk = refl;
  count = omega arith;
  begun = ([], started_none (g.P.Spawner.roles c.args.spawner.now), refl);
}

pub returns-in_err-start_pair-clause-part : goal.returns-in_err-start_pair-clause-part
returns-in_err-start_pair-clause-part g c =
    let h = c.loop-i.invariant.begun in
    let i = c.loop-i.i in
    let addresses = c.args.slices.now in
    let next = next_roles controller_of addresses i c.index-slices-i.result c.as_str.result.now (omega arith) c.index-slices-i.is c.as_str.ensures in
    on_err c.from_residual.result (partly_more (g.P.Spawner.roles c.args.spawner.now) (g.P.Spawner.roles c.loop-i.spawner) (g.P.Spawner.roles c.start_pair.new.spawner) h.0 (pair i c.as_str.result.now) (slice_roles (i + 1) (map controller_of (drop (i + 1) addresses))) (slice_roles 0 (map controller_of addresses)) h.1 (ap (λ l. h.0 ++ l) (sym next) ∙ h.2) c.in_err-start_pair.ensures.part)

pub loop-i-preserved : goal.loop-i-preserved
loop-i-preserved g c =
    let h = c.loop-i.invariant.begun in
    let i = c.loop-i.i in
    let addresses = c.args.slices.now in
    let next = next_roles controller_of addresses i c.index-slices-i.result c.as_str.result.now (omega arith) c.index-slices-i.is c.as_str.ensures in
    record {
      can = c.in_ok-start_pair.ensures.can;
      desk = c.in_ok-start_pair.ensures.desk ∙ c.loop-i.invariant.desk;
      count = let a = c.loop-i.invariant.count in let b = c.in_ok-start_pair.ensures.count in omega (arith, a, b);
      begun = (h.0 ++ pair i c.as_str.result.now, started_more (g.P.Spawner.roles c.args.spawner.now) (g.P.Spawner.roles c.loop-i.spawner) (g.P.Spawner.roles c.start_pair.new.spawner) h.0 (pair i c.as_str.result.now) h.1 c.in_ok-start_pair.ensures.started, append_assoc h.0 (pair i c.as_str.result.now) (slice_roles (i + 1) (map controller_of (drop (i + 1) addresses))) ∙ (ap (λ l. h.0 ++ l) (sym next) ∙ h.2));
    }
