use Rattle.std.proofs.Common.{length, refl, ap, arith}
use Rattle.std.proofs.lemmas.Option.{slice_get_read}
use Rattle.proxy_core.proofs.Rooms.{fresh_first, fresh_more, one_longer}
use Rattle.proxy_core.proofs.session_start.fresh_states.Goals as goal

pub loop-place-init : goal.loop-place-init
loop-place-init c = record { count = ap length c.in_ok-states.ensures.items; each = fresh_first c.args.slices.now c.in_ok-states.states.items c.in_ok-states.ensures.items }

pub loop-place-preserved : goal.loop-place-preserved
loop-place-preserved c =
    let at = c.loop-place in
    record {
      count = one_longer at.states.items c.push.new.self.items c.in_ok-new.field-0 at.place c.in_ok-push.ensures.items at.invariant.count;
      each = fresh_more c.args.slices.now at.states.items c.push.new.self.items at.place c.index-slices-place.result c.in_ok-new.field-0 at.invariant.count
          (slice_get_read c.args.slices.now (length c.args.slices.now) at.place c.index-slices-place.result refl c.loop-place-test.true c.index-slices-place.is) c.in_ok-new.ensures c.in_ok-push.ensures.items at.invariant.each;
    }

pub returns : goal.returns
returns c =
    let at = c.loop-place in
    let out = c.loop-place-test.false in
    let within = at.auto.place-end in
    let count = at.invariant.count in
    record { count = omega arith; each = at.invariant.each }
