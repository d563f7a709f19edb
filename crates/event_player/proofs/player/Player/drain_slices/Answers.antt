use Rattle.std.proofs.Common.{◌≡◌, ℕ, List, [], length, refl, ap, subst, Some, slice_get, arith, ◌∙◌}
use Rattle.std.proofs.lemmas.Option.{slice_get_read}
use Rattle.flowspace.specs.declared.slices.Slice.{Slice}
use Rattle.flowspace.specs.Policies.{PolicyView}
use Rattle.desk_words.specs.Reports.{lines_by_slot}
use Rattle.event_player.specs.Telling.{says}
use Rattle.event_player.specs.Holding.{Holds}
use Rattle.event_player.proofs.Holding.{holds_next, holds_none, holds_same}
use Rattle.event_player.proofs.Players.{told_nothing}
use Rattle.event_player.proofs.Slices.{from_first, from_slot, slot_more, slot_part, slots_done}
use Rattle.event_player.proofs.player.Player.drain_slices.Goals as goal

pub loop-slot-init : goal.loop-slot-init
loop-slot-init g c = record {
  drained = λ scene h slices lane is holds. ([], told_nothing (says g.T.Teller.Tells) scene tt c.args.self.now is tt, refl, holds_same scene.policy h slices (from_slot 0 slices) lane c.args.desk.now (from_first slices) holds);
}

pub returns-in_err-drain_slice : goal.returns-in_err-drain_slice
returns-in_err-drain_slice g c = λ scene h slices lane is holds.
    let at = c.loop-slot.slot in
    let all = scene.policy.slices in
    let d = c.loop-slot.invariant.drained scene h slices lane is holds in
    let same = c.slices-slice-items.ensures.value ∙ ap (λ (p : PolicyView). p.slices) is.policy in
    slot_part (says g.T.Teller.Tells) scene slices all at c.slice-item.result c.as_str.result.now d.0 (lines_by_slot scene.place slices 0 all) c.args.self.now c.loop-slot.self c.drain_slice.new.self _ c.from_residual.result
    (subst (λ (xs : List Slice). slice_get xs at ≡ Some c.slice-item.result) same (slice_get_read c.slices-slice-items.result.now (length c.slices-slice-items.result.now) at c.slice-item.result refl c.loop-slot-test.true c.slice-item.is)) c.as_str.ensures d.1 d.2 c.from_residual.ensures.1
    (c.in_err-drain_slice.ensures scene h (from_slot at slices) lane d.1.at d.3)

pub loop-slot-preserved : goal.loop-slot-preserved
loop-slot-preserved g c = record {
  drained = λ scene h slices lane is holds.
      let at = c.loop-slot.slot in
      let all = scene.policy.slices in
      let d = c.loop-slot.invariant.drained scene h slices lane is holds in
      let same = c.slices-slice-items.ensures.value ∙ ap (λ (p : PolicyView). p.slices) is.policy in
      let told = c.in_ok-drain_slice.ensures scene h (from_slot at slices) lane d.1.at d.3 in
      let more = slot_more (says g.T.Teller.Tells) scene slices all at c.slice-item.result c.as_str.result.now d.0 (lines_by_slot scene.place slices 0 all) c.args.self.now c.loop-slot.self c.drain_slice.new.self tt
      (subst (λ (xs : List Slice). slice_get xs at ≡ Some c.slice-item.result) same (slice_get_read c.slices-slice-items.result.now (length c.slices-slice-items.result.now) at c.slice-item.result refl c.loop-slot-test.true c.slice-item.is)) c.as_str.ensures d.1 d.2 told in
      (more.0, more.1, more.2, holds_next scene.policy h at slices lane c.drain_slice.new.desk told.more);
}

pub returns : goal.returns
returns g c = λ scene h slices lane is holds.
    let p = scene.policy in
    let d = c.loop-slot.invariant.drained scene h slices lane is holds in
    let out = c.loop-slot-test.false in
    let within = c.loop-slot.auto.slot-end in
    let same = ap length c.slices-slice-items.ensures.value ∙ ap (λ (q : PolicyView). length q.slices) is.policy in
    let end : c.loop-slot.slot ≡ length p.slices = omega arith in
    slots_done (says g.T.Teller.Tells) scene slices p.slices c.loop-slot.slot d.0 (lines_by_slot scene.place slices 0 p.slices) c.args.self.now c.loop-slot.self tt end d.1 d.2
    (holds_none p h slices lane c.loop-slot.desk (subst (λ (n : ℕ). Holds p h (from_slot n slices) lane c.loop-slot.desk) end d.3))
