use Rattle.std.proofs.Common.{◌≡◌, ℕ, ◌+◌, ◌==◌, false, slice_get, Some, refl, sym, subst, arith}
use Rattle.std.proofs.lemmas.Option.{slice_get_read}
use Rattle.switch_side.specs.Changes.{StateHasRoomAt}
use Rattle.switch_side.proofs.Making.{MakesRoom, stand_then, room_more, room_all}
use Rattle.switch_side.proofs.applying.reserve.Goals as goal

pub returns-in_err-make_room_at-clause-stands : goal.returns-in_err-make_room_at-clause-stands
returns-in_err-make_room_at-clause-stands c = stand_then c.args.states.now c.loop-slot.states c.make_room_at.new.states c.loop-slot.invariant.stands c.make_room_at.ensures.stands

pub loop-slot-preserved : goal.loop-slot-preserved
loop-slot-preserved c =
    let at = c.loop-slot in
    let pair = c.loop-slot-item.result in
    let here : slice_get c.args.changes.now at.slot-index ≡ Some pair = slice_get_read c.args.changes.now _ at.slot-index pair refl c.loop-slot-test.true c.loop-slot-item.is in
    let same = c.from-place.ensures in
    let above = c.if-place-next.false in
    let mid = at.states in
    let new = c.make_room_at.new.states in
    subst (λ (k : ℕ). MakesRoom c.args.changes.now (at.slot-index + 1) (k + 1) c.args.states.now new) (sym same)
    (room_more c.args.changes.now at.slot-index at.next c.args.states.now mid new pair.0 pair.1 at.invariant here (omega (arith, above, same)) c.make_room_at.ensures.stands
    (subst (λ (k : ℕ). StateHasRoomAt k pair.1 new) same c.in_ok-make_room_at.ensures.room)
    (subst (λ (k : ℕ). (other : ℕ) → (k == other) ≡ false → slice_get new other ≡ slice_get mid other) same c.make_room_at.ensures.others))

pub returns-clause-room : goal.returns-clause-room
returns-clause-room c = room_all c.args.changes.now c.loop-slot.slot-index c.loop-slot.next c.args.states.now c.loop-slot.states c.loop-slot.invariant c.loop-slot-test.false
