use Rattle.std.proofs.Common.{refl, subst}
use Rattle.std.proofs.lemmas.Option.{slice_get_read}
use Rattle.slice_words.specs.Standing.{SliceStands}
use Rattle.switch_side.proofs.Making.{past_room, set_room, set_others, set_stands}
use Rattle.switch_side.proofs.applying.make_room_at.Goals as goal

pub returns-in_err-make_room-clause-stands : goal.returns-in_err-make_room-clause-stands
returns-in_err-make_room-clause-stands c =
    set_stands c.args.place c.args.states.now c.index-states-place.result c.make_room.new.state (slice_get_read c.args.states.now _ c.args.place c.index-states-place.result refl c.if-place-states.true c.index-states-place.is)
    (λ s sight stood. c.make_room.ensures.stands s sight (subst (SliceStands s sight) c.index-states-place.is stood))

pub returns-in_err-make_room-clause-others : goal.returns-in_err-make_room-clause-others
returns-in_err-make_room-clause-others c other isnt = set_others c.args.place c.args.states.now c.make_room.new.state other isnt

pub returns-in_ok-make_room-clause-room : goal.returns-in_ok-make_room-clause-room
returns-in_ok-make_room-clause-room c =
    set_room c.args.place c.args.change.now c.args.states.now c.index-states-place.result c.make_room.new.state (slice_get_read c.args.states.now _ c.args.place c.index-states-place.result refl c.if-place-states.true c.index-states-place.is)
    c.in_ok-make_room.ensures.room

pub returns-in_ok-make_room-clause-stands : goal.returns-in_ok-make_room-clause-stands
returns-in_ok-make_room-clause-stands c =
    set_stands c.args.place c.args.states.now c.index-states-place.result c.make_room.new.state (slice_get_read c.args.states.now _ c.args.place c.index-states-place.result refl c.if-place-states.true c.index-states-place.is)
    (λ s sight stood. c.make_room.ensures.stands s sight (subst (SliceStands s sight) c.index-states-place.is stood))

pub returns-in_ok-make_room-clause-others : goal.returns-in_ok-make_room-clause-others
returns-in_ok-make_room-clause-others c other isnt = set_others c.args.place c.args.states.now c.make_room.new.state other isnt

pub returns-else-place-states-clause-room : goal.returns-else-place-states-clause-room
returns-else-place-states-clause-room c = past_room c.args.place c.args.change.now c.args.states.now c.if-place-states.false
