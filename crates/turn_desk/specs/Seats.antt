-- What contracts say of a desk and its seats.
use Rattle.std.specs.Prelude.{◌≡◌, ℕ, List}
use Rattle.std.specs.declared.option.Option.{Option}
use Rattle.turn_desk.specs.declared.view.Entry.{Entry}
use Rattle.turn_desk.specs.declared.view.Member.{Member}
use Rattle.turn_desk.specs.declared.object.Object.{Ghosts}
use Rattle.turn_desk.specs.declared.parts.TurnDesk.{TurnDesk}
use Rattle.turn_desk.specs.declared.parts.TurnSeat.{TurnSeat}
use Rattle.turn_desk.specs.Histories.{seat_number, seen_of, first_in_view}

-- the object that the desk was made of
abbrev pub first_object : {O P R : Type 0} → TurnDesk O P R → O
first_object desk = desk.table.shared.key.value

module _ {O P R : Type 0} {acts : Ghosts O P R} where
  -- the seat is of this desk
  abbrev pub IsSeatOf : TurnDesk O P R → TurnSeat O P R acts → Type 0
  IsSeatOf desk seat = seat.seat.table_id ≡ desk.table.shared.table_id

  -- the two seats are of one desk
  abbrev pub SameDesk : TurnSeat O P R acts → TurnSeat O P R acts → Type 0
  SameDesk a b = a.seat.table_id ≡ b.seat.table_id

  -- what the seat knows
  abbrev pub view : TurnSeat O P R acts → Option (Member O P R)
  view seat = seat.seat.me.0

  -- its number, which its entries in the history bear
  abbrev pub own_number : TurnSeat O P R acts → ℕ
  own_number seat = seat_number (view seat)

  -- the list that it has seen
  abbrev pub seen : TurnSeat O P R acts → List (Entry P R)
  seen seat = seen_of (view seat)

  -- the object that its desk was made of
  abbrev pub first : TurnSeat O P R acts → Option O
  first seat = first_in_view (view seat)
