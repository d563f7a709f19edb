-- Histories of turns, and what a seat's view says of them. This proxy's own rules.
use Rattle.std.specs.Prelude.{◌≡◌, ◌≢◌, ℕ, Bool, true, false, List, [], ◌∷◌, ◌++◌, length, nat_lt}
use Rattle.std.specs.declared.option.Option.{Option}
use Rattle.std.specs.declared.option.Option.TheVariants.{None, Some}
use Rattle.turn_desk.specs.declared.view.Entry.{Entry}
use Rattle.turn_desk.specs.declared.view.Member.{Member}

module _ {P R : Type 0} where
  -- the entry of one turn: whose it was, what was asked and what was answered
  abbrev pub entry : ℕ → P → R → Entry P R
  entry n op reply = record { by = n; op = op; reply = reply }

  -- no entry is of the seat with this number
  abbrev pub NoneBy : ℕ → List (Entry P R) → Type 0
  NoneBy n [] = Unit {0}
  NoneBy n (e ∷ es) = (e.by ≢ n) × NoneBy n es

  -- the first list begins with the second
  abbrev pub StartsWith : List (Entry P R) → List (Entry P R) → Type 0
  StartsWith xs ys = (later : List (Entry P R)) × (xs ≡ ys ++ later)

  -- the first list begins with the second, and behind that has no entry of the seat with this number
  abbrev pub GoesOn : ℕ → List (Entry P R) → List (Entry P R) → Type 0
  GoesOn n xs ys = (later : List (Entry P R)) × (xs ≡ ys ++ later) × NoneBy n later

  -- the second list where the test says that it is longer
  abbrev pub if_longer : Bool → List (Entry P R) → List (Entry P R) → List (Entry P R)
  if_longer true xs ys = ys
  if_longer false xs ys = xs

  -- the longer of two lists, the first where they are of one length
  abbrev pub longer : List (Entry P R) → List (Entry P R) → List (Entry P R)
  longer xs ys = if_longer (nat_lt (length xs) (length ys)) xs ys

module _ {O P R : Type 0} (acts : O → P → R → O → Type 0) where
  -- from the first object each reply is one that the object allows there, and the last object is `last`
  abbrev pub Runs : O → List (Entry P R) → O → Type 0
  Runs first [] last = first ≡ last
  Runs first (e ∷ es) last = (between : O) × acts first e.op e.reply between × Runs between es last

module _ {O P R : Type 0} where
  -- the number of a seat; that of a view that was joined to another says nothing
  abbrev pub seat_number : Option (Member O P R) → ℕ
  seat_number None = 0
  seat_number (Some m) = m.number

  -- the list that a seat has seen, oldest entry first
  abbrev pub seen_of : Option (Member O P R) → List (Entry P R)
  seen_of None = []
  seen_of (Some m) = m.seen

  -- the object that the desk was made of
  abbrev pub first_in_view : Option (Member O P R) → Option O
  first_in_view None = None
  first_in_view (Some m) = Some m.first

  -- the list seen is legal from this object on, which is the one that the desk was made of
  abbrev pub IsLegalList : (O → P → R → O → Type 0) → O → Option (Member O P R) → Type 0
  IsLegalList acts opening v = (first_in_view v ≡ Some opening) × (last : O) × Runs acts opening (seen_of v) last

  -- One call, from the view before to the view after: the list seen went on, ends with this call and its reply, and has
  -- no other new entry of this seat; it is legal from the object that the desk was made of.
  pub record Called (acts : O → P → R → O → Type 0) (v : Option (Member O P R)) (op : P) (reply : R) (w : Option (Member O P R)) : Type 0 where
    pub between : List (Entry P R)
    pub seen : seen_of w ≡ (seen_of v ++ between) ++ entry (seat_number v) op reply ∷ []
    pub others : NoneBy (seat_number v) between
    pub number : seat_number w ≡ seat_number v
    pub opening : O
    pub first : first_in_view v ≡ Some opening
    pub legal : IsLegalList acts opening w
