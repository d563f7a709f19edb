-- The calls that one seat made, among those of all. This proxy's own rules.
use Rattle.std.specs.Prelude.{◌≡◌, ◌==◌, ℕ, if◌then◌else◌, List, [], ◌∷◌, ◌++◌}
use Rattle.std.specs.declared.option.Option.{Option}
use Rattle.turn_desk.specs.declared.view.Entry.{Entry}
use Rattle.turn_desk.specs.declared.view.Member.{Member}
use Rattle.turn_desk.specs.Histories.{seen_of, seat_number, IsLegalList}

-- what was asked in a turn, and what was answered
pub record Call (P R : Type 0) : Type 0 where
  pub op : P
  pub reply : R

module _ {P R : Type 0} where
  -- the call of an entry
  abbrev pub call_of : Entry P R → Call P R
  call_of e = record { op = e.op; reply = e.reply }

  -- the calls of the seat with this number, in their order
  abbrev pub calls_by : ℕ → List (Entry P R) → List (Call P R)
  calls_by n [] = []
  calls_by n (e ∷ es) = if e.by == n then call_of e ∷ calls_by n es else calls_by n es

  -- the last call was answered so
  abbrev pub LastReply : R → List (Call P R) → Type 0
  LastReply reply calls = (before : List (Call P R)) × (op : P) × (calls ≡ before ++ record { op = op; reply = reply } ∷ [])

-- From the view before to the view after a seat made these calls and no others: they are its own among what it has seen
-- since, and a list that was legal stays so.
pub record Made {O P R : Type 0} (acts : O → P → R → O → Type 0) (v : Option (Member O P R)) (calls : List (Call P R)) (w : Option (Member O P R)) : Type 0 where
  pub later : List (Entry P R)
  pub seen : seen_of w ≡ seen_of v ++ later
  pub own : calls_by (seat_number v) later ≡ calls
  pub number : seat_number w ≡ seat_number v
  pub legal : (opening : O) → IsLegalList acts opening v → IsLegalList acts opening w
