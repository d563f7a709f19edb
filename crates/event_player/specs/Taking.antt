-- What taking a message changes of what waits (this proxy's own rule).
use Rattle.std.specs.Prelude.{ℕ, ◌≡◌, List, drop, Option, slice_get}
use Rattle.flowspace.specs.Policies.{PolicyView}
use Rattle.desk_words.specs.declared.event.Timed.{Timed}
use Rattle.proxy_core.specs.declared.desk.Desk.{Desk}
use Rattle.event_player.specs.Holding.{Holds, with_waiting}

-- of what waits for the switch the first was taken
abbrev pub TakesFromLane : Desk → Option (List ℕ) → Desk → Type 0
TakesFromLane old next new =
    (policy : PolicyView) (h : List Timed) (slices : ℕ → List (List ℕ)) (lane : List (List ℕ)) → Holds policy h slices lane old
    → (next ≡ slice_get lane 0) × Holds policy h slices (drop 1 lane) new

-- of what waits for a slice the first was taken
abbrev pub TakesFromSlice : ℕ → Desk → Option (List ℕ) → Desk → Type 0
TakesFromSlice slot old next new =
    (policy : PolicyView) (h : List Timed) (slices : ℕ → List (List ℕ)) (messages lane : List (List ℕ)) → Holds policy h (with_waiting slot messages slices) lane old
    → (next ≡ slice_get messages 0) × Holds policy h (with_waiting slot (drop 1 messages) slices) lane new
