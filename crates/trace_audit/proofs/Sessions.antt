-- The events of a session with one record more.
use Rattle.std.proofs.Common.{◌≡◌, ℕ, ◌==◌, true, false, if◌then◌else◌, List, [], ◌∷◌, refl, eq-eqb}
use Rattle.recording.specs.Recordings.{Told, switch_up, sent_bytes}
use Rattle.desk_words.specs.Recorded.{timed_at}
use Rattle.trace_audit.specs.Sessions.{event_told, session_of}

-- a record of another switch adds none
pub session_away : (switch : ℕ) (r : Told) (before : List Told) → (r.switch == switch) ≡ false → session_of switch (r ∷ before) ≡ session_of switch before
session_away switch r before away = rw away refl

-- nor does what is sent for a slice
pub session_sent : (r : Told) (before : List Told) → (r.kind == sent_bytes) ≡ true → session_of r.switch (r ∷ before) ≡ session_of r.switch before
session_sent r before sent = rw (eq-eqb r.switch r.switch refl, sent) refl

-- any other adds its own, the switch's up to nothing before
pub session_told : (r : Told) (before : List Told) → (r.kind == sent_bytes) ≡ false
    → session_of r.switch (r ∷ before) ≡ timed_at r.moment (event_told r) ∷ (if r.kind == switch_up then [] else session_of r.switch before)
session_told r before isnt = rw (eq-eqb r.switch r.switch refl, isnt) refl
