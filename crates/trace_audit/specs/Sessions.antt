-- What a trace says of a session of a switch: all that came since it last connected, and what was sent to it for slices. All of this is the proxy's own rule. Records before another have the newest first.
use Rattle.std.specs.Prelude.{ℕ, ◌≡◌, ◌==◌, ◌||◌, not, if◌then◌else◌, List, [], ◌∷◌, ◌++◌, reverse}
use Rattle.recording.specs.Recordings.{Told, switch_up, switch_bytes, sent_bytes}
use Rattle.desk_words.specs.declared.event.Event.{Event}
use Rattle.desk_words.specs.declared.event.Event.TheVariants.{SwitchUp, SwitchMsg, SwitchDown}
use Rattle.desk_words.specs.declared.event.Timed.{Timed}
use Rattle.desk_words.specs.Recorded.{timed_at}

-- the event of a record that is no message for a slice
abbrev pub event_told : Told → Event
event_told r = if r.kind == switch_up then SwitchUp else if r.kind == switch_bytes then SwitchMsg r.bytes else SwitchDown

-- the events of a switch since it last connected, newest first: what was sent to it adds none
abbrev pub session_of : ℕ → List Told → List Timed
session_of switch [] = []
session_of switch (r ∷ before) =
    if not (r.switch == switch) || r.kind == sent_bytes then session_of switch before
    else timed_at r.moment (event_told r) ∷ (if r.kind == switch_up then [] else session_of switch before)

-- each message that was sent for a slice is such that something holds of it, after the session of its switch so far and for the slice's slot
abbrev pub EachSent : (List Timed → ℕ → List ℕ → Type 0) → List Told → Type 0
EachSent Holds told = (front : List Told) (r : Told) (later : List Told) → told ≡ front ++ r ∷ later → r.kind ≡ sent_bytes → Holds (session_of r.switch (reverse front)) r.slot r.bytes
