-- What a desk answers to an event (this proxy's own rule).
use Rattle.std.specs.Prelude.{ℕ, ◌^◌, ◌||◌, ◌&&◌, not, leb, Bool, true, false, if◌then◌else◌, List, ◌∷◌, length}
use Rattle.flowspace.specs.Policies.{PolicyView}
use Rattle.desk_words.specs.declared.event.Event.{Event}
use Rattle.desk_words.specs.declared.event.Event.TheVariants.{SwitchUp, SwitchDown, SliceUp, SliceMsg, SliceDown}
use Rattle.desk_words.specs.declared.event.Timed.{Timed}
use Rattle.desk_words.specs.declared.phase.Phase.{Phase}
use Rattle.desk_words.specs.declared.phase.Phase.TheVariants.{Fresh, Begun, Gone}
use Rattle.desk_words.specs.declared.verdict.Verdict.{Verdict}
use Rattle.desk_words.specs.declared.verdict.Verdict.TheVariants as verdicts
use Rattle.desk_words.specs.Openings.{phase_of}
use Rattle.desk_words.specs.Histories.{is_slot, is_slice_up}

-- the switch hasn't connected
abbrev pub is_fresh : Phase → Bool
is_fresh Fresh = true
is_fresh phase = false

-- the switch's connection has ended
abbrev pub is_ended : Phase → Bool
is_ended Gone = true
is_ended phase = false

-- the switch hasn't said yet what it is, and may still do so
abbrev pub is_before : Phase → Bool
is_before Fresh = true
is_before Begun = true
is_before phase = false

-- nothing more comes of a history: the switch's connection has ended, or there were 2^60 events
abbrev pub is_over : List Timed → Bool
is_over h = is_ended (phase_of h) || leb (2 ^ 60) (length h)

-- an event says that the switch connected
abbrev pub is_switch_up : Event → Bool
is_switch_up SwitchUp = true
is_switch_up event = false

-- an event that says that a connection ended
abbrev pub is_down : Event → Bool
is_down SwitchDown = true
is_down (SliceDown slot) = true
is_down event = false

-- the event's slot is one of the policy; events of the switch have none
abbrev pub is_of_policy : PolicyView → Event → Bool
is_of_policy policy (SliceUp slot) = is_slot policy slot
is_of_policy policy (SliceMsg slot message) = is_slot policy slot
is_of_policy policy (SliceDown slot) = is_slot policy slot
is_of_policy policy event = true

-- the connection that an event came from is up, where those of the slices are so and the switch's is in a phase
abbrev pub is_connected : (ℕ → Bool) → Phase → Event → Bool
is_connected slice_up phase (SliceUp slot) = slice_up slot
is_connected slice_up phase (SliceMsg slot message) = slice_up slot
is_connected slice_up phase (SliceDown slot) = slice_up slot
is_connected slice_up phase event = not (is_ended phase)

-- an event closes its connection: the switch hasn't connected before and this isn't that, it has no such slot, or it is no down and its connection isn't up after it
abbrev pub is_closing : PolicyView → Phase → (ℕ → Bool) → Phase → Event → Bool
is_closing policy before slice_up after event =
    (is_fresh before && not (is_switch_up event)) || not (is_of_policy policy event) || (not (is_down event) && not (is_connected slice_up after event))

-- the same of an event after a history
abbrev pub closes : PolicyView → List Timed → Timed → Bool
closes policy h timed = is_closing policy (phase_of h) (λ slot. is_slice_up policy slot (timed ∷ h)) (phase_of (timed ∷ h)) timed.event

-- what is answered to an event after a history
abbrev pub verdict : PolicyView → List Timed → Timed → Verdict
verdict policy h timed = if is_over h then verdicts.Ended else if closes policy h timed then verdicts.Close else verdicts.Go
