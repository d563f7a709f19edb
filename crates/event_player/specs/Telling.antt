-- What is reported of a recording, cue by cue, and who hears it (this proxy's own rule).
use Rattle.std.specs.List.{flat_map, enumerate_from}
use Rattle.std.specs.Prelude.{ℕ, ◌≡◌, ◌⊎◌, Bool, List, [], ◌∷◌, ◌++◌, map, Option, Some, None, Result, Ok, Err}
use Rattle.flowspace.specs.Policies.{PolicyView}
use Rattle.recording.specs.Recordings.{Told}
use Rattle.desk_words.specs.declared.event.Timed.{Timed}
use Rattle.desk_words.specs.Openings.{phase_of}
use Rattle.desk_words.specs.Verdicts.{is_ended}
use Rattle.desk_words.specs.Recorded.{Happened, each_after, all_happened}
use Rattle.desk_words.specs.Reports.{LinePlace, Line, ended_lines, lane_lines, lines_by_slot, event_lines, closed_lines}
use Rattle.event_player.specs.declared.fault.ReportFault.{ReportFault}
use Rattle.event_player.specs.declared.fault.ReportFault.TheVariants.{Memory}

-- ---- events

-- What is reported one after another: under a policy an event comes, which has this number, and before its desk's step; or a line is said of the event that came last.
pub data Cue : Type 0 where
  Comes : (policy : PolicyView) (number : ℕ) (one : Happened) → Cue
  Says : (line : Line) → Cue

-- an event comes at a place, after a history
abbrev pub coming : PolicyView → LinePlace → List Timed → Timed → Cue
coming policy place h timed = Comes policy place.number (record { switch = place.switch; history = h; timed = timed })

-- what is reported of one event: that it comes, and then its lines
abbrev pub event_cues : PolicyView → LinePlace → List Timed → Timed → List Cue
event_cues policy place h timed = coming policy place h timed ∷ map Says (event_lines policy place h timed)

-- of an event at its number
abbrev pub cues_at : PolicyView → ℕ × Happened → List Cue
cues_at policy one = event_cues policy (record { number = one.0; switch = one.1.switch }) one.1.history one.1.timed

-- of events, each at its number, from a number on
unfoldable pub cues_from : PolicyView → ℕ → List Happened → List Cue
cues_from policy number events = flat_map (cues_at policy) (enumerate_from number events)

-- of all that happened in a recording
abbrev pub all_cues : PolicyView → List Told → List Cue
all_cues policy records = cues_from policy 0 (all_happened policy records)

-- of events that come one after another at a switch, the first of them at a place
abbrev pub cues_after : PolicyView → LinePlace → List Timed → List Timed → List Cue
cues_after policy place h events = cues_from policy place.number (each_after place.switch h events)

-- ---- in parts

-- the switch's connection has ended
abbrev pub end_lines : LinePlace → List Timed → List Line
end_lines place h = ended_lines place (is_ended (phase_of h))

-- the connection of the slice that spoke, which is closed or not; where none did, the switch's end
abbrev pub state_lines : PolicyView → LinePlace → List Timed → Option ℕ → Bool → List Line
state_lines policy place h None closed = end_lines place h
state_lines policy place h (Some slot) closed = closed_lines policy place slot closed

-- messages that wait, and then the connection of the slice that spoke, or the switch's end
abbrev pub lines_in_parts : PolicyView → LinePlace → List Timed → (ℕ → List (List ℕ)) → List (List ℕ) → Option ℕ → Bool → List Line
lines_in_parts policy place h slices lane speaking closed =
    lane_lines place lane ++ (lines_by_slot place slices 0 policy.slices ++ state_lines policy place h speaking closed)

-- ---- who hears

-- how it went with a cue: it was reported whole, or a fault broke it off
abbrev pub Outcome : Type 0
Outcome = Result (Unit {0}) ReportFault

-- from one state to another by what is reported, each of it reported whole
abbrev pub ToldWhole : {T C : Type 0} → (T → C → Outcome → T → Type 0) → T → List C → T → Type 0
ToldWhole Tells old [] new = new ≡ old
ToldWhole {T} Tells old (first ∷ others) new = (next : T) × Tells old first (Ok tt) next × ToldWhole Tells next others new

-- by the first of these cues, until a fault: it broke one off, or memory ran out where none was reported
abbrev pub HeardPart : {T C : Type 0} → (T → C → Outcome → T → Type 0) → ReportFault → T → List C → T → Type 0
HeardPart Tells fault old [] new = (new ≡ old) × (fault ≡ Memory)
HeardPart {T} Tells fault old (first ∷ others) new =
    ((new ≡ old) × (fault ≡ Memory)) ⊎ (Tells old first (Err fault) new ⊎ ((next : T) × Tells old first (Ok tt) next × HeardPart Tells fault next others new))

-- all of these cues were reported; at a fault the first of them
abbrev pub Tell : {A T C : Type 0} → (T → C → Outcome → T → Type 0) → Result A ReportFault → List C → T → T → Type 0
Tell Tells (Ok value) cues old new = ToldWhole Tells old cues new
Tell Tells (Err fault) cues old new = HeardPart Tells fault old cues new

-- by a line alone
abbrev pub says : {T : Type 0} → (T → Cue → Outcome → T → Type 0) → T → Line → Outcome → T → Type 0
says Tells = λ old line outcome new. Tells old (Says line) outcome new

-- who hears only lines: nothing changes when an event comes
abbrev pub ByLine : {T : Type 0} → (T → Line → Outcome → T → Type 0) → T → Cue → Outcome → T → Type 0
ByLine Tells old (Comes policy number one) outcome new = (outcome ≡ Ok tt) × (new ≡ old)
ByLine Tells old (Says line) outcome new = Tells old line outcome new

-- the lines among cues
abbrev pub line_in : Cue → List Line
line_in (Comes policy number one) = []
line_in (Says line) = line ∷ []

abbrev pub lines_in : List Cue → List Line
lines_in cues = flat_map line_in cues
