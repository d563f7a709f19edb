-- Switches of a recording after some of its records (this proxy's own rule). Records have the newest first.
use Rattle.std.specs.Prelude.{ℕ, ◌≡◌, ◌≤◌, ◌<◌, ◌==◌, Bool, true, false, List, [], ◌∷◌, length, slice_get, Option, Some, None}
use Rattle.std.specs.List.{list_any}
use Rattle.flowspace.specs.Policies.{PolicyView}
use Rattle.recording.specs.declared.item.Item.{Item}
use Rattle.recording.specs.Recordings.{Told, switch_up, switch_bytes, slice_up, slice_bytes}
use Rattle.answer_bounds.specs.Bounds.{AreFramed}
use Rattle.desk_words.specs.declared.dest.Dest.{Dest}
use Rattle.desk_words.specs.declared.dest.Dest.TheVariants.{Switch as ToSwitch, Slice}
use Rattle.desk_words.specs.Recorded.{history_of, history_at, events_in}
use Rattle.event_player.specs.Telling.{Cue, Outcome}
use Rattle.event_player.specs.declared.player.Player.{Player}
use Rattle.event_player.specs.Players.{scene_of, IsPlaying, HasPlayed}
use Rattle.event_player.specs.Plays.{PlaysEvents}
use Rattle.event_player.specs.declared.switch.Switch.{Switch}
use Rattle.event_player.specs.Holding.{IsQuiet}
use Rattle.event_player.specs.Streams.{NothingCame, StreamsStand}

-- nothing has happened at a switch yet
pub record IsFreshSwitch (policy : PolicyView) (switch : Switch) : Type 0 where
  pub quiet : IsQuiet policy [] switch.desk
  pub streams : NothingCame (length policy.slices) switch.streams

-- a switch is the one of a number after records
pub record SwitchStands (policy : PolicyView) (number : ℕ) (before : List Told) (switch : Switch) : Type 0 where
  pub quiet : IsQuiet policy (history_of policy number before) switch.desk
  pub framed : AreFramed (history_of policy number before)
  pub streams : StreamsStand (length policy.slices) number before switch.streams

-- the cues of a record's events were reported, these were counted, and more holds
abbrev pub RecordPlayed : {T : Type 0} → (T → Cue → Outcome → T → Type 0) → PolicyView → ℕ → Told → List Told → Type 0 → Outcome → Player T → Player T → Type 0
RecordPlayed Tells policy number r before More result old new =
    PlaysEvents Tells (scene_of policy number r) (history_at policy r before) (events_in policy r before) More result old new

-- the switch that a record finds: a fresh one where it is the switch's up, else the one after the records before
abbrev pub IsFoundWhere : Bool → PolicyView → Told → List Told → Switch → Type 0
IsFoundWhere true policy r before switch = IsFreshSwitch policy switch
IsFoundWhere false policy r before switch = SwitchStands policy r.switch before switch

abbrev pub IsFound : PolicyView → Told → List Told → Switch → Type 0
IsFound policy r before switch = IsFoundWhere (r.kind == switch_up) policy r before switch

-- a record is played at its switch
abbrev pub PlaysRecord : {T : Type 0} → (T → Cue → Outcome → T → Type 0) → Told → Outcome → Player T → Player T → Switch → Switch → Type 0
PlaysRecord Tells r result old new switch switch_after =
    (policy : PolicyView) (number : ℕ) (before : List Told) → IsPlaying (scene_of policy number r) old → IsFound policy r before switch
    → RecordPlayed Tells policy number r before (SwitchStands policy r.switch (r ∷ before) switch_after) result old new

-- the record of a connection's bytes
abbrev pub kind_from : Dest → ℕ
kind_from ToSwitch = switch_bytes
kind_from (Slice slot) = slice_bytes

abbrev pub slot_from : Dest → ℕ
slot_from ToSwitch = 0
slot_from (Slice slot) = slot

abbrev pub told_from : Dest → ℕ → ℕ → List ℕ → Told
told_from from switch moment bytes = record { kind = kind_from from; switch = switch; slot = slot_from from; moment = moment; bytes = bytes }

-- a record of this kind carries no bytes: a connection begins or ends
abbrev pub IsTurn : ℕ → Type 0
IsTurn kind = (kind ≡ switch_bytes → ⊥) × (kind ≡ slice_bytes → ⊥)

-- a switch is ready for the events of a record: its desk holds the history before the record, and its streams are those with it
pub record IsReady (policy : PolicyView) (r : Told) (before : List Told) (switch : Switch) : Type 0 where
  pub quiet : IsQuiet policy (history_at policy r before) switch.desk
  pub framed : AreFramed (history_at policy r before)
  pub streams : StreamsStand (length policy.slices) r.switch (r ∷ before) switch.streams

abbrev pub Readies : PolicyView → Told → Switch → Switch → Type 0
Readies policy r old new = (before : List Told) → IsFound policy r before old → IsReady policy r before new

-- no record is of the switch
abbrev pub IsUntouched : ℕ → List Told → Type 0
IsUntouched number before = list_any (λ r. r.switch == number) before ≡ false

abbrev pub IsAt : PolicyView → ℕ → List Told → Option Switch → Type 0
IsAt policy number before None = IsUntouched number before
IsAt policy number before (Some switch) = SwitchStands policy number before switch

-- the same, where there may not have been the switch before
abbrev pub PlaysAt : {T : Type 0} → (T → Cue → Outcome → T → Type 0) → Told → Outcome → Player T → Player T → Option Switch → Option Switch → Type 0
PlaysAt Tells r result old new switch switch_after =
    (policy : PolicyView) (number : ℕ) (before : List Told) → IsPlaying (scene_of policy number r) old → IsAt policy r.switch before switch
    → RecordPlayed Tells policy number r before (IsAt policy r.switch (r ∷ before) switch_after) result old new

-- each switch is the one of its number after records
pub record SwitchesStand (policy : PolicyView) (before : List Told) (switches : List (Option Switch)) : Type 0 where
  pub count : length switches ≡ 16
  pub each : (number : ℕ) (switch : Option Switch) → slice_get switches number ≡ Some switch → IsAt policy number before switch

-- the same among all switches
abbrev pub PlaysAmong : {T : Type 0} → (T → Cue → Outcome → T → Type 0) → Told → Outcome → Player T → Player T → List (Option Switch) → List (Option Switch) → Type 0
PlaysAmong Tells r result old new switches switches_after =
    (policy : PolicyView) (number : ℕ) (before : List Told) → HasPlayed policy number old → SwitchesStand policy before switches
    → RecordPlayed Tells policy number r before (SwitchesStand policy (r ∷ before) switches_after) result old new

-- a record of a recording: a known kind, one of 16 switches, slot 0 or a slot of the policy, and bytes only where its kind has them
pub record IsRecord (slices : ℕ) (item : Item) (bytes : List ℕ) : Type 0 where
  pub known : item.kind ≤ 5
  pub switch : item.switch < 16
  pub of_switch : item.kind < slice_up → item.slot ≡ 0
  pub of_slice : slice_up ≤ item.kind → item.slot < slices
  pub silent : (item.kind ≡ switch_bytes → ⊥) → (item.kind ≡ slice_bytes → ⊥) → bytes ≡ []

-- sixteen switches of which nothing is known
abbrev pub AreUnknown : List (Option Switch) → Type 0
AreUnknown switches = (length switches ≡ 16) × ((number : ℕ) (switch : Option Switch) → slice_get switches number ≡ Some switch → switch ≡ None)
