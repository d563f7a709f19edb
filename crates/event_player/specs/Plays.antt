-- What becomes of things that can happen one after another at a desk (this proxy's own rule).
use Rattle.std.specs.Prelude.{ℕ, if◌then◌else◌, List, [], ◌∷◌, map, length}
use Rattle.flowspace.specs.Policies.{PolicyView}
use Rattle.of10_ctl.specs.Streams.{Stream, Stands, frames_of}
use Rattle.answer_bounds.specs.Bounds.{AreFramed}
use Rattle.desk_words.specs.declared.event.Event.{Event}
use Rattle.desk_words.specs.declared.event.Event.TheVariants.{SwitchMsg, SliceMsg}
use Rattle.desk_words.specs.declared.event.Timed.{Timed}
use Rattle.desk_words.specs.declared.dest.Dest.{Dest}
use Rattle.desk_words.specs.declared.dest.Dest.TheVariants.{Switch, Slice}
use Rattle.desk_words.specs.Recorded.{timed_at, happens, next_of, next_after}
use Rattle.event_player.specs.Telling.{Cue, Outcome, cues_after}
use Rattle.proxy_core.specs.declared.desk.Desk.{Desk}
use Rattle.event_player.specs.declared.player.Player.{Player}
use Rattle.event_player.specs.Players.{Scene, later, HasTold}
use Rattle.event_player.specs.Holding.{IsQuiet}

-- a message that came on a connection
abbrev pub event_from : Dest → List ℕ → Event
event_from Switch message = SwitchMsg message
event_from (Slice slot) message = SliceMsg slot message

-- of what can happen one after another, what does
abbrev pub happening : PolicyView → ℕ → List Timed → List Event → List Timed
happening policy moment h [] = []
happening policy moment h (event ∷ later) =
    if happens policy h event then timed_at moment event ∷ happening policy moment (next_of h (timed_at moment event)) later
    else happening policy moment h later

-- a desk is at rest after these events
pub record Rests (policy : PolicyView) (h own : List Timed) (desk : Desk) : Type 0 where
  pub quiet : IsQuiet policy (next_after h own) desk
  pub framed : AreFramed (next_after h own)

-- these events were played: they and their lines were reported, they were counted, and more holds
abbrev pub PlaysEvents : {T : Type 0} → (T → Cue → Outcome → T → Type 0) → Scene → List Timed → List Timed → Type 0 → Outcome → Player T → Player T → Type 0
PlaysEvents Tells scene h own More result old new = HasTold Tells (later (length own) scene) More result (cues_after scene.policy scene.place h own) old new

-- of what can happen what does was played, and the desk is at rest after it
abbrev pub Plays : {T : Type 0} → (T → Cue → Outcome → T → Type 0) → Scene → List Timed → List Event → Outcome → Player T → Player T → Desk → Type 0
Plays Tells scene h events result old new desk =
    let own = happening scene.policy scene.moment h events in PlaysEvents Tells scene h own (Rests scene.policy h own desk) result old new

-- the frames of a connection that its framer hadn't given were played, and the framer has given all
abbrev pub PlaysFrames : {T : Type 0} → (T → Cue → Outcome → T → Type 0) → Scene → Dest → List Timed → List ℕ → List (List ℕ) → Outcome → Player T → Player T → Desk → Stream → Type 0
PlaysFrames Tells scene from h fed rest result old new desk framer =
    let own = happening scene.policy scene.moment h (map (event_from from) rest) in
    PlaysEvents Tells scene h own (Rests scene.policy h own desk × Stands framer fed (frames_of fed)) result old new
