-- Players: what they play, and what they reported of it (this proxy's own rule).
use Rattle.std.specs.Prelude.{ℕ, ◌≡◌, ◌+◌, List, Result, OnOk}
use Rattle.flowspace.specs.Policies.{PolicyView}
use Rattle.recording.specs.Recordings.{Told}
use Rattle.desk_words.specs.Reports.{LinePlace}
use Rattle.run_words.specs.Summaries.{event_count}
use Rattle.event_player.specs.declared.fault.ReportFault.{ReportFault}
use Rattle.event_player.specs.declared.player.Player.{Player}
use Rattle.event_player.specs.Lines.{place_of}
use Rattle.event_player.specs.Telling.{Cue, Outcome, Tell, all_cues}

-- what is played: by a policy, at the place of the next event, what came at a timestamp
pub record Scene : Type 0 where
  pub policy : PolicyView
  pub place : LinePlace
  pub moment : ℕ

-- a player plays a scene
pub record IsPlaying {T : Type 0} (scene : Scene) (player : Player T) : Type 0 where
  pub policy : player.policy.now ≡ scene.policy
  pub place : place_of player.place ≡ scene.place
  pub moment : player.moment ≡ scene.moment

-- a player has the teller that it had, and plays what it played
pub record PlaysOn {T : Type 0} (old new : Player T) : Type 0 where
  pub teller : new.teller ≡ old.teller
  pub scene : (scene : Scene) → IsPlaying scene old → IsPlaying scene new

-- a player plays by a policy, and has played so many events
pub record HasPlayed {T : Type 0} (p : PolicyView) (count : ℕ) (player : Player T) : Type 0 where
  pub policy : player.policy.now ≡ p
  pub events : player.place.number ≡ count

-- the scene after so many events more
abbrev pub later : ℕ → Scene → Scene
later events scene = record scene { place = record scene.place { number = scene.place.number + events } }

-- the scene of a record, after so many events
abbrev pub scene_of : PolicyView → ℕ → Told → Scene
scene_of policy number r = record { policy = policy; place = record { number = number; switch = r.switch }; moment = r.moment }

-- A player reported this, at a fault the first of them. Where it reported all, it plays a scene, and more holds.
pub record HasTold {A T C : Type 0} (Tells : T → C → Outcome → T → Type 0) (scene : Scene) (More : Type 0) (result : Result A ReportFault) (cues : List C) (old new : Player T) : Type 0 where
  pub told : Tell Tells result cues old.teller new.teller
  pub at : OnOk result (IsPlaying scene new)
  pub more : OnOk result More

-- a player reported all of a recording, and counted its events
pub record TellsAll {A T : Type 0} (Tells : T → Cue → Outcome → T → Type 0) (policy : PolicyView) (records : List Told) (result : Result A ReportFault) (old new : Player T) : Type 0 where
  pub told : Tell Tells result (all_cues policy records) old.teller new.teller
  pub count : OnOk result (new.place.number ≡ event_count policy records)
