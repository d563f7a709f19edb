-- What a run that tells nobody leaves: the desks of a recording's switches (this proxy's own rule).
use Rattle.std.specs.Prelude.{◌≡◌, List, reverse, Ok}
use Rattle.flowspace.specs.Policies.{PolicyView}
use Rattle.recording.specs.Recordings.{Told}
use Rattle.run_words.specs.Summaries.{event_count}
use Rattle.event_player.specs.Telling.{Cue, Outcome}
use Rattle.event_player.specs.Switches.{SwitchesStand}
use Rattle.event_player.specs.declared.desks.PlayedDesks.{PlayedDesks}

-- nobody hears what is reported, and none of it breaks off
abbrev pub Unheard : {T : Type 0} → T → Cue → Outcome → T → Type 0
Unheard old cue outcome new = (outcome ≡ Ok tt) × (new ≡ old)

-- all records of a recording were played
pub record IsPlayed (policy : PolicyView) (records : List Told) (played : PlayedDesks) : Type 0 where
  pub switches : SwitchesStand policy (reverse records) played.switches.items
  pub events : played.events ≡ event_count policy records
