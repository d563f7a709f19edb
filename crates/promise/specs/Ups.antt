-- What a report says a slice is sent from each up of a switch on.
use Rattle.std.specs.Prelude.{ℕ, List}
use Rattle.flowspace.specs.Policies.{PolicyView}
use Rattle.recording.specs.Recordings.{Told}
use Rattle.desk_words.specs.Laws.{first_events, TellAsAlone}

-- wherever a recording is cut, what its lines up to there say a slice is sent, from the switch's last up before the cut on, is what a proxy sends that serves the slice alone. The proxy has the slice's settings, on the slice's view of the switch's history up to there. Cut before each up of the switch, and at its end, a recording has these stretches and no others
abbrev pub IsToldAsAloneAtEachUp : PolicyView → ℕ → ℕ → List Told → List Told → Type 0
IsToldAsAloneAtEachUp policy slot switch earlier later = TellAsAlone policy slot switch earlier (first_events policy earlier later)
