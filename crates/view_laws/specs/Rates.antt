-- Which timestamps count for a slice's rate, in words of its view. Views have the newest item first. All of this is this proxy's own rule.
use Rattle.std.specs.Prelude.{ℕ, ◌&&◌, Bool, false, if◌then◌else◌, List, [], ◌∷◌}
use Rattle.slice_words.specs.Items.{Settings, Item, Msg, latest_moment}
use Rattle.slice_words.specs.Answers.{keeps_rate}
use Rattle.slice_words.specs.Calls.{asks_rate}
use Rattle.slice_words.specs.Standing.{past_of}

-- an item after a view passes the rate: it is a message that asks something of the switch, of a slice that is up, and it keeps the rate
abbrev pub passes_rate : Settings → List Item → Item → Bool
passes_rate s view (Msg message moment) = asks_rate (Msg message moment) view && keeps_rate s view (past_of s view) moment
passes_rate s view item = false

-- the timestamps that count, newest first: of each message that passed the greatest timestamp of the messages up to it
abbrev pub counted_moments : Settings → List Item → List ℕ
counted_moments s [] = []
counted_moments s (item ∷ view) = if passes_rate s view item then latest_moment (item ∷ view) ∷ counted_moments s view else counted_moments s view
