-- The switch's numbers for the packets that it keeps for a slice (this proxy's own rule; what such a number is says OpenFlow 1.0.0, section 5.4.1).
use Rattle.std.specs.Prelude.{ℕ, ◌≡◌, ◌<◌, length, Some}
use Rattle.std.specs.List.{All}
use Rattle.slice_words.specs.Items.{Settings, buffered_count}
use Rattle.slice_words.specs.Buffers.{held_packets}
use Rattle.slice_words.specs.Alone.{number_it_came_with}
use Rattle.slice_words.specs.Standing.{past_of}
use Rattle.desk_words.specs.Histories.{SliceSide, holder}

-- each buffered packet of the slice came with a number. Under the number of one that the slice holds no packet came since. What came last under a number is the slice's packet that came with it, if it was one of the slice's
pub record AreNumbered (s : Settings) (side : SliceSide) : Type 0 where
  pub count : length side.sight.came ≡ buffered_count side.sight.view
  pub held : All (λ packet. holder (number_it_came_with side.sight.came packet.ordinal) side.numbered ≡ Some packet.ordinal) (held_packets (past_of s side.sight.view))
  pub given : (number ordinal : ℕ) → holder number side.numbered ≡ Some ordinal → ordinal < length side.sight.came
  pub came : (number ordinal : ℕ) → holder number side.numbered ≡ Some ordinal → number_it_came_with side.sight.came ordinal ≡ number
