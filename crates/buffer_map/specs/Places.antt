-- How a map of buffers keeps its packets, and the switch's numbers of them beside them.
use Rattle.std.specs.Prelude.{ℕ, ◌≡◌, ◌+◌, ◌≤◌, ◌<◌, ◌==◌, List, [], ◌∷◌, length, count_by}
use Rattle.buffer_map.specs.declared.held.Held.{Held}

-- each packet was given before the one in front of it, and is among the last 256 of so many given; the first was given before `next`
abbrev pub IsInOrder : (count next : ℕ) → List Held → Type 0
IsInOrder count next [] = Unit {0}
IsInOrder count next (b ∷ earlier) = (b.ordinal < next) × (count ≤ b.ordinal + 256) × IsInOrder count b.ordinal earlier

-- the numbers are those of the packets, each as often as it is theirs
pub record AreNumbersOf (numbers : List ℕ) (packets : List Held) : Type 0 where
  pub same_length : length numbers ≡ length packets
  pub same_counts : (physical : ℕ) → count_by (λ other. other == physical) numbers ≡ count_by (λ b. b.physical == physical) packets
