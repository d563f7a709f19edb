-- The order in which a book keeps its pairs. It is this proxy's own.
use Rattle.std.specs.Prelude.{ℕ, ◌≡◌, ◌<◌, ◌≤◌, All, List, length}
use Rattle.std.specs.List.{HoldsAt, AllWithin}
use Rattle.std.specs.List.Sorted.{IsStrictlySortedBy}
use Rattle.std.specs.declared.cmp.Ordering.{Ordering}
use Rattle.std.specs.declared.cmp.Ordering.TheVariants.{Less, Equal, Greater}
use Rattle.std.specs.Ordering.{nat_cmp, ordering_then}
use Rattle.std.specs.Cmp.Lexicographic.{slice_cmp}
use Rattle.of10_model.specs.declared.pattern.Pattern.{Pattern}
use Rattle.of10_model.specs.Normal.{IsNormal}
use Rattle.of10_model.specs.Spelling.{Spell}
use Rattle.flow_book.specs.declared.booked.Booked.{Booked}
use Rattle.flow_book.specs.Books.{BookCall, book, HaveSame}

-- how a booked pair stands to another match and priority: by priority first, then by the 40 bytes of the match
abbrev pub stands_to : Booked → Pattern → ℕ → Ordering
stands_to b pattern priority = ordering_then (nat_cmp b.priority priority) (slice_cmp nat_cmp (Spell b.pattern) (Spell pattern))

-- how a booked pair stands to another
abbrev pub order : Booked → Booked → Ordering
order a b = stands_to a b.pattern b.priority

-- pairs of normal matches, each below those after it
pub record ArePairsInOrder (pairs : List Booked) : Type 0 where
  pub normal : All (λ b. IsNormal b.pattern) pairs
  pub ascending : IsStrictlySortedBy order pairs

-- the pair of this match and priority is at this place
pub record IsPairAt (pairs : List Booked) (pattern : Pattern) (priority place : ℕ) : Type 0 where
  pub in_range : place < length pairs
  pub has_pair : HoldsAt (λ b. stands_to b pattern priority ≡ Equal) pairs place

-- the pair of this match and priority would go to this place: lower ones stand before it, higher ones from it on
pub record IsGapFor (pairs : List Booked) (pattern : Pattern) (priority place : ℕ) : Type 0 where
  pub in_range : place ≤ length pairs
  pub lower_before : AllWithin (λ b. stands_to b pattern priority ≡ Less) pairs 0 place
  pub higher_after : AllWithin (λ b. stands_to b pattern priority ≡ Greater) pairs place (length pairs)

-- what is booked after calls, in a book's order; a law says that there is one such list
abbrev pub IsBookOf : List BookCall → List Booked → Type 0
IsBookOf calls pairs = HaveSame (book calls) pairs × ArePairsInOrder pairs
