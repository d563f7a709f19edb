-- Where the rules stand that a slice writes on a switch, from which ports they take packets, and which of them is the first that includes a match. All of this is the proxy's own rule.
use Rattle.std.specs.Prelude.{ℕ, ◌≡◌, ◌<◌, ◌&&◌, if◌then◌else◌, Bool, true, false, List, length, map, filter, position, slice_get, slice_index_or, Option, Some}
use Rattle.std.specs.List.{list_any}
use Rattle.std.specs.Ordering.{nat_cmp}
use Rattle.std.specs.BTreeSet.{contains}
use Rattle.of10_model.specs.declared.pattern.Pattern.{Pattern}
use Rattle.of10_model.specs.Header.{Header}
use Rattle.of10_model.specs.Pattern.{has}
use Rattle.of10_model.specs.Inclusion.{includes_of, any_in_port}
use Rattle.of10_model.specs.Exact.{exact_of}
use Rattle.pattern_index.specs.declared.index.PatternIndex.{PatternIndex}
use Rattle.pattern_index.specs.Places.{FindsFirst}
use Rattle.flowspace.specs.declared.rules.Rule.{Rule}
use Rattle.flowspace.specs.declared.writes.EntryPorts.{EntryPorts}
use Rattle.flowspace.specs.declared.writes.EntryPorts.TheVariants.{Every, Named}
use Rattle.flowspace.specs.declared.writes.SliceWrites.{SliceWrites}
use Rattle.flowspace.specs.Rules.{is_written_by}
use Rattle.flowspace.specs.Owners.{is_rule_at}

-- the rules at these places are the ones that a slice writes, in rule order
abbrev pub AreWritePlaces : List Rule → ℕ → List ℕ → Type 0
AreWritePlaces rules slot places = map (slice_get rules) places ≡ map Some (filter (is_written_by slot) rules)

-- a port is among those from which rules take packets
abbrev pub takes_at : EntryPorts → ℕ → Bool
takes_at Every port = true
takes_at (Named ports) port = contains nat_cmp ports port

-- ---- the first that includes a match

-- a match as it is, or with its in_port read as any
abbrev pub counted : Bool → Pattern → Pattern
counted by_port m = if by_port then m else any_in_port m

-- a slice writes a rule that includes a match, or has a header
abbrev pub covers_match : ℕ → Bool → Rule → Pattern → Bool
covers_match slot by_port rule m = is_written_by slot rule && includes_of (counted by_port rule.pattern) m

abbrev pub covers_header : ℕ → Bool → Rule → Header → Bool
covers_header slot by_port rule h = is_written_by slot rule && has (counted by_port rule.pattern) h

-- the place of the first rule that does
abbrev pub first_cover : List Rule → ℕ → Bool → Pattern → Option ℕ
first_cover rules slot by_port m = position (λ rule. covers_match slot by_port rule m) rules

abbrev pub first_written : List Rule → ℕ → Bool → Header → Option ℕ
first_written rules slot by_port h = position (λ rule. covers_header slot by_port rule h) rules

-- an index finds both
pub record IsCoverIndex (by_port : Bool) (rules : List Rule) (slot : ℕ) (index : PatternIndex) : Type 0 where
  pub of_matches : FindsFirst (λ (m : Pattern). m) (covers_match slot by_port) rules index
  pub of_headers : FindsFirst exact_of (covers_header slot by_port) rules index

-- ---- what is kept for a slice

-- what a slice writes has the places of its rules, their ports and their indexes
pub record IsWritesOf (rules : List Rule) (slot : ℕ) (own : SliceWrites) : Type 0 where
  pub at_places : AreWritePlaces rules slot own.places.items
  pub at_ports : (port : ℕ) → takes_at own.ports port ≡ list_any (is_rule_at slot port) rules
  pub by_port : IsCoverIndex true rules slot own.covers
  pub aside : IsCoverIndex false rules slot own.covers_aside

-- this for each slice, by its slot
abbrev pub AreWrites : List Rule → List SliceWrites → Type 0
AreWrites rules writes = (slot : ℕ) (d : SliceWrites) → slot < length writes → IsWritesOf rules slot (slice_index_or writes slot d)
