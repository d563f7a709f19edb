-- Which slices have a port, noted slot by slot; a policy has at most 32 slices. The code finds it by this.
use Rattle.std.specs.Prelude.{ℕ, ◌≡◌, ◌<◌, ◌||◌, Bool, false, List, slice_index_or}
use Rattle.std.specs.List.{list_any}
use Rattle.flowspace.specs.declared.rules.Rule.{Rule}
use Rattle.flowspace.specs.Owners.{is_rule_at, has_port}

-- the slot that a rule gives a port is noted beside those noted before
abbrev pub HasNoted : Rule → ℕ → List Bool → List Bool → Type 0
HasNoted rule port before after = (slot : ℕ) → slot < 32 → slice_index_or after slot false ≡ (slice_index_or before slot false || is_rule_at slot port rule)

-- the same of several rules
abbrev pub HaveNoted : List Rule → ℕ → List Bool → List Bool → Type 0
HaveNoted rules port before after = (slot : ℕ) → slot < 32 → slice_index_or after slot false ≡ (slice_index_or before slot false || list_any (is_rule_at slot port) rules)

-- the slots of the slices that have a port are noted, and no other
abbrev pub AreSlotsWith : List Rule → ℕ → List Bool → Type 0
AreSlotsWith rules port slots = (slot : ℕ) → slot < 32 → slice_index_or slots slot false ≡ has_port rules slot port
