-- The order of rules, and the rule that counts for a header. All of this is the proxy's own rule.
use Rattle.std.specs.Prelude.{ℕ, ◌≡◌, ◌≤◌, ◌==◌, leb, Bool, if◌then◌else◌, List, [], ◌∷◌, filter, AllPairs, IsPermutation, position, slice_get, Option, option_map, option_and_then, unwrap_or}
use Rattle.of10_model.specs.Header.{Header}
use Rattle.of10_model.specs.Pattern.{has}
use Rattle.flowspace.specs.declared.rules.Rule.{Rule}
use Rattle.flowspace.specs.Rules.{holds, Yields}

-- an element that stood before all of these goes before the first whose rank is no higher
abbrev pub placed : {A : Type 0} → (A → ℕ) → A → List A → List A
placed rank x [] = x ∷ []
placed rank x (next ∷ rest) = if leb (rank next) (rank x) then x ∷ (next ∷ rest) else next ∷ placed rank x rest

-- the elements by descending rank, and those of one rank as they stood
abbrev pub ranked : {A : Type 0} → (A → ℕ) → List A → List A
ranked rank [] = []
ranked rank (x ∷ rest) = placed rank x (ranked rank rest)

-- the rules in rule order: at descending priority, and among equals by the place in the file
abbrev pub in_order : List Rule → List Rule
in_order rules = ranked (λ rule. rule.priority) rules

-- the rules that hold on a switch, in rule order
abbrev pub rules_on : ℕ → List Rule → List Rule
rules_on datapath rules = in_order (filter (holds datapath) rules)

-- a rule has this priority
abbrev pub has_priority : ℕ → Rule → Bool
has_priority priority rule = rule.priority == priority

-- a rule has no lower priority than a later one
abbrev pub HasNoLower : Rule → Rule → Type 0
HasNoLower earlier later = later.priority ≤ earlier.priority

-- a list has the given rules, of two the earlier has no lower priority, and those of one priority stand as they were given
pub record IsRuleOrder (given ordered : List Rule) : Type 0 where
  pub same_rules : IsPermutation given ordered
  pub descending : AllPairs HasNoLower ordered
  pub file_order : (priority : ℕ) → filter (has_priority priority) ordered ≡ filter (has_priority priority) given

-- rules are accepted where each, in rule order, yields to those before it
abbrev pub IsAccepted : List Rule → Type 0
IsAccepted rules = AllPairs Yields (in_order rules)

-- the place of the first rule whose match has the header
abbrev pub first_of : List Rule → Header → Option ℕ
first_of rules h = position (λ rule. has rule.pattern h) rules

-- that rule itself
abbrev pub first_rule : List Rule → Header → Option Rule
first_rule rules h = option_and_then (slice_get rules) (first_of rules h)

-- the slot that may write the header: that of the first rule, none without one
abbrev pub writer_of : List Rule → Header → Option ℕ
writer_of rules h = option_and_then (λ rule. rule.writer) (first_rule rules h)

-- the slots that may read it, as bits: those of the first rule, none without one
abbrev pub readers_of : List Rule → Header → ℕ
readers_of rules h = unwrap_or (option_map (λ rule. rule.readers) (first_rule rules h)) 0
