-- Patterns by the fields that they constrain. All of this is the proxy's own rule.
use Rattle.std.specs.Prelude.{ℕ, ◌≡◌, if◌then◌else◌, List, [], ◌∷◌, ◌++◌, ◌<◌, ◌⊎◌, length, slice_index_or, slice_set, fold, min, Option, Some, None}
use Rattle.std.specs.BTreeMap.{get}
use Rattle.of10_model.specs.declared.pattern.Pattern.{Pattern}
use Rattle.of10_model.specs.Inclusion.{includes_of}
use Rattle.pattern_index.specs.declared.group.Group.{Group}
use Rattle.pattern_index.specs.Keys.{gives, key_of, kept_cmp}

-- what a group has for a match: the place that is kept for its values in the fields of the group, if it constrains them all
abbrev pub finds : Group → Pattern → Option ℕ
finds group m = if gives group.shape m then get kept_cmp group.places (record { value = key_of group.shape m }) else None

-- the lesser of two places, of which either may be missing
abbrev pub lesser_place : Option ℕ → Option ℕ → Option ℕ
lesser_place None b = b
lesser_place (Some x) None = Some x
lesser_place (Some x) (Some y) = Some (min x y)

-- the least place that any group has for a match
abbrev pub least_of : List Group → Pattern → Option ℕ
least_of groups m = fold (λ least group. lesser_place least (finds group m)) None groups

-- a group that had these places, or none, and in which a pattern was put
abbrev pub HasPut : Pattern → ℕ → (Pattern → Option ℕ) → Group → Type 0
HasPut r place before after = (m : Pattern) → finds after m ≡ (if includes_of r m then lesser_place (Some place) (before m) else before m)

-- a group has for each match what it had
abbrev pub HasAsBefore : Group → Group → Type 0
HasAsBefore old new = (m : Pattern) → finds new m ≡ finds old m

-- groups in one of which a pattern was put, or which got a group of it alone
abbrev pub HavePut : Pattern → ℕ → List Group → List Group → Type 0
HavePut r place old new =
    ((at : ℕ) × (group : Group) × (after : Group) × (at < length old) × (slice_index_or old at group ≡ group) × HasPut r place (finds group) after × (new ≡ slice_set old at after))
    ⊎ ((after : Group) × HasPut r place (λ m. None) after × (new ≡ old ++ after ∷ []))

-- groups have for each match what they had
abbrev pub HaveAsBefore : List Group → List Group → Type 0
HaveAsBefore old new = (m : Pattern) → least_of new m ≡ least_of old m
