-- The least place of the patterns that include a match. All of this is the proxy's own rule.
use Rattle.std.specs.Prelude.{ℕ, ◌≡◌, Bool, List, [], ◌∷◌, map, filter, position, Option, None, Some}
use Rattle.of10_model.specs.declared.pattern.Pattern.{Pattern}
use Rattle.of10_model.specs.Inclusion.{includes_of}
use Rattle.pattern_index.specs.declared.index.PatternIndex.{PatternIndex}
use Rattle.pattern_index.specs.Groups.{lesser_place, least_of}

-- a pattern that was put, and its place
pub record PlacedPattern : Type 0 where
  pub pattern : Pattern
  pub place : ℕ

-- the least of some places, none of none
abbrev pub least_among : List ℕ → Option ℕ
least_among [] = None
least_among (place ∷ places) = lesser_place (Some place) (least_among places)

-- the least place of the patterns that include a match
abbrev pub least_place : List PlacedPattern → Pattern → Option ℕ
least_place kept m = least_among (map (λ k. k.place) (filter (λ k. includes_of k.pattern m) kept))

-- an index stands for patterns where for each match it has their least place
abbrev pub StandsFor : List PlacedPattern → PatternIndex → Type 0
StandsFor kept index = (m : Pattern) → least_of index.groups.items m ≡ least_place kept m

-- an index finds, for what is asked as a match, the place of the first element that passes the test
pub record FindsFirst {A Q : Type 0} (ask : Q → Pattern) (test : A → Q → Bool) (xs : List A) (index : PatternIndex) : Type 0 where
  pub kept : List PlacedPattern
  pub stands : StandsFor kept index
  pub firsts : (q : Q) → least_place kept (ask q) ≡ position (λ x. test x q) xs
