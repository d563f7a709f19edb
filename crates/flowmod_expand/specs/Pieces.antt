-- What of a match a slice may write on a switch. All of this is the proxy's own rule.
use Rattle.std.specs.Prelude.{ℕ, not, List, [], ◌∷◌, map, filter, filter_map}
use Rattle.of10_model.specs.declared.pattern.Pattern.{Pattern}
use Rattle.of10_model.specs.Same.{is_same}
use Rattle.of10_model.specs.Meet.{meet_of}
use Rattle.flowspace.specs.declared.rules.Rule.{Rule}
use Rattle.flowspace.specs.Rules.{is_written_by}

-- the matches in their order, of those that are one the first alone
abbrev pub without_repeats : List Pattern → List Pattern
without_repeats [] = []
without_repeats (m ∷ rest) = m ∷ filter (λ other. not (is_same m other)) (without_repeats rest)

-- the meets of a match with the given ones in their order, without empty ones and without repeats
abbrev pub pieces_within : List Pattern → Pattern → List Pattern
pieces_within given m = without_repeats (filter_map (meet_of m) given)

-- the matches of the rules that a slice writes, in rule order
abbrev pub writes_of : List Rule → ℕ → List Pattern
writes_of rules slot = map (λ rule. rule.pattern) (filter (is_written_by slot) rules)

-- what a slice may write of a match, one piece for each of its write rules that shares a header with it, in rule order and without repeats
abbrev pub pieces_of : List Rule → ℕ → Pattern → List Pattern
pieces_of rules slot m = pieces_within (writes_of rules slot) m
