use Rattle.std.proofs.Common.{◌≡◌}
use Rattle.std.specs.List.Sorted.{IsStrictlySortedBy}
use Rattle.std.specs.Map.{keys_of}
use Rattle.std.specs.String.{string_cmp}
use Rattle.toml.specs.View.{members_view, table_view}
use Rattle.policy_text.specs.Reading.{unknown_keys}
use Rattle.policy_text.proofs.known_keys.least_unknown.Given as goal

abbrev pub invariant-loop-key : goal.invariant-loop-key
invariant-loop-key l =
    IsStrictlySortedBy string_cmp (keys_of l.key-iterator)
    × (unknown_keys l.keys (members_view l.key-iterator) ≡ unknown_keys l.keys (table_view l.table))
