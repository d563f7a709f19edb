use Rattle.std.proofs.Common.{◌≡◌, ◌≤◌, ◌++◌, take, drop, map}
use Rattle.std.specs.Prelude.{All, count_by, vec_len}
use Rattle.of10_flow.specs.Tables.{touches, with_actions_of}
use Rattle.flow_table.proofs.changing.set_each.Given as goal

abbrev pub invariant-loop-entry : goal.invariant-loop-entry
invariant-loop-entry l =
    (l.entries ≡ map (with_actions_of l.m) (take l.entry-index l.fn.entries) ++ drop l.entry-index l.fn.entries)
    × All (λ list. list ≡ l.m.actions) l.lists.items
    × (count_by (touches l.m) (drop l.entry-index l.fn.entries) ≤ vec_len l.lists)
