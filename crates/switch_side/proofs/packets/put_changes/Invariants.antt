use Rattle.std.proofs.Common.{◌≡◌, ◌++◌, drop}
use Rattle.switch_side.specs.Carrying.{change_for, changes_from}
use Rattle.switch_side.proofs.packets.put_changes.Given as goal

abbrev pub invariant-loop-place : goal.invariant-loop-place
invariant-loop-place l =
    l.changes.items ++ changes_from (change_for l.audience l.physical l.header) l.place (drop l.place l.states) ≡ changes_from (change_for l.audience l.physical l.header) 0 l.states
