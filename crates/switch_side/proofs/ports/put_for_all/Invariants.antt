use Rattle.std.proofs.Common.{◌≡◌, ◌++◌, drop}
use Rattle.switch_side.specs.Carrying.{status_for}
use Rattle.switch_side.specs.Dispatches.{said_from}
use Rattle.switch_side.proofs.ports.put_for_all.Given as goal

abbrev pub invariant-loop-place : goal.invariant-loop-place
invariant-loop-place l =
    l.to_slices.items ++ said_from (status_for l.policy.rules l.status) l.place (drop l.place l.states) ≡ said_from (status_for l.policy.rules l.status) 0 l.states
