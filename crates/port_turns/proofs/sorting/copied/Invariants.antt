use Rattle.std.proofs.Common.{◌≡◌, take}
use Rattle.port_turns.proofs.sorting.copied.Given as goal

abbrev pub invariant-loop-raw : goal.invariant-loop-raw
invariant-loop-raw l = l.ports.items ≡ take l.raw-index l.raws
