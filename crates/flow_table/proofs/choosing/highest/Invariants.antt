use Rattle.std.proofs.Common.{◌≡◌, ℕ, leb, take}
use Rattle.std.specs.List.{list_all}
use Rattle.of10_flow.specs.Tables.{having}
use Rattle.flow_table.proofs.choosing.highest.Given as goal

abbrev pub invariant-loop-entry : goal.invariant-loop-entry
invariant-loop-entry l = (p : ℕ) → leb l.highest p ≡ list_all (λ e. leb e.priority p) (having l.h (take l.entry-index l.entries))
