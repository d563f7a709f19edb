use Rattle.std.proofs.Common.{◌≡◌, false}
use Rattle.std.specs.List.{AllWithin}
use Rattle.flow_book.proofs.Searches.{shares}
use Rattle.flow_book.proofs.pairs.overlaps.Given as goal

abbrev pub invariant-loop-index : goal.invariant-loop-index
invariant-loop-index l = AllWithin (λ b. shares l.priority l.pieces b ≡ false) l.entries.booked 0 l.index
