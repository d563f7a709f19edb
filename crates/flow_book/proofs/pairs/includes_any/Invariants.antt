use Rattle.std.proofs.Common.{◌≡◌, false}
use Rattle.std.specs.List.{AllWithin}
use Rattle.of10_model.specs.Inclusion.{includes_of}
use Rattle.flow_book.proofs.pairs.includes_any.Given as goal

abbrev pub invariant-loop-index : goal.invariant-loop-index
invariant-loop-index l = AllWithin (λ b. includes_of l.pattern b.pattern ≡ false) l.entries.booked 0 l.index
