use Rattle.std.proofs.Common.{sym, subst}
use Rattle.std.specs.Prelude.{IsPermutation, ◌∷◌}
use Rattle.std.proofs.lemmas.Bool.{both_ways}
use Rattle.std.proofs.lemmas.List.Sorted.{IsPermutation-insert}
use Rattle.flow_book.specs.Order.{ArePairsInOrder}
use Rattle.flow_book.specs.Books.{is_booked}
use Rattle.flow_book.proofs.Places.{is_booked-at, IsInOrder-insert}
use Rattle.flow_book.proofs.adding.settle.Goals as goal

pub unreachable-requires : goal.unreachable-requires
unreachable-requires c =
    both_ways (is_booked c.args.entry.pattern c.args.entry.priority c.args.entries.now.booked) c.requires.absent
    (is_booked-at c.args.entries.now.booked c.args.entry.pattern c.args.entry.priority c.in-Ok.field-0 c.requires.order c.place_for.ensures.normal c.in-Ok.ensures.found)

pub returns-clause-added : goal.returns-clause-added
returns-clause-added c =
    subst (λ items. IsPermutation (c.args.entry ∷ c.args.entries.now.booked) items) (sym c.insert.ensures.booked)
    (IsPermutation-insert c.args.entries.now.booked c.in-Err.place c.args.entry)

pub returns-clause-order : goal.returns-clause-order
returns-clause-order c =
    subst ArePairsInOrder (sym c.insert.ensures.booked)
    (IsInOrder-insert c.args.entries.now.booked c.in-Err.place c.args.entry c.requires.order c.place_for.ensures.normal c.in-Err.ensures.absent)
