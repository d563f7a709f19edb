use Rattle.std.proofs.Common.{sym, ◌∙◌, subst}
use Rattle.flow_book.specs.Order.{ArePairsInOrder}
use Rattle.flow_book.specs.Store.{no_pair}
use Rattle.flow_book.specs.Adding.{with_asked}
use Rattle.flow_book.proofs.Places.{set_pair, with_asked-gap, IsInOrder-map, KeepsPairs-with_asked}
use Rattle.flow_book.proofs.adding.book_pair_again.Goals as goal

pub returns-in-Ok-clause-items : goal.returns-in-Ok-clause-items
returns-in-Ok-clause-items c =
    c.set_asked.ensures.booked no_pair
    ∙ set_pair c.args.entries.now.booked c.args.piece.now c.args.priority c.in-Ok.place c.args.asked no_pair c.requires c.place_of.ensures.normal c.in-Ok.ensures.found

pub returns-in-Ok-clause-order : goal.returns-in-Ok-clause-order
returns-in-Ok-clause-order c =
    subst ArePairsInOrder (sym (returns-in-Ok-clause-items c))
    (IsInOrder-map (with_asked c.args.piece.now c.args.priority c.args.asked) (KeepsPairs-with_asked c.args.piece.now c.args.priority c.args.asked) c.args.entries.now.booked c.requires)

pub returns-in_default-clause-items : goal.returns-in_default-clause-items
returns-in_default-clause-items c = sym (with_asked-gap c.args.entries.now.booked c.args.piece.now c.args.priority c.in_default.field-0 c.args.asked c.in_default.ensures.absent)
