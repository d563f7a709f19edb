use Rattle.std.proofs.Common.{sym, ◌∙◌}
use Rattle.flow_book.specs.Books.{book}
use Rattle.flow_book.proofs.Counts.{newcomers_same}
use Rattle.flow_book.proofs.book.FlowBook.newcomers.Goals as goal

pub returns-clause-answer : goal.returns-clause-answer
returns-clause-answer c calls s =
    c.newcomers.ensures.value
    ∙ sym (newcomers_same (book calls) c.self.inside.entries.booked (rw (← c.self.view_is) at s).same c.args.command c.args.pieces.now c.args.priority)
