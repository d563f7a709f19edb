use Rattle.std.proofs.Common.{sym, ◌∙◌, ◌≡◌, ◌+◌, leb, rules}
use Rattle.flow_book.specs.Books.{book, fits_in}
use Rattle.flow_book.proofs.Counts.{fits_same}
use Rattle.flow_book.proofs.book.FlowBook.fits.Goals as goal

pub returns-clause-answer : goal.returns-clause-answer
returns-clause-answer c calls s =
    let value : leb (c.from.result + c.from-2.result) c.from-3.result ≡ fits_in c.args.command c.args.pieces.now c.args.priority c.args.quota c.args.self.now.booked = search rules in
    value ∙ sym (fits_same (book calls) c.args.self.now.booked s.same c.args.command c.args.pieces.now c.args.priority c.args.quota)
