use Rattle.std.proofs.Common.{sym, ◌∙◌, ◌≡◌, length, rules}
use Rattle.flow_book.specs.Books.{book}
use Rattle.flow_book.proofs.Counts.{length_same}
use Rattle.flow_book.proofs.book.FlowBook.count.Goals as goal

pub returns-clause-answer : goal.returns-clause-answer
returns-clause-answer c calls s =
    let value : c.len.result ≡ length c.args.self.now.booked = search rules in
    value ∙ sym (length_same (book calls) c.args.self.now.booked s.same)
