use Rattle.std.proofs.Common.{sym}
use Rattle.std.proofs.lemmas.Bool.{ne_eqb}
use Rattle.flow_book.proofs.Standing.{booked_again_other}
use Rattle.flow_book.proofs.adding.book_again.Goals as goal

pub returns-else-command-eq-ADD-clause-items : goal.returns-else-command-eq-ADD-clause-items
returns-else-command-eq-ADD-clause-items c =
    sym (booked_again_other c.args.command c.args.pieces.now c.args.priority c.args.asked c.args.entries.now.booked (ne_eqb c.args.command 0 c.if-command-eq-ADD.false))
