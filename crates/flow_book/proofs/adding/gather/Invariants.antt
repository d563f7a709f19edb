use Rattle.std.proofs.Common.{◌≡◌, ◌≤◌, take}
use Rattle.std.specs.Prelude.{vec_len, vec_capacity, All}
use Rattle.of10_model.specs.Normal.{IsNormal}
use Rattle.flow_book.specs.Books.{newcomers_in}
use Rattle.flow_book.proofs.Steps.{fresh_of}
use Rattle.flow_book.proofs.adding.gather.Given as goal

abbrev pub invariant-loop-piece : goal.invariant-loop-piece
invariant-loop-piece l =
    (l.fresh.items ≡ fresh_of l.command (take l.piece-index l.pieces) l.priority l.asked l.number l.entries.booked)
    × All (λ b. IsNormal b.pattern) l.fresh.items
    × (vec_len l.fresh ≡ newcomers_in l.command (take l.piece-index l.pieces) l.priority l.entries.booked)
    × (vec_capacity l.fn.fresh ≤ vec_capacity l.fresh)
