use Rattle.std.proofs.Common.{◌+◌, ◌^◌, ◌<◌, ◌≤◌, min, length, ap, ◌∙◌, arith}
use Rattle.std.specs.Prelude.{vec_capacity}
use Rattle.std.proofs.lemmas.List.{length-map}
use Rattle.flow_book.specs.Books.{newcomers_in, booked_again}
use Rattle.flow_book.proofs.Standing.{unbooked_all, added_all, stands-added}
use Rattle.flow_book.proofs.book.FlowBook.added.Goals as goal

pub settle_all-requires-clause-few : goal.settle_all-requires-clause-few
settle_all-requires-clause-few c =
    let few : length c.self.inside.entries.booked + newcomers_in c.args.command c.args.pieces.now c.args.priority c.self.inside.entries.booked < 2 ^ 32 = rw (← c.self.view_is) at c.requires.count in
    let long = ap length c.book_again.ensures.items ∙ length-map c.self.inside.entries.booked (booked_again c.args.command c.args.pieces.now c.args.priority c.args.asked) in
    omega (arith, few, long, c.gather.ensures.len)

pub settle_all-requires-clause-unbooked : goal.settle_all-requires-clause-unbooked
settle_all-requires-clause-unbooked c =
    unbooked_all c.args.command c.args.pieces.now c.args.priority c.args.asked c.args.number c.self.inside.entries.booked c.gather.new.fresh.items c.book_again.new.entries.booked
    c.gather.ensures.items c.book_again.ensures.items c.requires.distinct c.gather.ensures.normal

pub settle_all-requires-clause-room : goal.settle_all-requires-clause-room
settle_all-requires-clause-room c =
    let need : newcomers_in c.args.command c.args.pieces.now c.args.priority c.self.inside.entries.booked ≤ min c.self.inside.entries.room (vec_capacity c.self.inside.fresh) = rw (← c.self.view_is) at c.requires.room in
    omega (arith, need, c.gather.ensures.len, c.book_again.ensures.room)

pub invariant_of-self : goal.invariant_of-self
invariant_of-self c =
    let few : length c.self.inside.entries.booked + newcomers_in c.args.command c.args.pieces.now c.args.priority c.self.inside.entries.booked < 2 ^ 32 = rw (← c.self.view_is) at c.requires.count in
    let long = ap length c.book_again.ensures.items ∙ length-map c.self.inside.entries.booked (booked_again c.args.command c.args.pieces.now c.args.priority c.args.asked) in
    (c.settle_all.ensures.order, omega (arith, few, long, c.gather.ensures.len, c.settle_all.ensures.len), c.settle_all.ensures.empty, c.settle_all.ensures.emptied)

pub returns-clause-stands : goal.returns-clause-stands
returns-clause-stands c calls s =
    stands-added c.args.command c.args.pieces.now c.args.priority c.args.asked c.args.number calls c.self.inside.entries.booked _ (rw (← c.self.view_is) at s).same
    (added_all c.args.command c.args.pieces.now c.args.priority c.args.asked c.args.number c.self.inside.entries.booked c.gather.new.fresh.items c.book_again.new.entries.booked
    c.gather.ensures.items c.book_again.ensures.items c.settle_all.new.entries.booked c.settle_all.ensures.added)

pub returns-clause-count : goal.returns-clause-count
returns-clause-count c =
    let long = ap length c.book_again.ensures.items ∙ length-map c.self.inside.entries.booked (booked_again c.args.command c.args.pieces.now c.args.priority c.args.asked) in
    rw (← c.self.view_is) (omega (arith, long, c.gather.ensures.len, c.settle_all.ensures.len))

pub returns-clause-room : goal.returns-clause-room
returns-clause-room c =
    let need : newcomers_in c.args.command c.args.pieces.now c.args.priority c.self.inside.entries.booked ≤ min c.self.inside.entries.room (vec_capacity c.self.inside.fresh) = rw (← c.self.view_is) at c.requires.room in
    rw (← c.self.view_is) (omega (arith, need, c.gather.ensures.len, c.gather.ensures.capacity, c.book_again.ensures.room, c.settle_all.ensures.room, c.settle_all.ensures.fresh_capacity))
