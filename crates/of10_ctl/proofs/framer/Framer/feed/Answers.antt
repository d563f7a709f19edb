use Rattle.std.proofs.Common.{◌≡◌, ◌∙◌, false, sym}
use Rattle.of10_ctl.proofs.Standing.{fed_behind, fed_on, stands_behind}
use Rattle.of10_ctl.proofs.framer.Framer.feed.Goals as goal

pub returns-clause-value : goal.returns-clause-value
returns-clause-value c =
    let unended : c.args.self.now.ended ≡ false = rw (sym c.self.view_is) c.if-self.false in
    rw (c.in_ok-extend_from_slice.ensures.items)
    (fed_behind c.self-2.inside.read c.self-2.inside.bytes.items c.args.piece.now c.self-2.inside.ended c.args.self.now c.self-2.invariant unended (c.self-2.view_is ∙ c.make_room.ensures))

pub returns-clause-stands : goal.returns-clause-stands
returns-clause-stands c = λ fed given stands.
    let unended : c.args.self.now.ended ≡ false = rw (sym c.self.view_is) c.if-self.false in
    rw (returns-clause-value c ∙ fed_on c.args.self.now c.args.piece.now unended) (stands_behind c.args.self.now c.args.piece.now fed given stands)
