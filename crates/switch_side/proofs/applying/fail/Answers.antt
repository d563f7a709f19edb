use Rattle.std.proofs.Common.{refl}
use Rattle.switch_side.proofs.Making.{failure_stands, released_book}
use Rattle.switch_side.proofs.applying.fail.Goals as goal

pub returns-in-Some-clause-stands : goal.returns-in-Some-clause-stands
returns-in-Some-clause-stands c s number sight items stands is =
    failure_stands s sight c.args.state.now _ stands (record { buffers = refl; bucket = refl; up = refl; miss_send_len = refl; moment = refl }) number c.args.number c.args.pair items is
    c.mark_error.ensures.stands c.finish.ensures.stands
    (λ request same calls book. released_book request c.args.number c.in-Some.pair.0 c.in-Some.pair.1 c.args.pair calls _ c.in-Some.is same (c.release.ensures calls book))
