use Rattle.std.proofs.Common.{refl}
use Rattle.switch_side.proofs.Making.{finish_stands}
use Rattle.switch_side.proofs.applying.finish.Goals as goal

pub returns : goal.returns
returns c s number sight items stands is =
    finish_stands s sight c.args.state.now _ stands (record { buffers = refl; bucket = refl; up = refl; miss_send_len = refl; moment = refl }) number c.args.number items is refl c.mark_done.ensures.stands c.finish.ensures.stands
