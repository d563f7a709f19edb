use Rattle.std.proofs.Common.{refl}
use Rattle.switch_side.proofs.Making.{more_stands}
use Rattle.switch_side.proofs.applying.collect.Goals as goal

pub returns : goal.returns
returns c s number sight items stands is =
    more_stands s sight c.args.state.now _ stands (record { buffers = refl; bucket = refl; up = refl; miss_send_len = refl; moment = refl }) number c.args.number c.args.kind c.args.entries.now items is refl refl c.add_all.ensures
