use Rattle.std.proofs.Common.{refl}
use Rattle.switch_side.proofs.Holding.{gift_stands}
use Rattle.switch_side.proofs.applying.give.Goals as goal

pub returns : goal.returns
returns c s number sight items stands is =
    gift_stands s number sight items c.args.physical c.args.header c.args.state.now (record c.args.state.now { buffers = c.lose.new.self }) _ is
    (record { xids = refl; collections = refl; bucket = refl; book = refl; up = refl; miss_send_len = refl; moment = refl })
    (record { xids = refl; collections = refl; bucket = refl; book = refl; up = refl; miss_send_len = refl; moment = refl })
    stands c.lose.ensures.given c.lose.ensures.held c.give.ensures.given c.give.ensures.held
