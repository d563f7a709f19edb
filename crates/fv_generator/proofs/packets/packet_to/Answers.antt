use Rattle.fv_generator.specs.Packets.{packet_to}
use Rattle.fv_generator.proofs.Pieces.{joined}
use Rattle.fv_generator.proofs.packets.packet_to.Goals as goal

pub returns : goal.returns
unfolding packet_to
returns c = joined 38 _ _ c.set_u16.new.out c.set_u16.ensures.written c.set_u16.ensures.behind
