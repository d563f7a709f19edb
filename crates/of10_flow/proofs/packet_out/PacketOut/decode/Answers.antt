use Rattle.std.proofs.Common.{sym}
use Rattle.of10_flow.proofs.Viewed.{packet_out_begins}
use Rattle.of10_flow.proofs.packet_out.PacketOut.decode.Goals as goal

pub returns-in_err-copied-in-Ok-clause-memory : goal.returns-in_err-copied-in-Ok-clause-memory
returns-in_err-copied-in-Ok-clause-memory c = λ _. packet_out_begins c.args.frame.now c.in-Ok.view (sym c.in-Ok.ensures.exact)
