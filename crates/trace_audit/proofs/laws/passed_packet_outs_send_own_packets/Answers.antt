use Rattle.trace_audit.proofs.Passing.{packet_out_passed}
use Rattle.trace_audit.proofs.laws.passed_packet_outs_send_own_packets.Goals as goal

pub returns : goal.returns
returns c = λ slices rules policy held slot m e. packet_out_passed slices rules policy held slot m e
