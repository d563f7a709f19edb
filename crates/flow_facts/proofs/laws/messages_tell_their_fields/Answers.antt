use Rattle.of10_flow.proofs.Again.{flow_mod_told, packet_out_told}
use Rattle.flow_facts.proofs.laws.messages_tell_their_fields.Goals as goal

pub returns : goal.returns
returns c = record { flow_mods = flow_mod_told; packet_outs = packet_out_told }
