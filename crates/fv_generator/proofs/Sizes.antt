-- How long the messages are.
use Rattle.std.proofs.Common.{ℕ, ◌≡◌, ◌≤◌, Bool, true, false, if◌then◌else◌, length, refl, arith}
use Rattle.of10_model.specs.Spelling.{Spell}
use Rattle.of10_port.specs.Features.{spell_features, features_front}
use Rattle.of10_flow.specs.PacketIns.{spell_packet_in}
use Rattle.of10_flow.specs.PacketOuts.{spell_packet_out}
use Rattle.of10_flow.specs.FlowMods.{spell_flow_mod}
use Rattle.fv_generator.specs.Packets.{packet_to}
use Rattle.fv_generator.specs.Messages.{drawn_packet_in, drawn_flow_mod, drawn_packet_out, drawn_request, barrier}
use Rattle.fv_generator.specs.Made.{features_message}

pub features_size : length features_message ≡ 224
unfolding features_message spell_features features_front
features_size = refl

pub packet_in_size : (state : ℕ) → length (drawn_packet_in state).0 ≡ 72
unfolding spell_packet_in packet_to
packet_in_size state = refl

flow_mod_size : (xid state : ℕ) → length (drawn_flow_mod xid state).0 ≡ 80
unfolding spell_flow_mod Spell
flow_mod_size xid state = refl

packet_out_size : (xid state : ℕ) → length (drawn_packet_out xid state).0 ≡ 78
unfolding spell_packet_out packet_to
packet_out_size xid state = refl

barrier_size : (xid state : ℕ) → length (barrier xid state).0 ≡ 8
barrier_size xid state = refl

-- whichever message it is
any_size : (is_flow_mod is_packet_out : Bool) (xid state : ℕ)
    → length ((if is_flow_mod then drawn_flow_mod xid else if is_packet_out then drawn_packet_out xid else barrier xid) state).0 ≤ 80
any_size true other xid state = rw (flow_mod_size xid state) (omega arith)
any_size false true xid state = rw (packet_out_size xid state) (omega arith)
any_size false false xid state = rw (barrier_size xid state) (omega arith)

pub request_size : (kind xid state : ℕ) → length (drawn_request kind xid state).0 ≤ 80
request_size kind xid state = any_size _ _ xid state
