-- Messages that carry a packet from a switch to its controller (OpenFlow 1.0.0, section 5.4.1).
use Rattle.std.specs.Prelude.{ℕ, ◌+◌, ◌<◌, ◌≤◌, ◌^◌, nat_lt, if◌then◌else◌, List, ◌++◌, length, drop, Result, Ok, Err}
use Rattle.byteorder.specs.Endian.{big_bytes}
use Rattle.of10_model.specs.Normal.{number_at}
use Rattle.of10_action.specs.declared.fault.WireFault.{WireFault}
use Rattle.of10_action.specs.declared.fault.WireFault.TheVariants.{Length}
use Rattle.of10_action.specs.Actions.{padding}
use Rattle.of10_ctl.specs.declared.kind.TheConstants.{PACKET_IN}
use Rattle.of10_ctl.specs.Frames.{message_of}
use Rattle.of10_flow.specs.declared.packet_in.PacketIn.{PacketIn}
use Rattle.of10_flow.specs.declared.packet_in.PacketInView.{PacketInView}

-- what a view of a packet-in shows
abbrev pub packet_of : PacketInView → PacketIn
packet_of view = record { xid = view.xid; buffer = view.buffer; total_len = view.total_len; in_port = view.in_port; reason = view.reason; payload = view.payload.now }

-- each field lies in the range of its place in the message, and the message fits its length field (section 5.4.1)
pub record IsPacketIn (m : PacketIn) : Type 0 where
  pub xid : m.xid < 2 ^ 32
  pub buffer : m.buffer < 2 ^ 32
  pub total_len : m.total_len < 2 ^ 16
  pub in_port : m.in_port < 2 ^ 16
  pub reason : m.reason < 256
  pub fits : 18 + length m.payload ≤ 65535

-- the bytes of a packet-in: four numbers, a byte of padding and the packet's bytes (section 5.4.1)
unfoldable pub spell_packet_in : PacketIn → List ℕ
spell_packet_in m =
    message_of PACKET_IN m.xid (big_bytes 4 m.buffer ++ big_bytes 2 m.total_len ++ big_bytes 2 m.in_port ++ big_bytes 1 m.reason ++ padding 1 ++ m.payload)

-- what the bytes of a packet-in say, padding disregarded; one shorter than its fields has no such length (section 5.4.1)
unfoldable pub read_packet_in : List ℕ → Result PacketIn WireFault
read_packet_in bytes =
    if nat_lt (length bytes) 18 then Err (Length (length bytes))
    else Ok (record {
      xid = number_at bytes 4 4;
      buffer = number_at bytes 8 4;
      total_len = number_at bytes 12 2;
      in_port = number_at bytes 14 2;
      reason = number_at bytes 16 1;
      payload = drop 18 bytes;
    })
