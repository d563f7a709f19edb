-- Messages that send a packet out of a switch (OpenFlow 1.0.0, section 5.3.6).
use Rattle.std.specs.Prelude.{ℕ, ◌+◌, ◌<◌, ◌≤◌, ◌^◌, nat_lt, Bool, true, if◌then◌else◌, List, [], ◌++◌, length, take, drop, is_ok, Result, Ok, Err}
use Rattle.std.specs.List.{All}
use Rattle.byteorder.specs.Endian.{big_bytes}
use Rattle.of10_model.specs.Normal.{number_at}
use Rattle.of10_action.specs.declared.fault.WireFault.{WireFault}
use Rattle.of10_action.specs.declared.fault.WireFault.TheVariants.{Length}
use Rattle.of10_action.specs.Actions.{IsAction, spelling}
use Rattle.of10_model.specs.Results.{◌>>=◌}
use Rattle.of10_action.specs.Reading.{action_at, read_all}
use Rattle.of10_ctl.specs.declared.kind.TheConstants.{PACKET_OUT}
use Rattle.of10_ctl.specs.Frames.{message_of}
use Rattle.of10_flow.specs.declared.packet_out.PacketOut.{PacketOut}

-- each field but the transaction id lies in the range of its place in the message (section 5.3.6)
pub record IsRangedOut (m : PacketOut) : Type 0 where
  pub buffer : m.buffer < 2 ^ 32
  pub in_port : m.in_port < 2 ^ 16
  pub actions : All IsAction m.actions

-- so does each field, and the message fits its length field
pub record IsPacketOut (m : PacketOut) : Type 0 where
  pub xid : m.xid < 2 ^ 32
  pub ranged : IsRangedOut m
  pub fits : 16 + length (spelling m.actions) + length m.payload ≤ 65535

-- the bytes of a packet-out: buffer, port, the length of the actions, the actions and the packet (section 5.3.6)
unfoldable pub spell_packet_out : PacketOut → List ℕ
spell_packet_out m =
    message_of PACKET_OUT m.xid (big_bytes 4 m.buffer ++ big_bytes 2 m.in_port ++ big_bytes 2 (length (spelling m.actions)) ++ spelling m.actions ++ m.payload)

-- what the bytes of a packet-out say, or the first fault: shorter than its fields, or than its fields and its actions, then the actions' faults (section 5.3.6)
unfoldable pub read_packet_out : List ℕ → Result PacketOut WireFault
read_packet_out bytes =
    let size = number_at bytes 14 2 in
    if nat_lt (length bytes) 16 then Err (Length (length bytes))
    else if nat_lt (length bytes) (16 + size) then Err (Length (length bytes))
    else do
      actions ← read_all (take size (drop 16 bytes))
      Ok (record {
        xid = number_at bytes 4 4;
        buffer = number_at bytes 8 4;
        in_port = number_at bytes 12 2;
        actions = actions;
        payload = drop (16 + size) bytes;
      })

-- bytes of which the first action is right, where there is one
abbrev pub begins_well : List ℕ → Bool
begins_well [] = true
begins_well bytes = is_ok (action_at bytes)
