-- Messages that report an entry that a switch removed (OpenFlow 1.0.0, section 5.4.2).
use Rattle.std.specs.Prelude.{ℕ, ◌==◌, ◌<◌, ◌^◌, if◌then◌else◌, List, ◌++◌, length, Result, Ok, Err}
use Rattle.byteorder.specs.Endian.{big_bytes}
use Rattle.of10_model.specs.Normal.{number_at, match_at, IsNormal}
use Rattle.of10_model.specs.Spelling.{Spell}
use Rattle.of10_action.specs.declared.fault.WireFault.{WireFault}
use Rattle.of10_action.specs.declared.fault.WireFault.TheVariants.{Length}
use Rattle.of10_action.specs.Actions.{padding}
use Rattle.of10_ctl.specs.declared.kind.TheConstants.{FLOW_REMOVED}
use Rattle.of10_ctl.specs.Frames.{message_of}
use Rattle.of10_flow.specs.declared.flow_removed.FlowRemoved.{FlowRemoved}
use Rattle.of10_flow.specs.declared.flow_removed.FlowRemovedView.{FlowRemovedView}

-- each field lies in the range of its place in the message (section 5.4.2)
pub record IsFlowRemoved (m : FlowRemoved) : Type 0 where
  pub xid : m.xid < 2 ^ 32
  pub pattern : IsNormal m.pattern
  pub cookie : m.cookie < 2 ^ 64
  pub priority : m.priority < 2 ^ 16
  pub reason : m.reason < 256
  pub seconds : m.seconds < 2 ^ 32
  pub nanos : m.nanos < 2 ^ 32
  pub idle : m.idle < 2 ^ 16
  pub packets : m.packets < 2 ^ 64
  pub bytes : m.bytes < 2 ^ 64

-- the 88 bytes of a flow-removed message: the match and eight numbers, padding zero (section 5.4.2)
unfoldable pub spell_flow_removed : FlowRemoved → List ℕ
spell_flow_removed m =
    message_of FLOW_REMOVED m.xid (Spell m.pattern ++ big_bytes 8 m.cookie ++ big_bytes 2 m.priority ++ big_bytes 1 m.reason ++ padding 1
    ++ big_bytes 4 m.seconds ++ big_bytes 4 m.nanos ++ big_bytes 2 m.idle ++ padding 2 ++ big_bytes 8 m.packets ++ big_bytes 8 m.bytes)

-- what the 88 bytes of a flow-removed message say, its match in normal form and padding disregarded (section 5.4.2)
abbrev pub removal_in : List ℕ → FlowRemoved
removal_in bytes = record {
  xid = number_at bytes 4 4;
  pattern = match_at bytes 8;
  cookie = number_at bytes 48 8;
  priority = number_at bytes 56 2;
  reason = number_at bytes 58 1;
  seconds = number_at bytes 60 4;
  nanos = number_at bytes 64 4;
  idle = number_at bytes 68 2;
  packets = number_at bytes 72 8;
  bytes = number_at bytes 80 8;
}

-- what a view of a flow-removed message shows
abbrev pub removal_of : FlowRemovedView → FlowRemoved
removal_of view = removal_in view.bytes.now

-- what the bytes of a flow-removed message say; it has 88 bytes and no other length (section 5.4.2)
unfoldable pub read_flow_removed : List ℕ → Result FlowRemoved WireFault
read_flow_removed bytes =
    if length bytes == 88 then Ok (removal_in bytes)
    else Err (Length (length bytes))
