-- Messages that change a flow table (OpenFlow 1.0.0, section 5.3.3).
use Rattle.std.specs.Prelude.{ℕ, ◌+◌, ◌<◌, ◌≤◌, ◌^◌, nat_lt, if◌then◌else◌, List, ◌++◌, length, drop, Result, Ok, Err}
use Rattle.std.specs.List.{All}
use Rattle.byteorder.specs.Endian.{big_bytes}
use Rattle.of10_model.specs.Normal.{number_at, match_at, IsNormal}
use Rattle.of10_model.specs.Spelling.{Spell}
use Rattle.of10_action.specs.declared.action.Action.{Action}
use Rattle.of10_action.specs.declared.fault.WireFault.{WireFault}
use Rattle.of10_action.specs.declared.fault.WireFault.TheVariants.{Length}
use Rattle.of10_action.specs.Actions.{IsAction, spelling}
use Rattle.of10_model.specs.Results.{◌>>=◌}
use Rattle.of10_action.specs.Reading.{read_all}
use Rattle.of10_ctl.specs.declared.kind.TheConstants.{FLOW_MOD}
use Rattle.of10_ctl.specs.Frames.{message_of}
use Rattle.of10_flow.specs.declared.flow_mod.FlowMod.{FlowMod}
use Rattle.of10_flow.specs.declared.flow_mod.FlowModParts.{FlowModParts}

-- what a flow-mod in parts shows
abbrev pub shown_flow_mod : FlowModParts → FlowMod
shown_flow_mod parts =
    record {
      xid = parts.xid;
      pattern = parts.pattern.now;
      cookie = parts.cookie;
      command = parts.command;
      idle = parts.idle;
      hard = parts.hard;
      priority = parts.priority;
      buffer = parts.buffer;
      out_port = parts.out_port;
      flags = parts.flags;
      actions = parts.actions.now;
    }

-- each field but the transaction id lies in the range of its place in the message, and the match is normal (section 5.3.3)
pub record IsRanged (m : FlowMod) : Type 0 where
  pub pattern : IsNormal m.pattern
  pub cookie : m.cookie < 2 ^ 64
  pub command : m.command < 2 ^ 16
  pub idle : m.idle < 2 ^ 16
  pub hard : m.hard < 2 ^ 16
  pub priority : m.priority < 2 ^ 16
  pub buffer : m.buffer < 2 ^ 32
  pub out_port : m.out_port < 2 ^ 16
  pub flags : m.flags < 2 ^ 16
  pub actions : All IsAction m.actions

-- so does each field, and the message fits its length field
pub record IsFlowMod (m : FlowMod) : Type 0 where
  pub xid : m.xid < 2 ^ 32
  pub ranged : IsRanged m
  pub fits : 72 + length (spelling m.actions) ≤ 65535

-- the bytes of a flow-mod: the match, eight numbers and the actions (section 5.3.3)
unfoldable pub spell_flow_mod : FlowMod → List ℕ
spell_flow_mod m =
    message_of FLOW_MOD m.xid (Spell m.pattern ++ big_bytes 8 m.cookie ++ big_bytes 2 m.command ++ big_bytes 2 m.idle ++ big_bytes 2 m.hard
    ++ big_bytes 2 m.priority ++ big_bytes 4 m.buffer ++ big_bytes 2 m.out_port ++ big_bytes 2 m.flags ++ spelling m.actions)

-- the fields of a flow-mod at their places, the match in normal form, with these actions (section 5.3.3)
unfoldable pub flow_mod_with : List Action → List ℕ → FlowMod
flow_mod_with actions bytes =
    record {
      xid = number_at bytes 4 4;
      pattern = match_at bytes 8;
      cookie = number_at bytes 48 8;
      command = number_at bytes 56 2;
      idle = number_at bytes 58 2;
      hard = number_at bytes 60 2;
      priority = number_at bytes 62 2;
      buffer = number_at bytes 64 4;
      out_port = number_at bytes 68 2;
      flags = number_at bytes 70 2;
      actions = actions;
    }

-- what the bytes of a flow-mod say, or the first fault: shorter than the fields, then the actions' faults (section 5.3.3)
unfoldable pub read_flow_mod : List ℕ → Result FlowMod WireFault
read_flow_mod bytes =
    if nat_lt (length bytes) 72 then Err (Length (length bytes))
    else do
      actions ← read_all (drop 72 bytes)
      Ok (flow_mod_with actions bytes)
