-- How a switch is set (OpenFlow 1.0.0, section 5.3.2): as it is read, and as it is spelled.
use Rattle.std.specs.Prelude.{ℕ, ◌<◌, ◌^◌, ◌==◌, if◌then◌else◌, List, ◌++◌, length, Result, Ok, Err}
use Rattle.byteorder.specs.Endian.{big_bytes}
use Rattle.of10_model.specs.Normal.{number_at}
use Rattle.of10_action.specs.declared.fault.WireFault.{WireFault}
use Rattle.of10_action.specs.declared.fault.WireFault.TheVariants.{Length}
use Rattle.of10_ctl.specs.declared.kind.TheConstants.{GET_CONFIG_REPLY, SET_CONFIG}
use Rattle.of10_ctl.specs.Frames.{message_of}
use Rattle.of10_message.specs.declared.config.SwitchConfig.{SwitchConfig}

-- both numbers of how a switch is set have two bytes
pub record IsConfig (config : SwitchConfig) : Type 0 where
  pub flags : config.flags < 2 ^ 16
  pub miss_send_len : config.miss_send_len < 2 ^ 16

-- the two numbers behind a message's head
abbrev pub config_in : List ℕ → SwitchConfig
config_in bytes = record { flags = number_at bytes 8 2; miss_send_len = number_at bytes 10 2 }

-- what a message says of how a switch is set, or its length where it doesn't have just these two numbers
abbrev pub read_config : List ℕ → Result SwitchConfig WireFault
read_config bytes = if length bytes == 12 then Ok (config_in bytes) else Err (Length (length bytes))

-- the body of both messages on how a switch is set
abbrev pub config_bytes : SwitchConfig → List ℕ
config_bytes config = big_bytes 2 config.flags ++ big_bytes 2 config.miss_send_len

-- a switch is to be set so
abbrev pub spell_set_config : ℕ → SwitchConfig → List ℕ
spell_set_config xid config = message_of SET_CONFIG xid (config_bytes config)

-- a switch is set so
abbrev pub spell_config_reply : ℕ → SwitchConfig → List ℕ
spell_config_reply xid config = message_of GET_CONFIG_REPLY xid (config_bytes config)
