-- Errors that a switch sends (OpenFlow 1.0.0, section 5.4.4), and the flow-mod that one may carry.
use Rattle.std.specs.Prelude.{ℕ, ◌==◌, ◌&&◌, nat_lt, leb, Bool, if◌then◌else◌, List, length, drop, Option, Some, None, Result, Ok, Err}
use Rattle.of10_model.specs.Normal.{number_at, match_at}
use Rattle.of10_model.specs.declared.pattern.Pattern.{Pattern}
use Rattle.of10_action.specs.declared.fault.WireFault.{WireFault}
use Rattle.of10_action.specs.declared.fault.WireFault.TheVariants.{Length}
use Rattle.of10_ctl.specs.declared.kind.TheConstants.{FLOW_MOD}
use Rattle.of10_message.specs.declared.switch_error.ErrorView.{ErrorView}
use Rattle.of10_message.specs.Heads.{version_of, is_kind, xid_of}

-- what an error says: what kind of fault it is, and the message at fault, or its first bytes
pub record ErrorMessage : Type 0 where
  pub class : ℕ
  pub code : ℕ
  pub cause : List ℕ

-- what a view of an error shows
abbrev pub error_of_view : ErrorView → ErrorMessage
error_of_view view = record { class = view.class; code = view.code; cause = view.cause.now }

-- what the bytes of an error say, or their length where they are shorter than its fields
unfoldable pub read_error : List ℕ → Result ErrorMessage WireFault
read_error bytes =
    if nat_lt (length bytes) 12 then Err (Length (length bytes))
    else Ok (record { class = number_at bytes 8 2; code = number_at bytes 10 2; cause = drop 12 bytes })

-- the bytes begin as a flow-mod under a transaction id: 64 of them, which have its match and its priority. How long it says that it is, and how its actions are, isn't looked at (this proxy's own rule)
abbrev pub begins_flow_mod : ℕ → List ℕ → Bool
begins_flow_mod xid bytes = leb 64 (length bytes) && version_of bytes == 1 && is_kind FLOW_MOD bytes && xid_of bytes == xid

-- the match, in normal form, and the priority of that flow-mod (section 5.3.3)
unfoldable pub pair_in : ℕ → List ℕ → Option (Pattern × ℕ)
pair_in xid bytes = if begins_flow_mod xid bytes then Some (match_at bytes 8, number_at bytes 62 2) else None
