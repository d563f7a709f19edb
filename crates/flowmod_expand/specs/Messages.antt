-- The messages that are sent for a flow-mod, one for each of its pieces. Which fields they have is the proxy's own rule.
use Rattle.std.specs.Prelude.{ℕ, ◌≡◌, ◌+◌, ◌==◌, ◌||◌, nat_lt, Bool, true, false, if◌then◌else◌, List, [], ◌∷◌, map, length, sum_by, Option, Some, None, Result, Ok, Err}
use Rattle.std.specs.List.{list_any}
use Rattle.of10_model.specs.declared.pattern.Pattern.{Pattern}
use Rattle.of10_action.specs.declared.action.Action.{Action}
use Rattle.of10_flow.specs.declared.flow_mod.FlowMod.{FlowMod}
use Rattle.of10_flow.specs.declared.protocol.TheConstants.{NO_BUFFER, SEND_FLOW_REM}
use Rattle.of10_flow.specs.FlowMods.{spell_flow_mod}
use Rattle.of10_flow.specs.Tables.{is_delete}
use Rattle.flowmod_expand.specs.declared.fault.BuildFault.{BuildFault}
use Rattle.flowmod_expand.specs.declared.fault.BuildFault.TheVariants.{TooLarge, Memory}

-- the buffer number of the piece at a place: the one that is given for its place, and else none (OpenFlow 1.0.0, section 5.3.3)
abbrev pub buffer_at : Option (ℕ × ℕ) → ℕ → ℕ
buffer_at None place = NO_BUFFER
buffer_at (Some own) place = if own.0 == place then own.1 else NO_BUFFER

-- the flow-mod that is sent for a piece: a delete has no buffer, no flags and no actions; another has the buffer of its place, of the flags SEND_FLOW_REM alone, and the piece's own actions
unfoldable pub piece_message : FlowMod → ℕ → Pattern → List Action → ℕ → FlowMod
piece_message m xid piece actions buffer =
    record m {
      xid = xid;
      pattern = piece;
      buffer = if is_delete m then NO_BUFFER else buffer;
      flags = if is_delete m then 0 else SEND_FLOW_REM;
      actions = if is_delete m then [] else actions;
    }

-- those of all pieces, each with the list of actions at its place; the places count from a number on
abbrev pub piece_messages : ℕ → FlowMod → ℕ → List Pattern → List (List Action) → Option (ℕ × ℕ) → List FlowMod
piece_messages place m xid [] lists buffer = []
piece_messages place m xid (piece ∷ pieces) [] buffer = []
piece_messages place m xid (piece ∷ pieces) (actions ∷ lists) buffer =
    piece_message m xid piece actions (buffer_at buffer place) ∷ piece_messages (place + 1) m xid pieces lists buffer

-- the bytes of the messages, one for each piece
abbrev pub flow_messages : FlowMod → ℕ → List Pattern → List (List Action) → Option (ℕ × ℕ) → List (List ℕ)
flow_messages m xid pieces lists buffer = map spell_flow_mod (piece_messages 0 m xid pieces lists buffer)

-- all messages together pass 262,144 bytes, or one passes the 65,535 that its length field can say
abbrev pub are_too_large : List (List ℕ) → Bool
are_too_large messages = nat_lt 262144 (sum_by length messages) || list_any (λ bytes. nat_lt 65535 (length bytes)) messages

-- a call answers the messages exactly where they aren't too large, or out of memory in their place, and that they are too large where they are
abbrev pub GivesMessages : {A : Type 0} → (A → List (List ℕ)) → Result A BuildFault → List (List ℕ) → Type 0
GivesMessages view (Ok frames) messages = (view frames ≡ messages) × (are_too_large messages ≡ false)
GivesMessages view (Err TooLarge) messages = are_too_large messages ≡ true
GivesMessages view (Err Memory) messages = are_too_large messages ≡ false
