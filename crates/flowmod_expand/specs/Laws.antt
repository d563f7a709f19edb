-- What the laws of `src/laws.rt` speak of: an order to send messages for pieces, and what stands at a place of it.
use Rattle.std.specs.Prelude.{ℕ, ◌≡◌, ◌<◌, ◌^◌, List, length, slice_get, All, Option, Some, IfSome}
use Rattle.of10_model.specs.declared.pattern.Pattern.{Pattern}
use Rattle.of10_model.specs.Normal.{IsNormal}
use Rattle.of10_action.specs.declared.action.Action.{Action}
use Rattle.of10_action.specs.Actions.{IsAction}
use Rattle.of10_flow.specs.declared.flow_mod.FlowMod.{FlowMod}
use Rattle.of10_flow.specs.FlowMods.{IsFlowMod}
use Rattle.flowmod_expand.specs.Messages.{buffer_at, piece_message, flow_messages}

-- a flow-mod is to be sent in pieces, each with its list of actions, under a transaction id, and the piece at a place may have a buffer
pub record Order : Type 0 where
  pub flow_mod : FlowMod
  pub xid : ℕ
  pub pieces : List Pattern
  pub lists : List (List Action)
  pub buffer : Option (ℕ × ℕ)

-- each piece has a list
abbrev pub IsPaired : Order → Type 0
IsPaired o = length o.lists ≡ length o.pieces

-- each field is in its range
pub record IsOrderInRange (o : Order) : Type 0 where
  pub flow_mod : IsFlowMod o.flow_mod
  pub xid : o.xid < 2 ^ 32
  pub pieces : All IsNormal o.pieces
  pub lists : All (All IsAction) o.lists
  pub buffer : IfSome o.buffer (λ own. own.1 < 2 ^ 32)

-- the bytes of its messages
abbrev pub messages_of : Order → List (List ℕ)
messages_of o = flow_messages o.flow_mod o.xid o.pieces o.lists o.buffer

-- what is sent at a place, and the piece, the list and the message that stand there
pub record MessagePlace (o : Order) : Type 0 where
  pub number : ℕ
  pub piece : Pattern
  pub actions : List Action
  pub message : List ℕ
  pub has_piece : slice_get o.pieces number ≡ Some piece
  pub has_actions : slice_get o.lists number ≡ Some actions
  pub has_message : slice_get (messages_of o) number ≡ Some message

-- the flow-mod for a place: that of its piece, its list and its buffer
abbrev pub flow_mod_at : (o : Order) → MessagePlace o → FlowMod
flow_mod_at o at = piece_message o.flow_mod o.xid at.piece at.actions (buffer_at o.buffer at.number)
