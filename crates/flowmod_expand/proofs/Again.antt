-- The messages of the pieces are read again.
use Rattle.std.proofs.Common.{◌≡◌, ℕ, ◌<◌, ◌≤◌, ◌^◌, ◌==◌, Bool, true, false, if◌then◌else◌, List, [], length, All, Option, Some, None, IfSome, Ok, sym, ◌∙◌, ap, ap₂, subst, arith}
use Rattle.std.proofs.lemmas.List.Elements.{All-nil}
use Rattle.std.proofs.lemmas.Option.{slice_get_within, get_or_from_slice_get}
use Rattle.of10_model.specs.declared.pattern.Pattern.{Pattern}
use Rattle.of10_model.specs.Normal.{IsNormal}
use Rattle.of10_action.specs.declared.action.Action.{Action}
use Rattle.of10_action.specs.Actions.{IsAction}
use Rattle.of10_ctl.specs.declared.kind.TheConstants.{FLOW_MOD}
use Rattle.of10_ctl.specs.Kinds.{IsOf}
use Rattle.of10_flow.specs.declared.flow_mod.FlowMod.{FlowMod}
use Rattle.of10_flow.specs.FlowMods.{IsFlowMod, spell_flow_mod, read_flow_mod}
use Rattle.of10_flow.proofs.Again.{flow_mod_of, flow_mod_again}
use Rattle.of10_flow.specs.Tables.{is_delete}
use Rattle.flowmod_expand.specs.Messages.{buffer_at, piece_message, are_too_large}
use Rattle.flowmod_expand.specs.Laws.{Order, IsPaired, IsOrderInRange, messages_of, MessagePlace, flow_mod_at}
use Rattle.flowmod_expand.proofs.Walks.{spell_size, flow_messages_length, flow_messages_at, sizes_within}

either_fits : (b : Bool) (number : ℕ) → number < 2 ^ 32 → (if b then number else 0xffffffff) < 2 ^ 32
either_fits true number lt = lt
either_fits false number lt = omega arith

number_fits : (buffer : Option (ℕ × ℕ)) (place : ℕ) → IfSome buffer (λ own. own.1 < 2 ^ 32) → buffer_at buffer place < 2 ^ 32
number_fits None place number = omega arith
number_fits (Some own) place number = either_fits (own.0 == place) own.1 number

none_fits : (b : Bool) (number : ℕ) → number < 2 ^ 32 → (if b then 0xffffffff else number) < 2 ^ 32
none_fits true number lt = omega arith
none_fits false number lt = lt

flags_fit : (b : Bool) → (if b then 0 else 1) < 2 ^ 16
flags_fit true = omega arith
flags_fit false = omega arith

none_are : (b : Bool) (actions : List Action) → All IsAction actions → All IsAction (if b then [] else actions)
none_are true actions all = All-nil IsAction
none_are false actions all = all

-- what is sent for a piece has each field in its range
is_sent : (m : FlowMod) (xid : ℕ) (piece : Pattern) (actions : List Action) (buffer : ℕ) → IsFlowMod m → xid < 2 ^ 32 → IsNormal piece → All IsAction actions → buffer < 2 ^ 32
    → length (spell_flow_mod (piece_message m xid piece actions buffer)) ≤ 65535 → IsFlowMod (piece_message m xid piece actions buffer)
unfolding piece_message
is_sent m xid piece actions buffer is xid_fits normal all number small =
    record {
      xid = xid_fits;
      ranged = record {
        pattern = normal;
        cookie = is.ranged.cookie;
        command = is.ranged.command;
        idle = is.ranged.idle;
        hard = is.ranged.hard;
        priority = is.ranged.priority;
        buffer = none_fits (is_delete m) buffer number;
        out_port = is.ranged.out_port;
        flags = flags_fit (is_delete m);
        actions = none_are (is_delete m) actions all;
      };
      fits = let size = spell_size (piece_message m xid piece actions buffer) in omega arith;
    }

-- the message at a place is that of the piece, the list and the buffer there
pub message_there : (o : Order) → IsPaired o → (at : MessagePlace o) → at.message ≡ spell_flow_mod (flow_mod_at o at)
message_there o paired at =
    let within : at.number < length o.pieces = slice_get_within o.pieces at.number at.piece at.has_piece in
    let made = flow_messages_at o.flow_mod o.xid o.pieces o.lists o.buffer at.number at.message at.piece at.actions within paired in
    let piece = get_or_from_slice_get o.pieces at.number at.piece at.piece at.has_piece in
    let actions = get_or_from_slice_get o.lists at.number at.actions at.actions at.has_actions in
    sym (get_or_from_slice_get (messages_of o) at.number at.message at.message at.has_message) ∙ made
    ∙ ap₂ (λ (p : Pattern) (l : List Action). spell_flow_mod (piece_message o.flow_mod o.xid p l (buffer_at o.buffer at.number))) piece actions

-- and it is read as that
pub read_there : (o : Order) → IsPaired o → IsOrderInRange o → are_too_large (messages_of o) ≡ false → (at : MessagePlace o)
    → IsOf FLOW_MOD at.message × (read_flow_mod at.message ≡ Ok (flow_mod_at o at))
read_there o paired range small at =
    let there = message_there o paired at in
    let sent = flow_mod_at o at in
    let count = flow_messages_length o.flow_mod o.xid o.pieces o.lists o.buffer paired in
    let within : at.number < length (messages_of o) = slice_get_within (messages_of o) at.number at.message at.has_message in
    let own = get_or_from_slice_get (messages_of o) at.number at.message at.message at.has_message in
    let size : length (spell_flow_mod sent) ≤ 65535 = subst (λ b. length b ≤ 65535) (own ∙ there) (sizes_within (messages_of o) small at.number at.message within) in
    let normal : IsNormal at.piece = subst IsNormal (get_or_from_slice_get o.pieces at.number at.piece at.piece at.has_piece) (range.pieces at.number at.piece (slice_get_within o.pieces at.number at.piece at.has_piece)) in
    let all : All IsAction at.actions = subst (All IsAction) (get_or_from_slice_get o.lists at.number at.actions at.actions at.has_actions) (range.lists at.number at.actions (slice_get_within o.lists at.number at.actions at.has_actions)) in
    let ranges = is_sent o.flow_mod o.xid at.piece at.actions (buffer_at o.buffer at.number) range.flow_mod range.xid normal all (number_fits o.buffer at.number range.buffer) size in
    (subst (IsOf FLOW_MOD) (sym there) (flow_mod_of sent ranges), ap read_flow_mod there ∙ flow_mod_again sent ranges)
