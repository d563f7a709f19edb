-- What comes of actions, flow-mods and packet-outs, in words of the code.
use Rattle.std.specs.Prelude.{ℕ, ◌≡◌, ◌≢◌, ◌⊎◌, ◌≤◌, ◌==◌, Bool, true, false, if◌then◌else◌, List, [], ◌∷◌, length, map, AllPairs, Option, Some, None, option_map, Result, Ok, Err}
use Rattle.std.specs.List.{list_any}
use Rattle.of10_model.specs.declared.pattern.Pattern.{Pattern}
use Rattle.of10_action.specs.declared.action.Action.{Action}
use Rattle.of10_flow.specs.declared.flow_mod.FlowMod.{FlowMod}
use Rattle.of10_action.specs.declared.action.Action.TheVariants.{Output}
use Rattle.of10_action.specs.Reading.{list_given}
use Rattle.of10_flow.specs.declared.packet_out.PacketOut.{PacketOut}
use Rattle.of10_flow.specs.declared.protocol.TheConstants.{NO_BUFFER}
use Rattle.of10_flow.specs.FlowMods.{spell_flow_mod}
use Rattle.of10_flow.specs.PacketOuts.{spell_packet_out}
use Rattle.of10_flow.specs.Tables.{is_delete}
use Rattle.of10_ctl.specs.declared.kind.TheConstants.{BARRIER_REQUEST}
use Rattle.of10_ctl.specs.Frames.{message_of}
use Rattle.of10_message.specs.declared.controller.FromController.{FromController}
use Rattle.of10_message.specs.declared.controller.FromController.TheVariants as said
use Rattle.of10_message.specs.Queues.{spell_queues_request}
use Rattle.flowspace.specs.declared.rules.Rule.{Rule}
use Rattle.stats_filter.specs.Asking.{question_for}
use Rattle.buffer_map.specs.declared.held.Held.{Held}
use Rattle.buffer_map.specs.Buffers.{held_under}
use Rattle.flow_book.specs.declared.state.SliceState.{SliceState}
use Rattle.slice_words.specs.Items.{is_own_port}
use Rattle.slice_words.specs.Messages.{Reading}
use Rattle.slice_words.specs.Questions.{may_ask}
use Rattle.slice_words.specs.PacketOuts.{permitted_out, packet_out_on, names_no_packet, comes_by_another, carries_another, packet_out_fault}
use Rattle.slice_side.specs.Reactions.{without_physical, ground_at}
use Rattle.slice_side.specs.declared.packet_outs.PacketOutcome.{PacketOutcome}
use Rattle.slice_side.specs.declared.packet_outs.PacketOutcome.TheVariants as packet_outcome
use Rattle.flowspace.specs.Options.{first_some}
use Rattle.slice_words.specs.FlowMods.{Ground, pieces_on, first_refusal, is_too_long, first_forbidden, lists_on, packet_at, named_packet, piece_place, carrier_of, wrong_command, emergency, buffer_not_held, outside_flowspace, flow_mod_fault, flow_mods_with, is_not_held}
use Rattle.slice_side.specs.declared.checked_actions.Checked.{Checked}
use Rattle.slice_side.specs.declared.checked_actions.Checked.TheVariants as checked
use Rattle.slice_side.specs.declared.checked_actions.Listing.{Listing}
use Rattle.slice_side.specs.declared.checked_actions.Listing.TheVariants as listing
use Rattle.slice_side.specs.declared.flow_mods.FlowModOutcome.{FlowModOutcome}
use Rattle.slice_side.specs.declared.flow_mods.FlowModOutcome.TheVariants as outcome

-- ---- packets that are held

-- the packet that a state holds under a number, where a message has one
abbrev pub packet_kept : SliceState → ℕ → Option Held
packet_kept state buffer = if buffer == NO_BUFFER then None else held_under buffer state.buffers.held

-- the packet that a flow-mod names; a delete's number is disregarded
abbrev pub held_for : SliceState → FlowMod → Option Held
held_for state m = if is_delete m then None else packet_kept state m.buffer

-- a flow-mod names a packet that the state doesn't hold, or whose header isn't in its match; a delete's number is disregarded
abbrev pub not_held_in : SliceState → FlowMod → Bool
not_held_in state m = is_not_held (option_map without_physical (held_for state m)) m

-- the place of the first piece that has a packet's header, and the switch's number of the packet
abbrev pub carrier_in : Option Held → List Pattern → Option (ℕ × ℕ)
carrier_in None pieces = None
carrier_in (Some packet) pieces = option_map (λ place. (place, packet.physical)) (piece_place packet.header pieces)

-- the switch's number of a packet, where there is one
abbrev pub number_in : Option Held → ℕ
number_in None = NO_BUFFER
number_in (Some packet) = packet.physical

-- ---- what is sent on, by the state alone

-- the flow-mods for the pieces of a match: the first whose piece has the header of the packet that is named carries the switch's number for it
abbrev pub flow_mods_from : SliceState → Ground → FlowMod → List FlowMod
flow_mods_from state g m = flow_mods_with g m (carrier_in (held_for state m) (pieces_on g m))

-- the packet-out that is sent, with the switch's number for the packet that is named
abbrev pub packet_out_from : SliceState → Ground → PacketOut → PacketOut
packet_out_from state g m = record (packet_out_on g m) { buffer = number_in (packet_kept state m.buffer) }

-- with a message of which this was read the slice may ask the switch this
abbrev pub IsInquirySent : Ground → FromController → List ℕ → Type 0
IsInquirySent g (said.StatsRequest request) question = (may_ask g request ≡ true) × (question_for request g.xid ≡ Some question)
IsInquirySent g said.BarrierRequest question = question ≡ message_of BARRIER_REQUEST g.xid []
IsInquirySent g (said.QueueGetConfigRequest queues) question = (is_own_port g.slot g.patterns queues.port ≡ true) × (question ≡ spell_queues_request g.xid queues)
IsInquirySent g asked question = ⊥

-- this is sent on for a message of which this was read: nothing; the flow-mods or the packet-out for it, where it is one that no line refuses; or one question that the slice may ask with it
abbrev pub IsSentOn : SliceState → Ground → Reading → List (List ℕ) → Type 0
IsSentOn state g read sent =
    (sent ≡ [])
    ⊎ (((m : FlowMod) × (read ≡ Ok (said.FlowMod m)) × (flow_mod_fault g m ≡ None) × (sent ≡ map spell_flow_mod (flow_mods_from state g m)))
    ⊎ (((m : PacketOut) × (read ≡ Ok (said.PacketOut m)) × (packet_out_fault g m ≡ None) × (sent ≡ spell_packet_out (packet_out_from state g m) ∷ []))
    ⊎ ((asked : FromController) × (question : List ℕ) × (read ≡ Ok asked) × IsInquirySent g asked question × (sent ≡ question ∷ []))))

-- so it is by the rules of the switch, its ports and the slice's state, with some quota and some transaction id
abbrev pub AreSentOn : List Rule → ℕ → List (List ℕ) → SliceState → Reading → List (List ℕ) → Type 0
AreSentOn rules slot known state read sent = (quota : ℕ) × (xid : ℕ) × IsSentOn state (ground_at rules slot known quota xid state) read sent

-- ---- ports

-- an action sends to a port by OUTPUT
abbrev pub is_sent_to : ℕ → Action → Bool
is_sent_to port (Output other max_len) = other == port
is_sent_to port action = false

-- the ports for which a port stands, where an action sends there
abbrev pub ports_named : ℕ → List Action → List ℕ → List ℕ
ports_named port actions ports = if list_any (is_sent_to port) actions then ports else []

-- ---- one list

-- a list that may be had, one that is too long, or the code of the first action that is forbidden
abbrev pub IsChecked : Result (List Action) ℕ → Checked → Type 0
IsChecked permitted (checked.Given list) = (permitted ≡ Ok list) × (is_too_long list ≡ false)
IsChecked permitted checked.TooMany = (list : List Action) × (permitted ≡ Ok list) × (is_too_long list ≡ true)
IsChecked permitted (checked.Forbidden code) = permitted ≡ Err code

-- ---- all pieces

-- none of these pieces has a forbidden action; whether one has a list that is too long; and else their lists
pub record AreListed (permitted : Pattern → Result (List Action) ℕ) (pieces : List Pattern) (lists : List (List Action)) (long : Bool) : Type 0 where
  pub allowed : first_refusal (map permitted pieces) ≡ None
  pub some_long : list_any is_too_long (map (λ piece. list_given (permitted piece)) pieces) ≡ long
  pub given : long ≡ false → lists ≡ map (λ piece. list_given (permitted piece)) pieces

-- the lists of all pieces, or that one is too long, or the code of the first action that is forbidden
abbrev pub IsListing : (Pattern → Result (List Action) ℕ) → List Pattern → Listing → Type 0
IsListing permitted pieces (listing.Given lists) = AreListed permitted pieces lists.items false
IsListing permitted pieces listing.TooMany = (lists : List (List Action)) × AreListed permitted pieces lists true
IsListing permitted pieces (listing.Forbidden code) = first_refusal (map permitted pieces) ≡ Some code

-- a flow-mod has these lists for its pieces; its actions are disregarded where it deletes
abbrev pub HasLists : Ground → FlowMod → List (List Action) → Type 0
HasLists g m lists = (first_forbidden g m ≡ None) × (lists ≡ lists_on g m) × (list_any is_too_long (lists_on g m) ≡ false)

-- or that one is too long, or the code of the first action that is forbidden
abbrev pub IsListed : Ground → FlowMod → Listing → Type 0
IsListed g m (listing.Given lists) = HasLists g m lists.items
IsListed g m listing.TooMany = (first_forbidden g m ≡ None) × (list_any is_too_long (lists_on g m) ≡ true)
IsListed g m (listing.Forbidden code) = first_forbidden g m ≡ Some code

-- ---- the flow-mod

-- the lines that look at the flow-mod and its packet, or whether there are pieces, let it pass
abbrev pub PassesEarly : Ground → FlowMod → Type 0
PassesEarly g m = (first_some (wrong_command m ∷ emergency m ∷ buffer_not_held g m ∷ []) ≡ None) × (outside_flowspace g m ≡ None)

-- the class and code of the first line that refuses it, or what is sent on for its pieces, and the number of the packet that is used up
abbrev pub IsOutcome : SliceState → Ground → FlowMod → FlowModOutcome → Type 0
IsOutcome state g m (outcome.Refused class code) = flow_mod_fault g m ≡ Some (class, code)
IsOutcome state g m (outcome.Sent frames pieces used) =
    (flow_mod_fault g m ≡ None) × (frames.items ≡ map spell_flow_mod (flow_mods_from state g m)) × (pieces.items ≡ pieces_on g m)
    × (used ≡ option_map (λ own. m.buffer) (carrier_of (named_packet g m) (pieces_on g m)))

-- the pieces of one that is sent on differ, and are few
abbrev pub HasDistinctPieces : FlowModOutcome → Type 0
HasDistinctPieces (outcome.Refused class code) = Unit {0}
HasDistinctPieces (outcome.Sent frames pieces used) = AllPairs (λ a b. a ≢ b) pieces.items × (length pieces.items ≤ 256)

-- ---- the packet-out

-- the lines before its actions
abbrev pub early : Ground → PacketOut → List (Option (ℕ × ℕ))
early g m = names_no_packet g m ∷ comes_by_another g m ∷ carries_another g m ∷ []

-- no line before its size refuses it, and it may have these actions
abbrev pub MayBeSent : Ground → PacketOut → List Action → Type 0
MayBeSent g m actions = (first_some (early g m) ≡ None) × (permitted_out g m ≡ Ok actions) × (is_too_long actions ≡ false)

-- the class and code of the first line that refuses it, or what is sent on for it, and the number of the packet that is used up
abbrev pub IsPacketOutcome : SliceState → Ground → PacketOut → PacketOutcome → Type 0
IsPacketOutcome state g m (packet_outcome.Refused class code) = packet_out_fault g m ≡ Some (class, code)
IsPacketOutcome state g m (packet_outcome.Sent frame used) =
    (packet_out_fault g m ≡ None) × (frame ≡ spell_packet_out (packet_out_from state g m)) × (used ≡ option_map (λ packet. m.buffer) (packet_at g m.buffer))
