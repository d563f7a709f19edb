-- What follows from a slice's message: what is answered, what is sent on, and what changes in the slice's state (this proxy's own rule).
use Rattle.std.specs.Prelude.{ℕ, ◌≡◌, ◌≢◌, ◌<◌, ◌≤◌, ◌+◌, ◌^◌, Bool, true, false, List, [], ◌∷◌, length, map, slice_get, AllPairs, Option, Some, None, option_map, Ok}
use Rattle.std.specs.List.{All}
use Rattle.of10_model.specs.declared.pattern.Pattern.{Pattern}
use Rattle.of10_flow.specs.declared.flow_mod.FlowMod.{FlowMod}
use Rattle.of10_flow.specs.declared.packet_out.PacketOut.{PacketOut}
use Rattle.of10_flow.specs.declared.protocol.TheConstants.{SEND_FLOW_REM}
use Rattle.of10_flow.specs.Tables.{has_flag}
use Rattle.of10_port.specs.declared.features.Features.{Features}
use Rattle.of10_message.specs.declared.controller.FromController.{FromController}
use Rattle.of10_message.specs.declared.controller.FromController.TheVariants as said
use Rattle.flowspace.specs.declared.rules.Rule.{Rule}
use Rattle.flowspace.specs.Policies.{SwitchView}
use Rattle.flowspace.specs.Swaps.{pairs_of}
use Rattle.port_turns.specs.Turned.{exchanged}
use Rattle.port_turns.specs.Readings.{turned_said}
use Rattle.flowmod_expand.specs.Pieces.{pieces_within, writes_of}
use Rattle.port_view.specs.SlicePorts.{ports_of_slice, features_with}
use Rattle.xid_map.specs.declared.asked.Asked.{Asked}
use Rattle.buffer_map.specs.declared.held.Held.{Held}
use Rattle.flow_book.specs.declared.state.SliceState.{SliceState}
use Rattle.flow_book.specs.Books.{newcomers_in}
use Rattle.slice_words.specs.Messages.{Reading, ends_connection, length_wanted, asks_switch, asked_of}
use Rattle.slice_words.specs.Items.{Settings, message_read, Sight, Item, Msg, is_up, miss_send_len, features_in, known_ports}
use Rattle.slice_words.specs.Pasts.{Outgoing, Answer, is_any}
use Rattle.slice_words.specs.Buffers.{HeldPacket, is_named, held_packets, has_number}
use Rattle.slice_words.specs.FlowMods.{Ground}
use Rattle.slice_words.specs.Alone.{answer_to, shown_to, rendered}
use Rattle.slice_words.specs.Standing.{past_of}
use Rattle.slice_side.specs.declared.reaction.Reaction.{Reaction}
use Rattle.slice_side.specs.declared.change.Change.{Change}
use Rattle.slice_side.specs.declared.change.Change.TheVariants.{Heard, Set, Dismissed, Rated, Modified, SentOut, Inquired}
use Rattle.slice_side.specs.declared.change.Modification.{Modification}

-- ---- where a message is answered

-- what is read of a slice's message, with physical port numbers
abbrev pub physical_said : SwitchView → ℕ → FromController → FromController
physical_said policy slot message = turned_said (exchanged (pairs_of policy.swaps slot)) message

-- what is said of the switch is what a slice saw of it. The matches of the rules that the slice writes are the slice's own, and so are the swaps and the quota. The features are those of the opening but for the ports. Of the known ports the slice's own are those that it knows. And the slice is up
pub record Sees (s : Settings) (view : List Item) (policy : SwitchView) (known : List (List ℕ)) (features : Features) (slot : ℕ) : Type 0 where
  pub same_slot : s.slot ≡ slot
  pub same_patterns : s.patterns ≡ writes_of policy.rules slot
  pub same_swaps : s.swaps ≡ pairs_of policy.swaps slot
  pub same_quota : option_map (λ slice. slice.quota) (slice_get policy.slices slot) ≡ Some s.quota
  pub opening : Features
  pub opened : features_in view ≡ Some opening
  pub same_features : features_with opening [] ≡ features_with features []
  pub same_ports : known_ports view ≡ ports_of_slice policy.rules slot known
  pub up : is_up view ≡ true

-- what a slice is sent of its switch, and how much of a packet it wants, by its view
pub record Shown (view : List Item) (rules : List Rule) (known : List (List ℕ)) (features : Features) (slot wanted : ℕ) : Type 0 where
  pub same_wanted : wanted ≡ miss_send_len view
  pub opening : Features
  pub opened : features_in view ≡ Some opening
  pub same : features_with opening (known_ports view) ≡ features_with features (ports_of_slice rules slot known)

-- a packet that is held, without the switch's number for it
abbrev pub without_physical : Held → HeldPacket
without_physical packet = record { ordinal = packet.ordinal; header = packet.header }

-- what flow-mods and packet-outs are answered by, by the rules of the switch, its ports, and the slice's state
abbrev pub ground_at : List Rule → ℕ → List (List ℕ) → ℕ → ℕ → SliceState → Ground
ground_at rules slot known quota xid state = record {
  slot = slot;
  patterns = writes_of rules slot;
  ports = ports_of_slice rules slot known;
  held = map without_physical state.buffers.held;
  booked = state.book.booked;
  quota = quota;
  xid = xid;
}

-- what a slice sees with one item more that is no packet
abbrev pub with_item : Item → Sight → Sight
with_item item sight = record { view = item ∷ sight.view; came = sight.came }

-- ---- changes

-- a packet has the number that is used up, where one is
abbrev pub is_used_up : Option ℕ → HeldPacket → Bool
is_used_up None packet = false
is_used_up (Some number) packet = has_number number packet

-- of the packets that are held these messages name the one that is used up, and no other
abbrev pub Uses : Option ℕ → List HeldPacket → List Outgoing → Type 0
Uses used held messages = All (λ packet. is_named packet.ordinal messages ≡ is_used_up used packet) held

-- a flow-mod of a slice with these write rules, which holds these packets, is sent on: it is remembered with its first bytes, booked piece by piece, and uses up the packet that its messages name
pub record IsModification (patterns : List Pattern) (held : List HeldPacket) (message : List ℕ) (read : Reading) (a : Answer) (moment : ℕ) (m : Modification) : Type 0 where
  pub flow_mod : FlowMod
  pub is_read : read ≡ Ok (said.FlowMod flow_mod)
  pub sent : is_any a.to_switch ≡ true
  pub asked : m.asked ≡ asked_of read message
  pub command : m.command ≡ flow_mod.command
  pub pieces : m.pieces.items ≡ pieces_within patterns flow_mod.pattern
  pub priority : m.priority ≡ flow_mod.priority
  pub asks : m.asks ≡ has_flag SEND_FLOW_REM flow_mod
  pub moment_too : m.moment ≡ moment
  pub uses : Uses m.used held a.to_switch

-- a packet-out of a slice that holds these packets is sent on: it is remembered with its first bytes, and uses up the packet that it names
pub record IsSendingOut (held : List HeldPacket) (message : List ℕ) (read : Reading) (a : Answer) (moment at : ℕ) (asked : Asked) (used : Option ℕ) : Type 0 where
  pub packet_out : PacketOut
  pub is_read : read ≡ Ok (said.PacketOut packet_out)
  pub sent : is_any a.to_switch ≡ true
  pub same_asked : asked ≡ asked_of read message
  pub same_moment : at ≡ moment
  pub uses : Uses used held a.to_switch

-- a message asks the switch for a reply: to a barrier, on the queues of a port, or of statistics
abbrev pub is_inquiry : Reading → Bool
is_inquiry (Ok (said.StatsRequest request)) = true
is_inquiry (Ok said.BarrierRequest) = true
is_inquiry (Ok (said.QueueGetConfigRequest queues)) = true
is_inquiry read = false

-- such a message of a slice that holds these packets is sent on: it is remembered with its first bytes, and names none of the packets
pub record IsInquiry (held : List HeldPacket) (message : List ℕ) (read : Reading) (a : Answer) (moment at : ℕ) (asked : Asked) : Type 0 where
  pub inquires : is_inquiry read ≡ true
  pub sent : is_any a.to_switch ≡ true
  pub same_asked : asked ≡ asked_of read message
  pub same_moment : at ≡ moment
  pub uses : Uses None held a.to_switch

-- the change that a message asks for, by what is read of it and what follows. It only came; it sets how much of a packet is wanted; it ends the connection; or it asked the rate, and nothing is sent on. Or it is a flow-mod, a packet-out, or what asks for a reply, that is sent on
abbrev pub IsChangeFor : List Pattern → List HeldPacket → List ℕ → Reading → Answer → ℕ → Change → Type 0
IsChangeFor patterns held message read a moment (Heard t) = (ends_connection read ≡ false) × (length_wanted read ≡ None) × (asks_switch read ≡ false) × (t ≡ moment)
IsChangeFor patterns held message read a moment (Set t wanted) = (length_wanted read ≡ Some wanted) × (t ≡ moment)
IsChangeFor patterns held message read a moment (Dismissed t) = (ends_connection read ≡ true) × (t ≡ moment)
IsChangeFor patterns held message read a moment (Rated t) = (asks_switch read ≡ true) × (is_any a.to_switch ≡ false) × (t ≡ moment)
IsChangeFor patterns held message read a moment (Modified m) = IsModification patterns held message read a moment m
IsChangeFor patterns held message read a moment (SentOut t asked used) = IsSendingOut held message read a moment t asked used
IsChangeFor patterns held message read a moment (Inquired t asked) = IsInquiry held message read a moment t asked

-- the change that an item asks for after what a slice sees; of those here only messages ask for one, while the slice is up
abbrev pub IsChange : Settings → Sight → Item → Change → Type 0
IsChange s sight (Msg message moment) change =
    (is_up sight.view ≡ true)
    × IsChangeFor s.patterns (held_packets (past_of s sight.view)) message (message_read s message) (answer_to s sight.view (Msg message moment)) moment change
IsChange s sight item change = ⊥

-- ---- reactions

-- what follows from a message is this answer, with the numbers with which the slice's packets came, and the change that the message asks for
pub record Follows (s : Settings) (sight : Sight) (message : List ℕ) (read : Reading) (a : Answer) (moment : ℕ) (r : Reaction) : Type 0 where
  pub to_slice : r.to_slice.items ≡ a.to_slice
  pub to_switch : r.to_switch.items ≡ map (rendered sight.came) a.to_switch
  pub close : r.close ≡ a.dismissed
  pub change : IsChangeFor s.patterns (held_packets (past_of s sight.view)) message read a moment r.change

-- what is answered to an item, where messages to the slice have the switch's own port numbers still
pub record IsAnswered (s : Settings) (sight : Sight) (item : Item) (r : Reaction) : Type 0 where
  pub to_slice : r.to_slice.items ≡ (answer_to s sight.view item).to_slice
  pub to_switch : r.to_switch.items ≡ map (rendered sight.came) (answer_to s sight.view item).to_switch
  pub close : r.close ≡ (answer_to s sight.view item).dismissed
  pub change : IsChange s sight item r.change

-- what follows from an item is its answer, with the port numbers that the slice is shown
pub record IsReaction (s : Settings) (sight : Sight) (item : Item) (r : Reaction) : Type 0 where
  pub to_slice : r.to_slice.items ≡ shown_to s (answer_to s sight.view item).to_slice
  pub to_switch : r.to_switch.items ≡ map (rendered sight.came) (answer_to s sight.view item).to_switch
  pub close : r.close ≡ (answer_to s sight.view item).dismissed
  pub change : IsChange s sight item r.change

-- ---- room

-- the pieces of a change differ, and are few
abbrev pub IsSoundChange : Change → Type 0
IsSoundChange (Modified m) = AllPairs (λ a b. a ≢ b) m.pieces.items × (length m.pieces.items ≤ 256)
IsSoundChange change = Unit {0}

-- there is room for a change: in the numbers of requests for one more, and in the book for the newcomers of a flow-mod
abbrev pub HasRoom : Change → SliceState → Type 0
HasRoom (Modified m) state =
    (state.xids.issued < 2 ^ 62)
    × (newcomers_in m.command m.pieces.items m.priority state.book.booked ≤ state.book.room)
    × (length state.book.booked + newcomers_in m.command m.pieces.items m.priority state.book.booked < 2 ^ 32)
HasRoom (SentOut t asked used) state = state.xids.issued < 2 ^ 62
HasRoom (Inquired t asked) state = state.xids.issued < 2 ^ 62
HasRoom change state = Unit {0}
