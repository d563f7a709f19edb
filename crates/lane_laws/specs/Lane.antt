-- What is said of the messages that a slice has sent to the switch, after a history and by its state (this proxy's own rule).
use Rattle.std.specs.Prelude.{ℕ, ◌≡◌, ◌⊎◌, ◌<◌, ◌^◌, true, List, Any, All, Some, None, option_map, Ok}
use Rattle.of10_model.specs.Header.{Header}
use Rattle.of10_model.specs.Pattern.{Has}
use Rattle.of10_flow.specs.declared.protocol.TheConstants.{NO_BUFFER}
use Rattle.of10_flow.specs.declared.flow_mod.FlowMod.{FlowMod}
use Rattle.of10_flow.specs.declared.packet_out.PacketOut.{PacketOut}
use Rattle.of10_message.specs.declared.controller.FromController.{FromController}
use Rattle.of10_message.specs.declared.controller.FromController.TheVariants as said
use Rattle.flowspace.specs.declared.rules.Rule.{Rule}
use Rattle.flowspace.specs.Owners.{Writes}
use Rattle.flowspace.specs.Policies.{PolicyView}
use Rattle.port_view.specs.SlicePorts.{ports_of_slice}
use Rattle.flow_book.specs.declared.state.SliceState.{SliceState}
use Rattle.flow_facts.specs.Inquiries.{MayBeAsked}
use Rattle.slice_words.specs.Items.{Settings, message_read, Sight, Writer}
use Rattle.slice_words.specs.Buffers.{held_packets}
use Rattle.slice_words.specs.FlowMods.{Ground, ground_of, pieces_on, packet_at, named_packet, carrier_of, flow_mod_fault, flow_mods_with}
use Rattle.slice_words.specs.PacketOuts.{packet_out_on, packet_out_fault}
use Rattle.slice_words.specs.Answers.{keeps_rate}
use Rattle.slice_words.specs.Alone.{number_it_came_with}
use Rattle.slice_words.specs.Standing.{past_of}
use Rattle.desk_words.specs.declared.event.Event.{Event}
use Rattle.desk_words.specs.declared.event.Event.TheVariants.{SwitchMsg, SliceMsg}
use Rattle.desk_words.specs.declared.event.Timed.{Timed}
use Rattle.desk_words.specs.Openings.{opening_of, rules_of, ports_after, switch_of}
use Rattle.desk_words.specs.Histories.{settings_at, header_in, handed, items_of, side_of, view_of}
use Rattle.desk_words.specs.Arrivals.{Arrival, arrival_under}

-- ---- events

-- the message of an event, if it has one, is of bytes
abbrev pub IsOfBytes : Event → Type 0
IsOfBytes (SwitchMsg message) = All (λ byte. byte < 256) message
IsOfBytes (SliceMsg slot message) = All (λ byte. byte < 256) message
IsOfBytes event = Unit {0}

-- ---- packets that the switch keeps for a slice

-- the last packet-in that has the number gave the slice its packet as the one who writes it
pub record IsOwnBuffer (policy : PolicyView) (slot : ℕ) (h : List Timed) (number : ℕ) : Type 0 where
  pub arrival : Arrival
  pub is_last : arrival_under number h ≡ Some arrival
  pub given : Any (λ item. item ≡ handed (Writer true) arrival.packet) (items_of policy slot (switch_of arrival.before) (side_of policy slot arrival.before) arrival.timed)
  pub written : Writes (rules_of policy (opening_of h)) slot (header_in arrival.packet)

-- a flow-mod that carries a number carries that of such a packet, which lies in its match
abbrev pub CarriesOwnBuffer : PolicyView → ℕ → List Timed → FlowMod → Type 0
CarriesOwnBuffer policy slot h m = (m.buffer ≡ NO_BUFFER) ⊎ ((own : IsOwnBuffer policy slot h m.buffer) × Has m.pattern (header_in own.arrival.packet))

-- a packet-out that carries a number carries that of such a packet
abbrev pub SendsOwnBuffer : PolicyView → ℕ → List Timed → PacketOut → Type 0
SendsOwnBuffer policy slot h m = (m.buffer ≡ NO_BUFFER) ⊎ IsOwnBuffer policy slot h m.buffer

-- ---- packets that a slice holds

-- the slice writes the header of each packet that it holds
abbrev pub HoldsWritten : List Rule → ℕ → Settings → Sight → Type 0
HoldsWritten rules slot s sight = All (λ packet. Writes rules slot packet.header) (held_packets (past_of s sight.view))

-- so it is of each packet that a state of the slice holds
abbrev pub KeepsWritten : List Rule → ℕ → SliceState → Type 0
KeepsWritten rules slot state = All (λ packet. Writes rules slot packet.header) state.buffers.held

-- the switch's number of each packet that a state holds has 32 bits, and the port by which it came 16, as their types have in the code
abbrev pub KeepsRanged : SliceState → Type 0
KeepsRanged state = All (λ packet. (packet.physical < 2 ^ 32) × (packet.header.in_port < 2 ^ 16)) state.buffers.held

-- a header is that of a packet which the state holds, and which the switch keeps under this number
abbrev pub IsKeptHeader : SliceState → ℕ → Header → Type 0
IsKeptHeader state number header = Any (λ packet. (packet.physical ≡ number) × (packet.header ≡ header)) state.buffers.held

-- ---- after a history

-- the rules of the switch, in rule order
abbrev pub rules_in : PolicyView → List Timed → List Rule
rules_in policy h = rules_of policy (opening_of h)

-- the settings of the slice at a slot
abbrev pub settings_in : PolicyView → ℕ → List Timed → Settings
settings_in policy slot h = settings_at policy slot (opening_of h)

-- the slice's own of the known ports
abbrev pub ports_shown : PolicyView → ℕ → List Timed → List (List ℕ)
ports_shown policy slot h = ports_of_slice (rules_in policy h) slot (ports_after h)

-- what a flow-mod or a packet-out of the slice is answered by
abbrev pub ground_in : PolicyView → ℕ → List Timed → Ground
ground_in policy slot h = ground_of (settings_in policy slot h) (view_of policy slot h) (past_of (settings_in policy slot h) (view_of policy slot h))

-- the switch's number for the slice's packet before which it was given so many
abbrev pub switch_number : PolicyView → ℕ → List Timed → ℕ → ℕ
switch_number policy slot h ordinal = number_it_came_with (side_of policy slot h).sight.came ordinal

-- the flow-mods for the pieces of a match: the first whose piece has the header of the packet that is named carries the switch's number for it
abbrev pub flow_mods_at : PolicyView → ℕ → List Timed → FlowMod → List FlowMod
flow_mods_at policy slot h m =
    let g = ground_in policy slot h in
    flow_mods_with g m (option_map (λ own. (own.0, switch_number policy slot h own.1)) (carrier_of (named_packet g m) (pieces_on g m)))

-- the packet-out that is sent, with the switch's number for the packet that is named
abbrev pub packet_out_at : PolicyView → ℕ → List Timed → PacketOut → PacketOut
packet_out_at policy slot h m =
    elim (packet_at (ground_in policy slot h) m.buffer) [
      | None ↦ packet_out_on (ground_in policy slot h) m
      | Some packet ↦ record (packet_out_on (ground_in policy slot h) m) { buffer = switch_number policy slot h packet.ordinal }
    ]

-- a message that comes from the slice at a timestamp keeps the slice's rate
abbrev pub KeepsRate : PolicyView → ℕ → List Timed → ℕ → Type 0
KeepsRate policy slot h moment = keeps_rate (settings_in policy slot h) (view_of policy slot h) (past_of (settings_in policy slot h) (view_of policy slot h)) moment ≡ true

-- it is a flow-mod, keeps the rate, and no line refuses it
pub record IsPermitted (policy : PolicyView) (slot : ℕ) (h : List Timed) (moment : ℕ) (message : List ℕ) (m : FlowMod) : Type 0 where
  pub read : message_read (settings_in policy slot h) message ≡ Ok (said.FlowMod m)
  pub rate : KeepsRate policy slot h moment
  pub no_fault : flow_mod_fault (ground_in policy slot h) m ≡ None

-- the same of a packet-out
pub record IsPermittedOut (policy : PolicyView) (slot : ℕ) (h : List Timed) (moment : ℕ) (message : List ℕ) (m : PacketOut) : Type 0 where
  pub read : message_read (settings_in policy slot h) message ≡ Ok (said.PacketOut m)
  pub rate : KeepsRate policy slot h moment
  pub no_fault : packet_out_fault (ground_in policy slot h) m ≡ None

-- the same of an inquiry that the slice may make
pub record IsPermittedInquiry (policy : PolicyView) (slot : ℕ) (h : List Timed) (moment : ℕ) (message : List ℕ) (asked : FromController) : Type 0 where
  pub read : message_read (settings_in policy slot h) message ≡ Ok asked
  pub rate : KeepsRate policy slot h moment
  pub may : MayBeAsked (rules_in policy h) slot asked

-- a message is one of these
abbrev pub IsAnyPermitted : PolicyView → ℕ → List Timed → ℕ → List ℕ → Type 0
IsAnyPermitted policy slot h moment message =
    ((m : FlowMod) × IsPermitted policy slot h moment message m)
    ⊎ (((m : PacketOut) × IsPermittedOut policy slot h moment message m) ⊎ ((asked : FromController) × IsPermittedInquiry policy slot h moment message asked))
