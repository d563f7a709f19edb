-- The packets that a state holds are those that the slice holds, under the numbers with which they came.
use Rattle.std.proofs.Common.{◌≡◌, ℕ, ◌<◌, ◌%◌, ◌==◌, Bool, true, false, if◌then◌else◌, List, [], ◌∷◌, map, length, get_or, refl, sym, ap, ◌∙◌, subst, true≢false, inl, inr, Option, Some, None, option_map, is_some, arith}
use Rattle.std.proofs.Math.Bool.{or-false}
use Rattle.std.proofs.lemmas.Bool.{eq-eqb, ne_eqb}
use Rattle.std.proofs.lemmas.Bool.Decides.{eqb_tells}
use Rattle.std.proofs.lemmas.List.{length-map}
use Rattle.std.proofs.lemmas.List.Quantifiers.{position-Some}
use Rattle.of10_model.specs.declared.pattern.Pattern.{Pattern}
use Rattle.of10_model.specs.Pattern.{has}
use Rattle.of10_flow.specs.declared.flow_mod.FlowMod.{FlowMod}
use Rattle.of10_flow.specs.declared.packet_out.PacketOut.{PacketOut}
use Rattle.of10_flow.specs.declared.protocol.TheConstants.{NO_BUFFER}
use Rattle.of10_flow.specs.FlowMods.{spell_flow_mod}
use Rattle.of10_flow.specs.Tables.{is_delete}
use Rattle.buffer_map.specs.declared.held.Held.{Held}
use Rattle.buffer_map.specs.Buffers.{numbered as has_number, held_under as found_under}
use Rattle.flow_book.specs.declared.state.SliceState.{SliceState}
use Rattle.flowmod_expand.proofs.Walks.{flow_messages_length}
use Rattle.slice_words.specs.Items.{Settings, Sight, Item, buffered_count}
use Rattle.slice_words.specs.Pasts.{Outgoing, SendsOut, Past, view_in}
use Rattle.slice_words.specs.Buffers.{HeldPacket, is_named, held_packets, packet_under}
use Rattle.slice_words.specs.FlowMods.{Ground, ground_of, pieces_on, lists_on, packet_at, named_packet, flow_mods_on, piece_place, naming, carrier_of, sent_on}
use Rattle.slice_words.specs.PacketOuts.{packet_out_on, sent_out}
use Rattle.slice_words.specs.Alone.{number_it_came_with}
use Rattle.slice_words.specs.Standing.{SliceStands, past_of, held_as}
use Rattle.slice_words.proofs.Holding.{find_of_map, recent, number_tells, none_named, one_named}
use Rattle.slice_words.proofs.Forwarding.{numbered}
use Rattle.slice_side.specs.Reactions.{without_physical, Uses}
use Rattle.slice_side.specs.Checking.{held_for, carrier_in, packet_kept}

-- ---- the state and the view

-- the switch's numbers of these packets are those with which they came
abbrev pub HaveCome : List ℕ → List Held → Type 0
HaveCome came held = held ≡ map (held_as came) (map without_physical held)

kept_as : (came : List ℕ) (packets : List HeldPacket) → map without_physical (map (held_as came) packets) ≡ packets
kept_as came [] = refl
kept_as came (packet ∷ packets) = ap (λ (others : List HeldPacket). packet ∷ others) (kept_as came packets)

pub kept_held : (s : Settings) (sight : Sight) (state : SliceState) → SliceStands s sight state → map without_physical state.buffers.held ≡ held_packets (past_of s sight.view)
kept_held s sight state stands = ap (map without_physical) stands.held ∙ kept_as sight.came (held_packets (past_of s sight.view))

pub have_come : (s : Settings) (sight : Sight) (state : SliceState) → SliceStands s sight state → HaveCome sight.came state.buffers.held
have_come s sight state stands = stands.held ∙ sym (ap (map (held_as sight.came)) (kept_held s sight state stands))

-- ---- the packet under a number

kept_if : (none : Bool) (buffer : ℕ) (state : SliceState) (packets : List HeldPacket) → packets ≡ map without_physical state.buffers.held
    → option_map without_physical (if none then None else found_under buffer state.buffers.held) ≡ (if none then None else packet_under buffer packets)
kept_if true buffer state packets same = refl
kept_if false buffer state packets same =
    sym (find_of_map (λ (packet : HeldPacket). packet.ordinal % 16777216 == buffer) (has_number buffer) without_physical state.buffers.held (λ k d within. refl)) ∙ ap (packet_under buffer) (sym same)

-- without the switch's number it is the slice's
pub kept_packet : (state : SliceState) (g : Ground) (buffer : ℕ) → g.held ≡ map without_physical state.buffers.held → option_map without_physical (packet_kept state buffer) ≡ packet_at g buffer
kept_packet state g buffer same = kept_if (buffer == NO_BUFFER) buffer state g.held same

kept_unless : (deletes : Bool) (state : SliceState) (g : Ground) (buffer : ℕ) → g.held ≡ map without_physical state.buffers.held
    → option_map without_physical (if deletes then None else packet_kept state buffer) ≡ (if deletes then None else packet_at g buffer)
kept_unless true state g buffer same = refl
kept_unless false state g buffer same = kept_packet state g buffer same

pub kept_for : (state : SliceState) (g : Ground) (m : FlowMod) → g.held ≡ map without_physical state.buffers.held → option_map without_physical (held_for state m) ≡ named_packet g m
kept_for state g m same = kept_unless (is_delete m) state g m.buffer same

come_if : (none : Bool) (came : List ℕ) (buffer : ℕ) (held : List Held) → HaveCome came held
    → (if none then None else found_under buffer held) ≡ option_map (held_as came) (if none then None else packet_under buffer (map without_physical held))
come_if true came buffer held come = refl
come_if false came buffer held come =
    ap (found_under buffer) come ∙ find_of_map (has_number buffer) (λ (packet : HeldPacket). packet.ordinal % 16777216 == buffer) (held_as came) (map without_physical held) (λ k d within. refl)

-- the switch's number of it is that with which it came
pub come_packet : (came : List ℕ) (state : SliceState) (g : Ground) (buffer : ℕ) → HaveCome came state.buffers.held → g.held ≡ map without_physical state.buffers.held
    → packet_kept state buffer ≡ option_map (held_as came) (packet_at g buffer)
come_packet came state g buffer come same =
    come_if (buffer == NO_BUFFER) came buffer state.buffers.held come
    ∙ ap (λ (packets : List HeldPacket). option_map (held_as came) (if buffer == NO_BUFFER then None else packet_under buffer packets)) (sym same)

come_unless : (deletes : Bool) (came : List ℕ) (state : SliceState) (g : Ground) (buffer : ℕ) → HaveCome came state.buffers.held → g.held ≡ map without_physical state.buffers.held
    → (if deletes then None else packet_kept state buffer) ≡ option_map (held_as came) (if deletes then None else packet_at g buffer)
come_unless true came state g buffer come same = refl
come_unless false came state g buffer come same = come_packet came state g buffer come same

come_for : (came : List ℕ) (state : SliceState) (g : Ground) (m : FlowMod) → HaveCome came state.buffers.held → g.held ≡ map without_physical state.buffers.held
    → held_for state m ≡ option_map (held_as came) (named_packet g m)
come_for came state g m come same = come_unless (is_delete m) came state g m.buffer come same

-- ---- the piece that carries it

place_numbered : (came : List ℕ) (ordinal : ℕ) (place : Option ℕ) → option_map (λ (at : ℕ). (at, number_it_came_with came ordinal)) place ≡ numbered came (option_map (λ (at : ℕ). (at, ordinal)) place)
place_numbered came ordinal None = refl
place_numbered came ordinal (Some at) = refl

carrier_numbered : (came : List ℕ) (packet : Option HeldPacket) (pieces : List Pattern) → carrier_in (option_map (held_as came) packet) pieces ≡ numbered came (carrier_of packet pieces)
carrier_numbered came None pieces = refl
carrier_numbered came (Some packet) pieces = place_numbered came packet.ordinal (piece_place packet.header pieces)

pub carrier_come : (came : List ℕ) (state : SliceState) (g : Ground) (m : FlowMod) (pieces : List Pattern) → HaveCome came state.buffers.held → g.held ≡ map without_physical state.buffers.held
    → carrier_in (held_for state m) pieces ≡ numbered came (carrier_of (named_packet g m) pieces)
carrier_come came state g m pieces come same =
    ap (λ (packet : Option Held). carrier_in packet pieces) (come_for came state g m come same) ∙ carrier_numbered came (named_packet g m) pieces

number_there : (buffer : ℕ) (packet : Held) (place : Option ℕ)
    → option_map (λ (own : ℕ × ℕ). buffer) (option_map (λ (at : ℕ). (at, packet.physical)) place) ≡ option_map (λ (own : ℕ × ℕ). buffer) (option_map (λ (at : ℕ). (at, packet.ordinal)) place)
number_there buffer packet None = refl
number_there buffer packet (Some at) = refl

number_kept : (buffer : ℕ) (packet : Option Held) (pieces : List Pattern)
    → option_map (λ (own : ℕ × ℕ). buffer) (carrier_in packet pieces) ≡ option_map (λ (own : ℕ × ℕ). buffer) (carrier_of (option_map without_physical packet) pieces)
number_kept buffer None pieces = refl
number_kept buffer (Some packet) pieces = number_there buffer packet (piece_place packet.header pieces)

-- the packet is used up by the number that the flow-mod names it by
pub used_same : (state : SliceState) (g : Ground) (m : FlowMod) (pieces : List Pattern) → g.held ≡ map without_physical state.buffers.held
    → option_map (λ (own : ℕ × ℕ). m.buffer) (carrier_in (held_for state m) pieces) ≡ option_map (λ (own : ℕ × ℕ). m.buffer) (carrier_of (named_packet g m) pieces)
used_same state g m pieces same =
    number_kept m.buffer (held_for state m) pieces ∙ ap (λ (packet : Option HeldPacket). option_map (λ (own : ℕ × ℕ). m.buffer) (carrier_of packet pieces)) (kept_for state g m same)

-- ---- what is used up

same_flipped : (a b : ℕ) → (a == b) ≡ (b == a)
same_flipped a b = elim (eqb_tells a b) [
  | inl same ↦ same.0 ∙ sym (eq-eqb b a (sym same.1))
  | inr apart ↦ apart.0 ∙ sym (ne_eqb b a (λ e. apart.1 (sym e)))
]

module _ (past : List Past) (buffer : ℕ) where
  abbrev packets : List HeldPacket
  packets = held_packets past

  -- what is found under the number is found among the packets that are held
  abbrev pub IsFound : Option HeldPacket → Type 0
  IsFound found = (packet : HeldPacket) → found ≡ Some packet → packet_under buffer (held_packets past) ≡ Some packet

  -- messages that name a packet just where it is the one of the number
  uses_one : (packet : HeldPacket) (messages : List Outgoing) → packet_under buffer packets ≡ Some packet → ((ordinal : ℕ) → is_named ordinal messages ≡ (packet.ordinal == ordinal)) → Uses (Some buffer) packets messages
  uses_one packet messages is named = λ k d within.
      let other = get_or packets k d in
      named other.ordinal ∙ same_flipped packet.ordinal other.ordinal ∙ sym (number_tells (buffered_count (view_in past)) buffer packets packet (recent past) is k d within)

  uses_place : (packet : HeldPacket) (place : Option ℕ) (ms : List FlowMod) → packet_under buffer packets ≡ Some packet → ((at : ℕ) → place ≡ Some at → at < length ms)
      → Uses (option_map (λ (own : ℕ × ℕ). buffer) (option_map (λ (at : ℕ). (at, packet.ordinal)) place)) packets (naming (option_map (λ (at : ℕ). (at, packet.ordinal)) place) 0 ms)
  uses_place packet None ms is within = λ k d less. none_named (get_or packets k d).ordinal 0 ms
  uses_place packet (Some at) ms is within = uses_one packet (naming (Some (at, packet.ordinal)) 0 ms) is (λ ordinal. one_named ordinal (at, packet.ordinal) 0 ms (omega arith) (let less = within at refl in omega (arith, less)))

  -- the flow-mods name the packet that the piece carries
  pub uses_carried : (any : Pattern) (found : Option HeldPacket) (pieces : List Pattern) (ms : List FlowMod) → IsFound found → length ms ≡ length pieces
      → Uses (option_map (λ (own : ℕ × ℕ). buffer) (carrier_of found pieces)) packets (naming (carrier_of found pieces) 0 ms)
  uses_carried any None pieces ms is same = λ k d less. none_named (get_or packets k d).ordinal 0 ms
  uses_carried any (Some packet) pieces ms is same =
      uses_place packet (piece_place packet.header pieces) ms (is packet refl)
      (λ at there. subst (λ (n : ℕ). at < n) (sym same) (position-Some (λ piece. has piece packet.header) pieces at any there).0)

  -- so does a packet-out
  pub uses_out : (found : Option HeldPacket) (out : PacketOut) → IsFound found
      → Uses (option_map (λ (packet : HeldPacket). buffer) found) packets (SendsOut out (option_map (λ (packet : HeldPacket). packet.ordinal) found) ∷ [])
  uses_out None out is = λ k d less. refl
  uses_out (Some packet) out is = uses_one packet (SendsOut out (Some packet.ordinal) ∷ []) (is packet refl) (λ ordinal. or-false (packet.ordinal == ordinal))

found_if : (deletes none : Bool) (buffer : ℕ) (held : List HeldPacket) (packet : HeldPacket) → (if deletes then None else if none then None else packet_under buffer held) ≡ Some packet → packet_under buffer held ≡ Some packet
found_if true none buffer held packet is = absurd (true≢false (sym (ap is_some is)))
found_if false true buffer held packet is = absurd (true≢false (sym (ap is_some is)))
found_if false false buffer held packet is = is

module _ (s : Settings) (view : List Item) (past : List Past) where
  abbrev ground : Ground
  ground = ground_of s view past

  lists_length : (m : FlowMod) → length (lists_on ground m) ≡ length (pieces_on ground m)
  lists_length m = length-map (pieces_on ground m) _

  mods_length : (m : FlowMod) → length (flow_mods_on ground m) ≡ length (pieces_on ground m)
  mods_length m = sym (length-map (flow_mods_on ground m) spell_flow_mod) ∙ flow_messages_length m ground.xid (pieces_on ground m) (lists_on ground m) None (lists_length m)

  -- what a flow-mod uses up is what is sent on for it names
  pub uses_sent : (m : FlowMod) (used : Option ℕ) → used ≡ option_map (λ (own : ℕ × ℕ). m.buffer) (carrier_of (named_packet ground m) (pieces_on ground m)) → Uses used (held_packets past) (sent_on ground m)
  uses_sent m used is =
      subst (λ (number : Option ℕ). Uses number (held_packets past) (sent_on ground m)) (sym is)
      (uses_carried past m.buffer m.pattern (named_packet ground m) (pieces_on ground m) (flow_mods_on ground m) (found_if (is_delete m) (m.buffer == NO_BUFFER) m.buffer (held_packets past)) (mods_length m))

  -- so it is of a packet-out
  pub uses_sent_out : (m : PacketOut) (used : Option ℕ) → used ≡ option_map (λ (packet : HeldPacket). m.buffer) (packet_at ground m.buffer) → Uses used (held_packets past) (sent_out ground m)
  uses_sent_out m used is =
      subst (λ (number : Option ℕ). Uses number (held_packets past) (sent_out ground m)) (sym is)
      (uses_out past m.buffer (packet_at ground m.buffer) (packet_out_on ground m) (found_if false (m.buffer == NO_BUFFER) m.buffer (held_packets past)))
