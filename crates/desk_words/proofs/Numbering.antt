-- Under the number with which a packet came that a slice holds no packet came since, over every history.
use Rattle.std.proofs.Common.{◌≡◌, ◌≢◌, ℕ, ◌+◌, ◌-◌, ◌<◌, ◌==◌, ◌||◌, ◌&&◌, ◌⊎◌, not, Bool, true, false, true≢false, if◌then◌else◌, List, [], ◌∷◌, ◌++◌, length, get_or, filter, map, refl, sym, ap, ◌∙◌, subst, Option, Some, None, is_some, unwrap_or, suc, inl, inr, arith, Result, Ok}
use Rattle.std.specs.Prelude.{option_and_then}
use Rattle.std.specs.List.{All}
use Rattle.std.proofs.lemmas.Bool.{cases_Bool, eq-eqb, ne_eqb, or_parts}
use Rattle.std.proofs.lemmas.Bool.Decides.{eqb_tells}
use Rattle.std.proofs.lemmas.List.{get_or-reverse}
use Rattle.std.proofs.lemmas.List.Elements.{All-nil, All-cons, All-filter, All-weaker, filter_passes}
use Rattle.std.proofs.lemmas.Option.{none-some}
use Rattle.of10_model.specs.Normal.{is_value, bit}
use Rattle.of10_flow.specs.declared.protocol.TheConstants.{NO_BUFFER}
use Rattle.of10_flow.specs.declared.packet_in.PacketIn.{PacketIn}
use Rattle.flowspace.specs.declared.rules.Rule.{Rule}
use Rattle.flowspace.specs.Order.{writer_of, readers_of}
use Rattle.flowspace.specs.Policies.{PolicyView}
use Rattle.slice_words.specs.Items.{Settings, Writer, Reader, Probe, Packet, Item, Opened as Told, Up, Down, Msg, Lost, Handed, Removed, Status, Fault, Barrier, Queues, Entry, Last, End, is_up, is_own_port, is_buffered, buffered_count, hands_up_buffered}
use Rattle.slice_words.specs.Messages.{is_dismissing}
use Rattle.slice_words.specs.Pasts.{Answer, view_in}
use Rattle.slice_words.specs.Buffers.{HeldPacket, packet_header, is_named, is_recent_packet, held_after, held_packets}
use Rattle.slice_words.specs.Answers.{answer}
use Rattle.slice_words.specs.Alone.{number_it_came_with, with_items, answer_to}
use Rattle.slice_words.specs.Standing.{past_of}
use Rattle.slice_words.proofs.Holding.{recent, view_in-played}
use Rattle.desk_words.specs.Histories.{is_slot, settings_at, header_in, handed, packet_said, packet_in_read, number_given, marked_slot, packet_items, packet_in_items, said_items, message_items, event_items, opening_items, phase_items, number_told, with_shown, side_start, side_of, Numbered, SliceSide, holder, is_any_given, came_with, numbered_with}
use Rattle.desk_words.specs.Numbers.{AreNumbered}
use Rattle.of10_message.specs.declared.fault.Unread.{Unread}
use Rattle.of10_message.specs.Heads.{xid_of}
use Rattle.of10_message.specs.Switch as says
use Rattle.of10_message.specs.Switch.{SwitchMessage, read_switch}
use Rattle.of10_port.specs.Ports.{port_number}
use Rattle.of10_port.specs.declared.features.Features.{Features}
use Rattle.port_view.specs.KnownPorts.{is_kept}
use Rattle.desk_words.specs.declared.event.Event.{Event}
use Rattle.desk_words.specs.declared.event.Event.TheVariants.{SwitchUp, SwitchMsg, SwitchDown, SliceUp, SliceMsg, SliceDown}
use Rattle.desk_words.specs.declared.event.Timed.{Timed}
use Rattle.desk_words.specs.declared.phase.Phase.{Phase}
use Rattle.desk_words.specs.declared.phase.Phase.TheVariants.{Fresh, Begun, Opened, Gone}
use Rattle.desk_words.specs.Openings.{opening_with, rules_of, KnownSwitch, switch_of, phase_of}
use Rattle.desk_words.proofs.Silence.{none_or, none_of_others}

-- ---- numbers

holder_here : (number : ℕ) (ordinal : Option ℕ) (numbered : List Numbered) → holder number (record { number = number; ordinal = ordinal } ∷ numbered) ≡ ordinal
holder_here number ordinal numbered = rw (eq-eqb number number refl) refl

holder_other : (number other : ℕ) (ordinal : Option ℕ) (numbered : List Numbered) → other ≢ number → holder number (record { number = other; ordinal = ordinal } ∷ numbered) ≡ holder number numbered
holder_other number other ordinal numbered apart = rw (ne_eqb other number apart) refl

-- the numbers of earlier packets stay
pub number_earlier : (number : ℕ) (came : List ℕ) (k : ℕ) → k < length came → number_it_came_with (number ∷ came) k ≡ number_it_came_with came k
number_earlier number came k within =
    get_or-reverse (number ∷ came) k NO_BUFFER (omega (arith, within))
    ∙ ap (λ i. get_or (number ∷ came) i NO_BUFFER) {y = suc (length came - 1 - k)} (omega (arith, within))
    ∙ sym (get_or-reverse came k NO_BUFFER within)

-- the newest packet has the newest number
pub number_newest : (number : ℕ) (came : List ℕ) → number_it_came_with (number ∷ came) (length came) ≡ number
number_newest number came =
    get_or-reverse (number ∷ came) (length came) NO_BUFFER (omega arith)
    ∙ ap (λ i. get_or (number ∷ came) i NO_BUFFER) {y = 0} (omega arith)

-- ---- what is held after items of which none is given

-- the packets that a slice holds after a view
abbrev pub held_in : Settings → List Item → List HeldPacket
held_in s view = held_packets (past_of s view)

kept_filter : (P : HeldPacket → Type 0) (dropped : Bool) (p : HeldPacket → Bool) (held : List HeldPacket) → All P held → All P (if dropped then [] else filter p held)
kept_filter P true p held all = All-nil P
kept_filter P false p held all = All-filter p P held all

not_given : (P : HeldPacket → Type 0) (given : Bool) (packet : HeldPacket) (newer held : List HeldPacket) → given ≡ false → All P held → All P (if given then packet ∷ newer else held)
not_given P true packet newer held none all = absurd (true≢false none)
not_given P false packet newer held none all = all

-- an item that gives none leaves of those that are held some, and their count
kept_after : (P : HeldPacket → Type 0) (count : ℕ) (item : Item) (a : Answer) (held : List HeldPacket) → hands_up_buffered item ≡ false → All P held → All P (held_after count item a held)
kept_after P count Up a held none all = All-nil P
kept_after P count Down a held none all = All-nil P
kept_after P count (Msg message moment) a held none all = kept_filter P (is_dismissing message) (λ packet. not (is_named packet.ordinal a.to_switch)) held all
kept_after P count (Lost k) a held none all = All-filter (λ packet. not (packet.ordinal == k)) P held all
kept_after P count (Handed packet) a held none all = not_given P (is_buffered packet.share) (record { ordinal = count; header = packet_header packet }) (filter (is_recent_packet (count + 1)) held) held none all
kept_after P count (Told features) a held none all = all
kept_after P count (Removed entry) a held none all = all
kept_after P count (Status status) a held none all = all
kept_after P count (Fault x class code pair) a held none all = all
kept_after P count (Barrier x) a held none all = all
kept_after P count (Queues x body) a held none all = all
kept_after P count (Entry x kind bytes) a held none all = all
kept_after P count (Last x kind) a held none all = all
kept_after P count End a held none all = all

same_count : (item : Item) (view : List Item) → hands_up_buffered item ≡ false → buffered_count (item ∷ view) ≡ buffered_count view
same_count (Handed packet) view none = rw none refl
same_count Up view none = refl
same_count Down view none = refl
same_count (Msg message moment) view none = refl
same_count (Lost k) view none = refl
same_count (Told features) view none = refl
same_count (Removed entry) view none = refl
same_count (Status status) view none = refl
same_count (Fault x class code pair) view none = refl
same_count (Barrier x) view none = refl
same_count (Queues x body) view none = refl
same_count (Entry x kind bytes) view none = refl
same_count (Last x kind) view none = refl
same_count End view none = refl

pub same_count_all : (items view : List Item) → is_any_given items ≡ false → buffered_count (with_items items view) ≡ buffered_count view
same_count_all [] view none = refl
same_count_all (item ∷ items) view none =
    let parts = or_parts (hands_up_buffered item) (is_any_given items) none in
    same_count_all items (item ∷ view) parts.1 ∙ same_count item view parts.0

pub kept_all : (P : HeldPacket → Type 0) (s : Settings) (items view : List Item) → is_any_given items ≡ false → All P (held_in s view) → All P (held_in s (with_items items view))
kept_all P s [] view none all = all
kept_all P s (item ∷ items) view none all =
    let parts = or_parts (hands_up_buffered item) (is_any_given items) none in
    kept_all P s items (item ∷ view) parts.1
    (kept_after P (buffered_count (view_in (past_of s view))) item (answer_to s view item) (held_in s view) parts.0 all)

-- ---- an event that hands up no packet with a number

pub still_numbered : (s : Settings) (side : SliceSide) (items : List Item) → is_any_given items ≡ false → AreNumbered s side
    → AreNumbered s (record { sight = record { view = with_items items side.sight.view; came = side.sight.came }; numbered = side.numbered })
still_numbered s side items none n = record {
  count = n.count ∙ sym (same_count_all items side.sight.view none);
  held = kept_all (λ packet. holder (number_it_came_with side.sight.came packet.ordinal) side.numbered ≡ Some packet.ordinal) s items side.sight.view none n.held;
  given = n.given;
  came = n.came;
}

-- ---- what is lost

-- what is lost where a number comes
abbrev pub lost_of : Option ℕ → List Item
lost_of lost = elim lost [ None ↦ [] | Some k ↦ Lost k ∷ [] ]

-- a packet's number is another one
abbrev IsOther : ℕ → List ℕ → HeldPacket → Type 0
IsOther number came packet = number_it_came_with came packet.ordinal ≢ number

lost_other : (number : ℕ) (came : List ℕ) (numbered : List Numbered) (held : List HeldPacket) (lost : Option ℕ) → holder number numbered ≡ lost
    → All (λ packet. holder (number_it_came_with came packet.ordinal) numbered ≡ Some packet.ordinal) held
    → (packet : HeldPacket) → holder (number_it_came_with came packet.ordinal) numbered ≡ Some packet.ordinal → number_it_came_with came packet.ordinal ≡ number → lost ≡ Some packet.ordinal
lost_other number came numbered held lost is all packet at same = sym is ∙ ap (λ n. holder n numbered) (sym same) ∙ at

-- after what is lost no packet that is held has the number
pub apart_after : (s : Settings) (side : SliceSide) (number : ℕ) (lost : Option ℕ) → holder number side.numbered ≡ lost → AreNumbered s side
    → All (IsOther number side.sight.came) (held_in s (with_items (lost_of lost) side.sight.view))
apart_after s side number None is n =
    λ k d within. λ same. none-some (get_or (held_in s side.sight.view) k d).ordinal (lost_other number side.sight.came side.numbered (held_in s side.sight.view) None is n.held (get_or (held_in s side.sight.view) k d) (n.held k d within) same)
apart_after s side number (Some j) is n =
    λ k d within. λ same.
    let stays = filter (λ packet. not (packet.ordinal == j)) (held_in s side.sight.view) in
    let P : HeldPacket → Type 0 = λ packet. holder (number_it_came_with side.sight.came packet.ordinal) side.numbered ≡ Some packet.ordinal in
    let at = All-filter (λ packet. not (packet.ordinal == j)) P (held_in s side.sight.view) n.held k d within in
    let passes = filter_passes (λ packet. not (packet.ordinal == j)) (held_in s side.sight.view) k d within in
    let found = lost_other number side.sight.came side.numbered (held_in s side.sight.view) (Some j) is n.held (get_or stays k d) at same in
    true≢false (sym passes ∙ ap not (eq-eqb (get_or stays k d).ordinal j (sym (ap (λ (o : Option ℕ). unwrap_or o j) found))))

-- ---- an event that hands up a packet with a number

-- of the items of a packet none is given, or the first is and no other
pub data IsShown (items : List Item) : Type 0 where
  NoneGiven : is_any_given items ≡ false → IsShown items
  FirstGiven : (packet : Packet) (rest : List Item) → items ≡ Handed packet ∷ rest → is_buffered packet.share ≡ true → is_any_given rest ≡ false → IsShown items

-- one packet-in with a number after which none is given: the number names no packet of the slice any more
number_taken : (s : Settings) (side : SliceSide) (number : ℕ) (view : List Item) → length side.sight.came ≡ buffered_count view
    → All (λ packet. holder (number_it_came_with side.sight.came packet.ordinal) side.numbered ≡ Some packet.ordinal) (held_in s view)
    → All (IsOther number side.sight.came) (held_in s view) → AreNumbered s side
    → AreNumbered s (record { sight = record { view = view; came = side.sight.came }; numbered = record { number = number; ordinal = None } ∷ side.numbered })
number_taken s side number view count held apart n = record {
  count = count;
  held = λ k d within. holder_other (number_it_came_with side.sight.came (get_or (held_in s view) k d).ordinal) number None side.numbered (λ e. apart k d within (sym e)) ∙ held k d within;
  given = λ q ordinal is. n.given q ordinal (earlier q ordinal is);
  came = λ q ordinal is. n.came q ordinal (earlier q ordinal is);
}
  where
    earlier : (q ordinal : ℕ) → holder q (record { number = number; ordinal = None } ∷ side.numbered) ≡ Some ordinal → holder q side.numbered ≡ Some ordinal
    earlier q ordinal is = elim (eqb_tells number q) [
      | inl same ↦ absurd (none-some ordinal (rw same.0 at is))
      | inr other ↦ (rw other.0 at is)
    ]

-- one after which the slice's packet has the number
number_given_to : (s : Settings) (side : SliceSide) (number : ℕ) (view : List Item) → length side.sight.came + 1 ≡ buffered_count view
    → All (λ packet. (packet.ordinal ≡ length side.sight.came) ⊎ ((packet.ordinal < length side.sight.came) × (holder (number_it_came_with side.sight.came packet.ordinal) side.numbered ≡ Some packet.ordinal) × IsOther number side.sight.came packet)) (held_in s view)
    → AreNumbered s side
    → AreNumbered s (record { sight = record { view = view; came = number ∷ side.sight.came }; numbered = record { number = number; ordinal = Some (length side.sight.came) } ∷ side.numbered })
number_given_to s side number view count all n = record {
  count = omega (arith, count);
  held = λ k d within. of_one (get_or (held_in s view) k d) (all k d within);
  given = given_now;
  came = came_now;
}
  where
    now : List Numbered
    now = record { number = number; ordinal = Some (length side.sight.came) } ∷ side.numbered

    of_one : (packet : HeldPacket) → (packet.ordinal ≡ length side.sight.came) ⊎ ((packet.ordinal < length side.sight.came) × (holder (number_it_came_with side.sight.came packet.ordinal) side.numbered ≡ Some packet.ordinal) × IsOther number side.sight.came packet)
        → holder (number_it_came_with (number ∷ side.sight.came) packet.ordinal) now ≡ Some packet.ordinal
    of_one packet (inl newest) =
        ap (λ k. holder (number_it_came_with (number ∷ side.sight.came) k) now) newest
        ∙ ap (λ q. holder q now) (number_newest number side.sight.came)
        ∙ holder_here number (Some (length side.sight.came)) side.numbered
        ∙ ap (λ k. Some k) (sym newest)
    of_one packet (inr older) =
        ap (λ q. holder q now) (number_earlier number side.sight.came packet.ordinal older.0)
        ∙ holder_other (number_it_came_with side.sight.came packet.ordinal) number (Some (length side.sight.came)) side.numbered (λ e. older.2 (sym e))
        ∙ older.1

    given_now : (q ordinal : ℕ) → holder q now ≡ Some ordinal → ordinal < length (number ∷ side.sight.came)
    given_now q ordinal is = elim (eqb_tells number q) [
      | inl same ↦
          let own : Some (length side.sight.came) ≡ Some ordinal = rw same.0 at is in
          let at_end : length side.sight.came ≡ ordinal = ap (λ (o : Option ℕ). unwrap_or o ordinal) own in
          omega (arith, at_end)
      | inr other ↦ let before = n.given q ordinal (rw other.0 at is) in omega (arith, before)
    ]

    came_now : (q ordinal : ℕ) → holder q now ≡ Some ordinal → number_it_came_with (number ∷ side.sight.came) ordinal ≡ q
    came_now q ordinal is = elim (eqb_tells number q) [
      | inl same ↦
          let own : Some (length side.sight.came) ≡ Some ordinal = rw same.0 at is in
          let at_end : length side.sight.came ≡ ordinal = ap (λ (o : Option ℕ). unwrap_or o ordinal) own in
          ap (λ k. number_it_came_with (number ∷ side.sight.came) k) (sym at_end) ∙ number_newest number side.sight.came ∙ same.1
      | inr other ↦
          let before : holder q side.numbered ≡ Some ordinal = rw other.0 at is in
          number_earlier number side.sight.came ordinal (n.given q ordinal before) ∙ n.came q ordinal before
    ]

-- what a packet shows a slice, by whether the slice is up, whom its mark names, and who writes and reads it
shape_by : (packet : PacketIn) (up : Bool) (marked : Option ℕ) (slot : ℕ) (writes reads numbered : Bool) → numbered ≡ true
    → IsShown (if up then map (λ share. handed share packet) (elim marked [ None ↦ (if writes then Writer numbered ∷ [] else []) ++ (if reads then Reader ∷ [] else []) | Some other ↦ if other == slot then Probe ∷ [] else [] ]) else [])
shape_by packet false marked slot writes reads numbered is = NoneGiven refl
shape_by packet true None slot true true numbered is = FirstGiven (record { share = Writer numbered; total_len = packet.total_len; in_port = packet.in_port; reason = packet.reason; payload = packet.payload }) (handed Reader packet ∷ []) refl is refl
shape_by packet true None slot true false numbered is = FirstGiven (record { share = Writer numbered; total_len = packet.total_len; in_port = packet.in_port; reason = packet.reason; payload = packet.payload }) [] refl is refl
shape_by packet true None slot false true numbered is = NoneGiven refl
shape_by packet true None slot false false numbered is = NoneGiven refl
shape_by packet true (Some other) slot writes reads numbered is = elim (cases_Bool (other == slot)) [
  | inl own ↦ rw own (NoneGiven refl)
  | inr another ↦ rw another (NoneGiven refl)
]

pub shape : (policy : PolicyView) (rules : List Rule) (slot : ℕ) (view : List Item) (packet : PacketIn) → is_some (number_given packet) ≡ true → IsShown (packet_items policy rules slot view packet)
shape policy rules slot view packet is =
    shape_by packet (is_up view) (marked_slot (length policy.slices) packet.payload) slot (is_value slot (writer_of rules (header_in packet))) (bit (readers_of rules (header_in packet)) slot) (is_some (number_given packet)) is

-- what a slice sees with what a packet with a number shows, where it saw a view after what was lost
abbrev shown_with : ℕ → List Item → List Item → SliceSide → SliceSide
shown_with number shown view side = record {
  sight = record { view = with_items shown view; came = if is_any_given shown then number ∷ side.sight.came else side.sight.came };
  numbered = record { number = number; ordinal = if is_any_given shown then Some (buffered_count side.sight.view) else None } ∷ side.numbered;
}

-- a packet that is held has its number and was given before this one
abbrev IsEarlier : ℕ → SliceSide → HeldPacket → Type 0
IsEarlier number side packet =
    (packet.ordinal < length side.sight.came) × (holder (number_it_came_with side.sight.came packet.ordinal) side.numbered ≡ Some packet.ordinal) × IsOther number side.sight.came packet

abbrev IsOldOrNew : ℕ → SliceSide → HeldPacket → Type 0
IsOldOrNew number side packet = (packet.ordinal ≡ length side.sight.came) ⊎ IsEarlier number side packet

given_first : (s : Settings) (side : SliceSide) (number : ℕ) (view : List Item) (packet : Packet) (given : Bool) → is_buffered packet.share ≡ given → given ≡ true → buffered_count view ≡ length side.sight.came
    → All (IsEarlier number side) (held_in s view) → All (IsOldOrNew number side) (held_in s (Handed packet ∷ view))
given_first s side number view packet false buffered is count all = absurd (true≢false (sym is))
given_first s side number view packet true buffered is count all =
    let own = buffered_count (view_in (past_of s view)) in
    let newest : HeldPacket = record { ordinal = own; header = packet_header packet } in
    rw buffered
    (All-cons (IsOldOrNew number side) newest (filter (is_recent_packet (own + 1)) (held_in s view))
    (inl (ap buffered_count (view_in-played (answer s) view) ∙ count))
    (All-filter (is_recent_packet (own + 1)) (IsOldOrNew number side) (held_in s view) (All-weaker (IsEarlier number side) (IsOldOrNew number side) (λ packet_ early. inr early) (held_in s view) all)))

more_count : (packet : Packet) (view : List Item) → is_buffered packet.share ≡ true → buffered_count (Handed packet ∷ view) ≡ buffered_count view + 1
more_count packet view buffered = rw buffered refl

earlier_all : (s : Settings) (side : SliceSide) (number : ℕ) (view : List Item) → buffered_count view ≡ length side.sight.came
    → All (λ packet. holder (number_it_came_with side.sight.came packet.ordinal) side.numbered ≡ Some packet.ordinal) (held_in s view) → All (IsOther number side.sight.came) (held_in s view)
    → All (IsEarlier number side) (held_in s view)
earlier_all s side number view count held apart =
    λ k d within.
    let young = recent (past_of s view) k d within in
    let counted : buffered_count (view_in (past_of s view)) ≡ length side.sight.came = ap buffered_count (view_in-played (answer s) view) ∙ count in
    (omega (arith, young.0, counted), held k d within, apart k d within)

step_shown : (s : Settings) (side : SliceSide) (number : ℕ) (view shown : List Item) → buffered_count view ≡ buffered_count side.sight.view
    → All (λ packet. holder (number_it_came_with side.sight.came packet.ordinal) side.numbered ≡ Some packet.ordinal) (held_in s view) → All (IsOther number side.sight.came) (held_in s view)
    → AreNumbered s side → IsShown shown → AreNumbered s (shown_with number shown view side)
step_shown s side number view shown count held apart n (NoneGiven none) =
    rw none
    (number_taken s side number (with_items shown view) (n.count ∙ sym count ∙ sym (same_count_all shown view none))
    (kept_all (λ packet. holder (number_it_came_with side.sight.came packet.ordinal) side.numbered ≡ Some packet.ordinal) s shown view none held)
    (kept_all (IsOther number side.sight.came) s shown view none apart) n)
step_shown s side number view shown count held apart n (FirstGiven packet rest is buffered none) =
    let own : buffered_count view ≡ length side.sight.came = count ∙ sym n.count in
    let given : is_any_given (Handed packet ∷ rest) ≡ true = ap (λ (b : Bool). b || is_any_given rest) buffered in
    subst (λ items. AreNumbered s (shown_with number items view side)) (sym is)
    (rw (given, sym n.count)
    (number_given_to s side number (with_items rest (Handed packet ∷ view))
    (omega (arith, same_count_all rest (Handed packet ∷ view) none, more_count packet view buffered, own))
    (kept_all (IsOldOrNew number side) s rest (Handed packet ∷ view) none
    (given_first s side number view packet (is_buffered packet.share) refl buffered own (earlier_all s side number view own held apart)))
    n))

-- ---- events

-- a packet-in with a number, at a slot of the policy
numbered_packet : (s : Settings) (policy : PolicyView) (rules : List Rule) (slot : ℕ) (side : SliceSide) (packet : PacketIn) (number : ℕ) (lost : Option ℕ) → holder number side.numbered ≡ lost → is_some (number_given packet) ≡ true
    → AreNumbered s side → AreNumbered s (shown_with number (packet_items policy rules slot side.sight.view packet) (with_items (lost_of lost) side.sight.view) side)
numbered_packet s policy rules slot side packet number None is some n =
    step_shown s side number side.sight.view (packet_items policy rules slot side.sight.view packet) refl n.held (apart_after s side number None is n) n (shape policy rules slot side.sight.view packet some)
numbered_packet s policy rules slot side packet number (Some j) is some n =
    step_shown s side number (Lost j ∷ side.sight.view) (packet_items policy rules slot side.sight.view packet) refl
    (kept_all (λ packet_. holder (number_it_came_with side.sight.came packet_.ordinal) side.numbered ≡ Some packet_.ordinal) s (Lost j ∷ []) side.sight.view refl n.held)
    (apart_after s side number (Some j) is n) n (shape policy rules slot side.sight.view packet some)

-- the same with what is lost before what is shown
lost_first : (s : Settings) (side : SliceSide) (number : ℕ) (shown : List Item) (lost : Option ℕ) → AreNumbered s (shown_with number shown (with_items (lost_of lost) side.sight.view) side)
    → AreNumbered s (record {
      sight = record { view = with_items (lost_of lost ++ shown) side.sight.view; came = came_with (Some number) (lost_of lost ++ shown) side.sight.came };
      numbered = numbered_with (Some number) (lost_of lost ++ shown) side.sight.view side.numbered;
    })
lost_first s side number shown None n = n
lost_first s side number shown (Some j) n = n

-- none of the items of a packet without a number is given
plain_shares : (packet : PacketIn) (up : Bool) (marked : Option ℕ) (slot : ℕ) (writes reads numbered : Bool) → numbered ≡ false
    → is_any_given (if up then map (λ share. handed share packet) (elim marked [ None ↦ (if writes then Writer numbered ∷ [] else []) ++ (if reads then Reader ∷ [] else []) | Some other ↦ if other == slot then Probe ∷ [] else [] ]) else []) ≡ false
plain_shares packet false marked slot writes reads numbered is = refl
plain_shares packet true None slot true true numbered is = rw is refl
plain_shares packet true None slot true false numbered is = rw is refl
plain_shares packet true None slot false true numbered is = refl
plain_shares packet true None slot false false numbered is = refl
plain_shares packet true (Some other) slot writes reads numbered is = elim (cases_Bool (other == slot)) [
  | inl own ↦ rw own refl
  | inr another ↦ rw another refl
]

-- what a slice sees after these items, of which one may have a number
abbrev after_items : Option ℕ → List Item → SliceSide → SliceSide
after_items number items side = record {
  sight = record { view = with_items items side.sight.view; came = came_with number items side.sight.came };
  numbered = numbered_with number items side.sight.view side.numbered;
}

one_packet : (s : Settings) (policy : PolicyView) (rules : List Rule) (slot : ℕ) (side : SliceSide) (packet : PacketIn) (number : Option ℕ) → number_given packet ≡ number → AreNumbered s side
    → AreNumbered s (after_items number (lost_of (option_and_then (λ q. holder q side.numbered) number) ++ packet_items policy rules slot side.sight.view packet) side)
one_packet s policy rules slot side packet None is n =
    still_numbered s side (packet_items policy rules slot side.sight.view packet)
    (plain_shares packet (is_up side.sight.view) (marked_slot (length policy.slices) packet.payload) slot (is_value slot (writer_of rules (header_in packet))) (bit (readers_of rules (header_in packet)) slot) (is_some (number_given packet)) (ap is_some is)) n
one_packet s policy rules slot side packet (Some q) is n =
    lost_first s side q (packet_items policy rules slot side.sight.view packet) (holder q side.numbered)
    (numbered_packet s policy rules slot side packet q (holder q side.numbered) refl (ap is_some is) n)

by_packet : (s : Settings) (policy : PolicyView) (rules : List Rule) (slot : ℕ) (side : SliceSide) (packet : PacketIn) → AreNumbered s side
    → AreNumbered s (after_items (number_given packet) (packet_in_items policy rules slot side packet) side)
by_packet s policy rules slot side packet n = one_packet s policy rules slot side packet (number_given packet) refl n

-- other messages give no packet
pub none_given : (policy : PolicyView) (slot : ℕ) (switch : KnownSwitch) (side : SliceSide) (xid : ℕ) (said : Result SwitchMessage Unread) → packet_said said ≡ None → is_any_given (said_items policy slot switch side xid said) ≡ false
none_given policy slot switch side xid (Ok (says.PortStatus status)) none =
    let s = settings_at policy slot switch.features in
    none_or hands_up_buffered (is_kept status switch.known && is_own_port s.slot s.patterns (port_number status.port)) (Status status ∷ []) refl
none_given policy slot switch side xid said none =
    none_of_others hands_up_buffered policy slot switch side xid said (record {
      end = refl;
      removed = λ entry. refl;
      fault = λ x class code pair. refl;
      reply = record { barrier = λ x. refl; queues = λ x body. refl; entry = λ x kind bytes. refl; last = λ x kind. refl };
    }) none refl

by_said : (s : Settings) (policy : PolicyView) (slot : ℕ) (switch : KnownSwitch) (side : SliceSide) (xid : ℕ) (said : Result SwitchMessage Unread) → AreNumbered s side
    → AreNumbered s (after_items (option_and_then number_given (packet_said said)) (said_items policy slot switch side xid said) side)
by_said s policy slot switch side xid (Ok (says.PacketIn packet)) n = by_packet s policy (rules_of policy switch.features) slot side packet n
by_said s policy slot switch side xid said n = still_numbered s side (said_items policy slot switch side xid said) (none_given policy slot switch side xid said refl) n

by_message : (s : Settings) (policy : PolicyView) (slot : ℕ) (switch : KnownSwitch) (side : SliceSide) (message : List ℕ) → AreNumbered s side
    → AreNumbered s (after_items (option_and_then number_given (packet_in_read message)) (message_items policy slot switch side message) side)
unfolding message_items
by_message s policy slot switch side message n = by_said s policy slot switch side (xid_of message) (read_switch message) n

by_event : (s : Settings) (policy : PolicyView) (slot moment : ℕ) (switch : KnownSwitch) (side : SliceSide) (event : Event) → AreNumbered s side
    → AreNumbered s (after_items (number_told Opened event) (event_items policy slot switch side moment event) side)
by_event s policy slot moment switch side SwitchUp n = n
by_event s policy slot moment switch side (SwitchMsg message) n = by_message s policy slot switch side message n
by_event s policy slot moment switch side SwitchDown n = still_numbered s side (End ∷ []) refl n
by_event s policy slot moment switch side (SliceUp other) n = still_numbered s side (if other == slot then Up ∷ [] else []) (none_or hands_up_buffered (other == slot) (Up ∷ []) refl) n
by_event s policy slot moment switch side (SliceMsg other message) n =
    still_numbered s side (if other == slot && is_up side.sight.view then Msg message moment ∷ [] else []) (none_or hands_up_buffered (other == slot && is_up side.sight.view) (Msg message moment ∷ []) refl) n
by_event s policy slot moment switch side (SliceDown other) n = still_numbered s side (if other == slot then Down ∷ [] else []) (none_or hands_up_buffered (other == slot) (Down ∷ []) refl) n

by_opening : (s : Settings) (policy : PolicyView) (slot : ℕ) (side : SliceSide) (told : Option Features) → AreNumbered s side → AreNumbered s (after_items None (opening_items policy slot told) side)
by_opening s policy slot side None n = n
by_opening s policy slot side (Some features) n = still_numbered s side (opening_items policy slot (Some features)) refl n

by_phase : (s : Settings) (policy : PolicyView) (slot : ℕ) (switch : KnownSwitch) (side : SliceSide) (timed : Timed) (phase : Phase) → AreNumbered s side
    → AreNumbered s (with_shown phase timed (phase_items policy slot switch side timed phase) side)
by_phase s policy slot switch side timed Fresh n = n
by_phase s policy slot switch side timed Begun n = by_opening s policy slot side (opening_with Begun timed.event) n
by_phase s policy slot switch side timed Opened n = by_event s policy slot timed.moment switch side timed.event n
by_phase s policy slot switch side timed Gone n = n

-- ---- histories

at_start : (s : Settings) → AreNumbered s side_start
at_start s = record { count = refl; held = All-nil (λ (packet : HeldPacket). holder (number_it_came_with [] packet.ordinal) [] ≡ Some packet.ordinal); given = λ number ordinal is. absurd (none-some ordinal is); came = λ number ordinal is. absurd (none-some ordinal is) }

-- whatever the settings are
pub numbered : (policy : PolicyView) (slot : ℕ) (s : Settings) (h : List Timed) → is_slot policy slot ≡ true → AreNumbered s (side_of policy slot h)
numbered policy slot s [] here = at_start s
numbered policy slot s (timed ∷ h) here =
    rw here (by_phase s policy slot (switch_of h) (side_of policy slot h) timed (phase_of h) (numbered policy slot s h here))
