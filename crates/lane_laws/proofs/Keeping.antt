-- Each packet that a slice holds is the last that came under its number, was given to the slice as its writer, and has a header that the slice writes.
use Rattle.std.proofs.Common.{◌≡◌, refl, sym, ap, ◌∙◌, subst, ℕ, ◌+◌, ◌==◌, ◌&&◌, ◌⊎◌, inl, inr, Bool, true, false, true≢false, if◌then◌else◌, List, [], ◌∷◌, length, ◌++◌, get_or, map, filter, Any, All, Option, Some, None, is_some, arith, Result, Ok}
use Rattle.std.specs.Prelude.{find, option_and_then}
use Rattle.std.proofs.lemmas.Bool.{cases_Bool, or_right, cond-true, cond-false}
use Rattle.std.proofs.lemmas.Bool.Decides.{eqb_tells}
use Rattle.std.proofs.lemmas.Option.{none-some, same_Some}
use Rattle.std.proofs.lemmas.List.Elements.{All-nil, All-cons, All-filter, All-weaker}
use Rattle.of10_model.specs.Normal.{is_value, bit}
use Rattle.of10_port.specs.declared.features.Features.{Features}
use Rattle.of10_flow.specs.declared.packet_in.PacketIn.{PacketIn}
use Rattle.of10_message.specs.declared.fault.Unread.{Unread}
use Rattle.of10_message.specs.Heads.{xid_of}
use Rattle.of10_message.specs.Switch as says
use Rattle.of10_message.specs.Switch.{SwitchMessage, read_switch}
use Rattle.flowspace.specs.declared.rules.Rule.{Rule}
use Rattle.flowspace.specs.Order.{rules_on, writer_of, readers_of}
use Rattle.flowspace.specs.Owners.{Writes}
use Rattle.flowspace.specs.Policies.{PolicyView}
use Rattle.flowspace.proofs.Refusing.{is_value-Some}
use Rattle.flowmod_expand.proofs.Somewhere.{Any-first, Any-later}
use Rattle.slice_words.specs.Items.{Settings, Writer, Reader, Probe, Item, Up, Down, Msg, Lost, is_up, buffered_count, hands_up_buffered}
use Rattle.slice_words.specs.Pasts.{view_in}
use Rattle.slice_words.specs.Buffers.{HeldPacket, is_recent_packet}
use Rattle.slice_words.specs.Answers.{answer}
use Rattle.slice_words.specs.Alone.{with_items}
use Rattle.slice_words.specs.Standing.{past_of}
use Rattle.slice_words.proofs.Holding.{recent, view_in-played}
use Rattle.desk_words.specs.declared.event.Event.{Event}
use Rattle.desk_words.specs.declared.event.Event.TheVariants.{SwitchUp, SwitchMsg, SwitchDown, SliceUp, SliceMsg, SliceDown}
use Rattle.desk_words.specs.declared.event.Timed.{Timed}
use Rattle.desk_words.specs.declared.phase.Phase.{Phase}
use Rattle.desk_words.specs.declared.phase.Phase.TheVariants.{Fresh, Begun, Opened, Gone}
use Rattle.desk_words.specs.Openings.{opening_with, rules_of, KnownSwitch, switch_of, phase_of, opening_of}
use Rattle.desk_words.specs.Histories.{is_slot, SliceSide, side_of, header_in, handed, number_given, marked_slot, lost_items, packet_items, packet_in_items, packet_said, said_items, message_items, event_items, opening_items, phase_items, items_of, number_told, Numbered, holder, is_any_given, numbered_with, is_open, packet_handed}
use Rattle.desk_words.specs.Numbers.{AreNumbered}
use Rattle.desk_words.proofs.Alone.{has_told, opened_told, blind}
use Rattle.desk_words.proofs.Silence.{none_or, none_both}
use Rattle.desk_words.proofs.Numbering.{held_in, kept_all, same_count_all, none_given, numbered}
use Rattle.desk_words.specs.Arrivals.{Arrival, arrivals, arrival_under}
use Rattle.lane_laws.specs.Lane.{switch_number}

-- ---- what an event shows a slice

-- of these items none gives the slice a packet that it may use by number, or one does: the packet that the event hands up with a number, and whose header the slice writes
data Shows (rules : List Rule) (slot : ℕ) (items : List Item) (told : Option PacketIn) : Type 0 where
  NoneShown : is_any_given items ≡ false → Shows rules slot items told
  OneShown : (packet : PacketIn) (number : ℕ) (lost rest : List Item) → told ≡ Some packet → number_given packet ≡ Some number → items ≡ lost ++ (handed (Writer true) packet ∷ rest)
      → is_any_given lost ≡ false → is_any_given rest ≡ false → Writes rules slot (header_in packet) → Shows rules slot items told

-- what the shares of a packet show, by whether the slice is up, whom the packet's mark names, who writes and reads it, and whether it has a number
abbrev IsShownBy : PacketIn → Bool → Bool → List Item → Type 0
IsShownBy packet writes numbered items =
    (is_any_given items ≡ false) ⊎ ((rest : List Item) × (items ≡ handed (Writer true) packet ∷ rest) × (is_any_given rest ≡ false) × (writes ≡ true) × (numbered ≡ true))

by_shares : (packet : PacketIn) (up : Bool) (marked : Option ℕ) (slot : ℕ) (writes reads numbered : Bool)
    → IsShownBy packet writes numbered (if up then map (λ share. handed share packet) (elim marked [ None ↦ (if writes then Writer numbered ∷ [] else []) ++ (if reads then Reader ∷ [] else []) | Some other ↦ if other == slot then Probe ∷ [] else [] ]) else [])
by_shares packet false marked slot writes reads numbered = inl refl
by_shares packet true None slot true true true = inr (handed Reader packet ∷ [], refl, refl, refl, refl)
by_shares packet true None slot true true false = inl refl
by_shares packet true None slot true false true = inr ([], refl, refl, refl, refl)
by_shares packet true None slot true false false = inl refl
by_shares packet true None slot false true numbered = inl refl
by_shares packet true None slot false false numbered = inl refl
by_shares packet true (Some other) slot writes reads numbered = elim (cases_Bool (other == slot)) [
  | inl own ↦ rw own (inl refl)
  | inr another ↦ rw another (inl refl)
]

some_number : (found : Option ℕ) → is_some found ≡ true → (number : ℕ) × (found ≡ Some number)
some_number None is = absurd (true≢false (sym is))
some_number (Some number) is = (number, refl)

lost_plain : (lost : Option ℕ) → is_any_given (elim lost [ None ↦ [] | Some k ↦ Lost k ∷ [] ]) ≡ false
lost_plain None = refl
lost_plain (Some k) = refl

module _ (policy : PolicyView) (slot : ℕ) where
  shows_packet : (rules : List Rule) (side : SliceSide) (packet : PacketIn) → Shows rules slot (packet_in_items policy rules slot side packet) (Some packet)
  shows_packet rules side packet =
      let lost = lost_items side.numbered packet in
      let shown = packet_items policy rules slot side.sight.view packet in
      let none = lost_plain (option_and_then (λ number. holder number side.numbered) (number_given packet)) in
      elim (by_shares packet (is_up side.sight.view) (marked_slot (length policy.slices) packet.payload) slot (is_value slot (writer_of rules (header_in packet))) (bit (readers_of rules (header_in packet)) slot) (is_some (number_given packet))) [
        | inl nothing ↦ NoneShown (none_both hands_up_buffered lost shown none nothing)
        | inr one ↦
            let number = some_number (number_given packet) one.4 in
            OneShown packet number.0 lost one.0 refl number.1 (ap (λ (items : List Item). lost ++ items) one.1) none one.2 (is_value-Some slot (writer_of rules (header_in packet)) one.3)
      ]

  shows_said : (switch : KnownSwitch) (side : SliceSide) (xid : ℕ) (said : Result SwitchMessage Unread) → Shows (rules_of policy switch.features) slot (said_items policy slot switch side xid said) (packet_said said)
  shows_said switch side xid (Ok (says.PacketIn packet)) = shows_packet (rules_of policy switch.features) side packet
  shows_said switch side xid said = NoneShown (none_given policy slot switch side xid said refl)

  shows_message : (switch : KnownSwitch) (side : SliceSide) (message : List ℕ) → Shows (rules_of policy switch.features) slot (message_items policy slot switch side message) (packet_handed Opened (SwitchMsg message))
  unfolding message_items
  shows_message switch side message = shows_said switch side (xid_of message) (read_switch message)

  shows_event : (switch : KnownSwitch) (side : SliceSide) (moment : ℕ) (event : Event) → Shows (rules_of policy switch.features) slot (event_items policy slot switch side moment event) (packet_handed Opened event)
  shows_event switch side moment SwitchUp = NoneShown refl
  shows_event switch side moment (SwitchMsg message) = shows_message switch side message
  shows_event switch side moment SwitchDown = NoneShown refl
  shows_event switch side moment (SliceUp other) = NoneShown (none_or hands_up_buffered (other == slot) (Up ∷ []) refl)
  shows_event switch side moment (SliceMsg other message) = NoneShown (none_or hands_up_buffered (other == slot && is_up side.sight.view) (Msg message moment ∷ []) refl)
  shows_event switch side moment (SliceDown other) = NoneShown (none_or hands_up_buffered (other == slot) (Down ∷ []) refl)

  plain_opening : (told : Option Features) → is_any_given (opening_items policy slot told) ≡ false
  plain_opening None = refl
  plain_opening (Some features) = refl

  shows_in : (rules : List Rule) (switch : KnownSwitch) (side : SliceSide) (timed : Timed) (phase : Phase) → (is_open phase ≡ true → rules_of policy switch.features ≡ rules)
      → Shows rules slot (phase_items policy slot switch side timed phase) (packet_handed phase timed.event)
  shows_in rules switch side timed Fresh same = NoneShown refl
  shows_in rules switch side timed Begun same = NoneShown (plain_opening (opening_with Begun timed.event))
  shows_in rules switch side timed Gone same = NoneShown refl
  shows_in rules switch side timed Opened same =
      subst (λ (rs : List Rule). Shows rs slot (event_items policy slot switch side timed.moment timed.event) (packet_handed Opened timed.event)) (same refl) (shows_event switch side timed.moment timed.event)

-- ---- lists of items

with_more : (items others view : List Item) → with_items (items ++ others) view ≡ with_items others (with_items items view)
with_more [] others view = refl
with_more (item ∷ items) others view = with_more items others (item ∷ view)

given_within : (packet : PacketIn) (lost rest : List Item) → is_any_given (lost ++ (handed (Writer true) packet ∷ rest)) ≡ true
given_within packet [] rest = refl
given_within packet (item ∷ lost) rest = or_right (hands_up_buffered item) (is_any_given (lost ++ (handed (Writer true) packet ∷ rest))) (given_within packet lost rest)

any_within : (P : Item → Type 0) (item : Item) (lost rest : List Item) → P item → Any P (lost ++ (item ∷ rest))
any_within P item [] rest holds = Any-first P item rest holds
any_within P item (first ∷ lost) rest holds = Any-later P first (lost ++ (item ∷ rest)) (any_within P item lost rest holds)

-- the number of an event's packet
number_by : (phase : Phase) (event : Event) → number_told phase event ≡ option_and_then number_given (packet_handed phase event)
number_by Fresh event = refl
number_by Begun event = refl
number_by Gone event = refl
number_by Opened SwitchUp = refl
number_by Opened (SwitchMsg message) = refl
number_by Opened SwitchDown = refl
number_by Opened (SliceUp slot) = refl
number_by Opened (SliceMsg slot message) = refl
number_by Opened (SliceDown slot) = refl

-- ---- what is kept

-- under a number the last packet that came is one that the slice was given as its writer, that it writes, and that has the header of one that it holds
pub record IsKept (policy : PolicyView) (slot : ℕ) (rules : List Rule) (h : List Timed) (number : ℕ) (held : HeldPacket) : Type 0 where
  pub arrival : Arrival
  pub is_last : arrival_under number h ≡ Some arrival
  pub given : Any (λ item. item ≡ handed (Writer true) arrival.packet) (items_of policy slot (switch_of arrival.before) (side_of policy slot arrival.before) arrival.timed)
  pub written : Writes rules slot (header_in arrival.packet)
  pub header : held.header ≡ header_in arrival.packet

-- so it is under the number by which the packet that is held is found
abbrev KeptUnder : PolicyView → ℕ → List Rule → List Timed → List Numbered → HeldPacket → Type 0
KeptUnder policy slot rules h numbers held = (number : ℕ) → holder number numbers ≡ Some held.ordinal → IsKept policy slot rules h number held

module _ (policy : PolicyView) (slot : ℕ) (rules : List Rule) (h : List Timed) (timed : Timed) where
  moved : (number : ℕ) (held : HeldPacket) → IsKept policy slot rules h number held → arrival_under number (timed ∷ h) ≡ arrival_under number h → IsKept policy slot rules (timed ∷ h) number held
  moved number held kept same = record { arrival = kept.arrival; is_last = same ∙ kept.is_last; given = kept.given; written = kept.written; header = kept.header }

  -- the packet-ins with that of the event
  abbrev with_arrival : Option PacketIn → List Arrival
  with_arrival told = elim told [ None ↦ arrivals h | Some packet ↦ record { before = h; timed = timed; packet = packet } ∷ arrivals h ]

  abbrev has_number : ℕ → Arrival → Bool
  has_number number arrival = is_value number (number_given arrival.packet)

  no_arrival : (number : ℕ) → packet_handed (phase_of h) timed.event ≡ None → arrival_under number (timed ∷ h) ≡ arrival_under number h
  no_arrival number none = ap (λ told. find (has_number number) (with_arrival told)) none

  other_arrival : (number : ℕ) (packet : PacketIn) → packet_handed (phase_of h) timed.event ≡ Some packet → is_value number (number_given packet) ≡ false → arrival_under number (timed ∷ h) ≡ arrival_under number h
  other_arrival number packet is other =
      ap (λ told. find (has_number number) (with_arrival told)) is
      ∙ cond-false (is_value number (number_given packet)) (Some (record { before = h; timed = timed; packet = packet })) (arrival_under number h) other

  this_arrival : (number : ℕ) (packet : PacketIn) → packet_handed (phase_of h) timed.event ≡ Some packet → is_value number (number_given packet) ≡ true
      → arrival_under number (timed ∷ h) ≡ Some (record { before = h; timed = timed; packet = packet })
  this_arrival number packet is this =
      ap (λ told. find (has_number number) (with_arrival told)) is
      ∙ cond-true (is_value number (number_given packet)) (Some (record { before = h; timed = timed; packet = packet })) (arrival_under number h) this

  abbrev side : SliceSide
  side = side_of policy slot h

  abbrev Before : HeldPacket → Type 0
  Before = KeptUnder policy slot rules h side.numbered

  -- no number comes
  quiet : (s : Settings) (items : List Item) → is_any_given items ≡ false → ((number : ℕ) → arrival_under number (timed ∷ h) ≡ arrival_under number h) → All Before (held_in s side.sight.view)
      → All (KeptUnder policy slot rules (timed ∷ h) side.numbered) (held_in s (with_items items side.sight.view))
  quiet s items none same all =
      let After = KeptUnder policy slot rules (timed ∷ h) side.numbered in
      kept_all After s items side.sight.view none
      (All-weaker Before After (λ held kept number is. moved number held (kept number is) (same number)) (held_in s side.sight.view) all)

  -- a number comes with another's packet
  taken : (s : Settings) (items : List Item) (packet : PacketIn) (number : ℕ) → packet_handed (phase_of h) timed.event ≡ Some packet → number_given packet ≡ Some number → is_any_given items ≡ false
      → All Before (held_in s side.sight.view)
      → All (KeptUnder policy slot rules (timed ∷ h) (record { number = number; ordinal = None } ∷ side.numbered)) (held_in s (with_items items side.sight.view))
  taken s items packet number told has none all =
      let After = KeptUnder policy slot rules (timed ∷ h) (record { number = number; ordinal = None } ∷ side.numbered) in
      kept_all After s items side.sight.view none
      (All-weaker Before After
      (λ held kept q is. elim (eqb_tells number q) [
        | inl same ↦ absurd (none-some held.ordinal (rw same.0 at is))
        | inr other ↦ moved q held (kept q (rw other.0 at is)) (other_arrival q packet told (rw has other.0))
      ])
      (held_in s side.sight.view) all)

  -- a number comes with a packet of the slice
  given_one : (s : Settings) (packet : PacketIn) (number : ℕ) (lost rest : List Item) → items_of policy slot (switch_of h) side timed ≡ lost ++ (handed (Writer true) packet ∷ rest)
      → packet_handed (phase_of h) timed.event ≡ Some packet → number_given packet ≡ Some number → is_any_given lost ≡ false → is_any_given rest ≡ false → Writes rules slot (header_in packet)
      → AreNumbered s side → All Before (held_in s side.sight.view)
      → All (KeptUnder policy slot rules (timed ∷ h) (record { number = number; ordinal = Some (buffered_count side.sight.view) } ∷ side.numbered))
      (held_in s (with_items rest (handed (Writer true) packet ∷ with_items lost side.sight.view)))
  given_one s packet number lost rest shown told has lost_none rest_none written n all =
      let view = with_items lost side.sight.view in
      let item = handed (Writer true) packet in
      let own = buffered_count (view_in (past_of s view)) in
      let newest : HeldPacket = record { ordinal = own; header = header_in packet } in
      let count : own ≡ buffered_count side.sight.view = ap buffered_count (view_in-played (answer s) view) ∙ same_count_all lost side.sight.view lost_none in
      let numbers : List Numbered = record { number = number; ordinal = Some (buffered_count side.sight.view) } ∷ side.numbered in
      let After = KeptUnder policy slot rules (timed ∷ h) numbers in
      let newest_kept : After newest = λ q is. elim (eqb_tells number q) [
        | inl same ↦ record {
          arrival = record { before = h; timed = timed; packet = packet };
          is_last = this_arrival q packet told (rw has same.0);
          given = subst (Any (λ other. other ≡ item)) (sym shown) (any_within (λ other. other ≡ item) item lost rest refl);
          written = written;
          header = refl;
        }
        | inr other ↦
            let early = n.given q own (rw other.0 at is) in
            absurd (let known = n.count in omega (arith, early, known, count))
      ] in
      let old : All After (held_in s view) = λ k d within.
      let held = get_or (held_in s view) k d in
      let young = recent (past_of s view) k d within in
      let kept = kept_all Before s lost side.sight.view lost_none all k d within in
      λ q is. elim (eqb_tells number q) [
        | inl same ↦
            let at_end : buffered_count side.sight.view ≡ held.ordinal = same_Some (buffered_count side.sight.view) held.ordinal (rw same.0 at is) in
            absurd (let below = young.0 in omega (arith, below, at_end, count))
        | inr other ↦ moved q held (kept q (rw other.0 at is)) (other_arrival q packet told (rw has other.0))
      ] in
      kept_all After s rest (item ∷ view) rest_none
      (All-cons After newest (filter (is_recent_packet (own + 1)) (held_in s view)) newest_kept (All-filter (is_recent_packet (own + 1)) After (held_in s view) old))

  abbrev items : List Item
  items = items_of policy slot (switch_of h) side timed

  by_number : (s : Settings) (packet : PacketIn) (number : Option ℕ) → packet_handed (phase_of h) timed.event ≡ Some packet → number_given packet ≡ number → Shows rules slot items (Some packet)
      → AreNumbered s side → All Before (held_in s side.sight.view)
      → All (KeptUnder policy slot rules (timed ∷ h) (numbered_with number items side.sight.view side.numbered)) (held_in s (with_items items side.sight.view))
  by_number s packet None told has (NoneShown none) n all = quiet s items none (λ number. other_arrival number packet told (rw has refl)) all
  by_number s packet None told has (OneShown other number lost rest is numbers shown lost_none rest_none written) n all =
      let same : packet ≡ other = same_Some packet other is in
      absurd (none-some number (sym has ∙ ap number_given same ∙ numbers))
  by_number s packet (Some number) told has (NoneShown none) n all = rw none (taken s items packet number told has none all)
  by_number s packet (Some number) told has (OneShown other q lost rest is numbers shown lost_none rest_none written) n all =
      let same : packet ≡ other = same_Some packet other is in
      let as_given : is_any_given items ≡ true = ap is_any_given shown ∙ given_within other lost rest in
      let as_seen : with_items items side.sight.view ≡ with_items rest (handed (Writer true) other ∷ with_items lost side.sight.view) =
      ap (λ (shown_items : List Item). with_items shown_items side.sight.view) shown ∙ with_more lost (handed (Writer true) other ∷ rest) side.sight.view in
      rw (as_given, as_seen)
      (given_one s other number lost rest shown (told ∙ ap (λ (p : PacketIn). Some p) same) (ap number_given (sym same) ∙ has) lost_none rest_none written n all)

  by_told : (s : Settings) (told : Option PacketIn) → packet_handed (phase_of h) timed.event ≡ told → Shows rules slot items told → AreNumbered s side → All Before (held_in s side.sight.view)
      → All (KeptUnder policy slot rules (timed ∷ h) (numbered_with (option_and_then number_given told) items side.sight.view side.numbered)) (held_in s (with_items items side.sight.view))
  by_told s (Some packet) told shows n all = by_number s packet (number_given packet) told refl shows n all
  by_told s None told (NoneShown none) n all = quiet s items none (λ number. no_arrival number told) all
  by_told s None told (OneShown packet number lost rest is numbers shown lost_none rest_none written) n all = absurd (none-some packet is)

  step : (s : Settings) → Shows rules slot items (packet_handed (phase_of h) timed.event) → AreNumbered s side → All Before (held_in s side.sight.view)
      → All (KeptUnder policy slot rules (timed ∷ h) (side_of policy slot (timed ∷ h)).numbered) (held_in s (side_of policy slot (timed ∷ h)).sight.view)
  step s shows n all = rw (number_by (phase_of h) timed.event) (by_told s (packet_handed (phase_of h) timed.event) refl shows n all)

-- ---- histories

opened_before : (h : List Timed) → opening_of h ≡ None → is_open (phase_of h) ≡ true → ⊥
opened_before h none up = true≢false (sym (opened_told h up) ∙ ap has_told none)

-- whatever the settings are
kept : (policy : PolicyView) (slot : ℕ) (s : Settings) (h : List Timed) (features : Features) → is_slot policy slot ≡ true → opening_of h ≡ Some features
    → All (KeptUnder policy slot (rules_on features.datapath policy.rules) h (side_of policy slot h).numbered) (held_in s (side_of policy slot h).sight.view)
kept policy slot s [] features here is = absurd (none-some features is)
kept policy slot s (timed ∷ h) features here is = by_opening (opening_of h) refl (λ opened. kept policy slot s h features here opened)
  where
    rules : List Rule
    rules = rules_on features.datapath policy.rules

    shows : (is_open (phase_of h) ≡ true → rules_of policy (opening_of h) ≡ rules) → Shows rules slot (items_of policy slot (switch_of h) (side_of policy slot h) timed) (packet_handed (phase_of h) timed.event)
    shows same = rw here (shows_in policy slot rules (switch_of h) (side_of policy slot h) timed (phase_of h) same)

    by_opening : (found : Option Features) → opening_of h ≡ found
        → (opening_of h ≡ Some features → All (KeptUnder policy slot (rules_on features.datapath policy.rules) h (side_of policy slot h).numbered) (held_in s (side_of policy slot h).sight.view))
        → All (KeptUnder policy slot (rules_on features.datapath policy.rules) (timed ∷ h) (side_of policy slot (timed ∷ h)).numbered) (held_in s (side_of policy slot (timed ∷ h)).sight.view)
    by_opening (Some before) opened earlier =
        let same : before ≡ features = same_Some before features (rw opened at is) in
        let as_now : opening_of h ≡ Some features = opened ∙ ap (λ (f : Features). Some f) same in
        step policy slot rules h timed s (shows (λ up. ap (rules_of policy) as_now)) (numbered policy slot s h here) (earlier as_now)
    by_opening None opened earlier =
        step policy slot rules h timed s (shows (λ up. absurd (opened_before h opened up))) (numbered policy slot s h here)
        (subst (λ (seen : SliceSide). All (KeptUnder policy slot rules h seen.numbered) (held_in s seen.sight.view)) (sym (blind policy slot h opened)) (All-nil (KeptUnder policy slot rules h [])))

-- under the number with which a packet came that the slice holds
pub kept_now : (policy : PolicyView) (slot : ℕ) (s : Settings) (h : List Timed) (features : Features) → is_slot policy slot ≡ true → opening_of h ≡ Some features
    → All (λ held. IsKept policy slot (rules_on features.datapath policy.rules) h (switch_number policy slot h held.ordinal) held) (held_in s (side_of policy slot h).sight.view)
kept_now policy slot s h features here is =
    λ k d within. kept policy slot s h features here is k d within (switch_number policy slot h (get_or (held_in s (side_of policy slot h).sight.view) k d).ordinal) ((numbered policy slot s h here).held k d within)
