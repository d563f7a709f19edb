-- What a packet that the switch hands up changes for each slice.
use Rattle.std.proofs.Common.{◌≡◌, ℕ, zero, suc, ◌+◌, ◌<◌, ◌≤◌, ◌==◌, Bool, true, false, if◌then◌else◌, List, [], ◌∷◌, ◌++◌, map, length, slice_get, get_or, refl, ap, ap₂, subst, sym, ◌∙◌, true≢false, inl, inr, arith, Option, Some, None, is_some, unwrap_or, option_map, option_and_then, Ok}
use Rattle.std.specs.List.{list_any}
use Rattle.std.proofs.lemmas.Bool.{eq-eqb, ne_eqb, ltb-true, ltb-false}
use Rattle.std.proofs.lemmas.Bool.Decides.{eqb_tells}
use Rattle.of10_model.specs.Normal.{is_value, bit}
use Rattle.of10_flow.specs.declared.protocol.TheConstants.{NO_BUFFER}
use Rattle.of10_flow.specs.declared.packet_in.PacketIn.{PacketIn}
use Rattle.of10_message.specs.Switch as says
use Rattle.of10_message.specs.Switch.{read_switch}
use Rattle.flowspace.specs.declared.rules.Rule.{Rule}
use Rattle.flowspace.specs.Order.{first_rule}
use Rattle.flowspace.specs.Policies.{PolicyView}
use Rattle.flow_book.specs.declared.state.SliceState.{SliceState}
use Rattle.slice_words.specs.Items.{Settings, Sight, Item, Writer, Reader, Probe, is_up, is_buffered, buffered_count}
use Rattle.slice_words.specs.Buffers.{HeldPacket, held_packets}
use Rattle.slice_words.specs.Alone.{number_it_came_with}
use Rattle.slice_words.specs.Standing.{past_of}
use Rattle.desk_words.specs.declared.phase.Phase.TheVariants.{Opened}
use Rattle.desk_words.specs.declared.event.Event.TheVariants.{SwitchMsg}
use Rattle.desk_words.specs.Openings.{rules_of, KnownSwitch}
use Rattle.desk_words.specs.Histories.{is_slot, settings_at, items_of, SliceSide, holder, handed, header_in, number_given, number_told, marked_slot, shares_of, packet_items, packet_in_items}
use Rattle.desk_words.specs.Numbers.{AreNumbered}
use Rattle.desk_words.proofs.Numbering.{lost_of}
use Rattle.switch_side.specs.declared.change.Change.{Change}
use Rattle.switch_side.specs.declared.change.Change.TheVariants.{Lost, Given}
use Rattle.switch_side.specs.declared.audience.Audience.TheVariants.{Prober}
use Rattle.switch_side.specs.Audiences.{named_by, audience_of, writes}
use Rattle.switch_side.specs.Changes.{is_lost, IsLost, IsChangeOfItems, of_slot, SlotChanges}
use Rattle.switch_side.specs.Dispatches.{AllStand, AllNumbered, AreChanges, told_at}
use Rattle.switch_side.specs.Carrying.{change_for, changes_from, packet_changes}
use Rattle.switch_side.proofs.Making.{first_for}
use Rattle.switch_side.proofs.MessageTypes.{number_of_said, items_of_said, items_none}
use Rattle.switch_side.proofs.Standing.{shares_stand}
use Rattle.switch_side.proofs.Told.{has_item}

-- ---- what is lost

not_lost : (s : Settings) (side : SliceSide) (physical : ℕ) (packet : HeldPacket) (found : Option ℕ) → AreNumbered s side → holder physical side.numbered ≡ found
    → (number_it_came_with side.sight.came packet.ordinal == physical) ≡ false → is_lost found packet ≡ false
not_lost s side physical packet None n is other = refl
not_lost s side physical packet (Some k) n is other = elim (eqb_tells packet.ordinal k) [
  | inl same ↦ absurd (true≢false (sym (eq-eqb (number_it_came_with side.sight.came packet.ordinal) physical (ap (number_it_came_with side.sight.came) same.1 ∙ n.came physical k is)) ∙ other))
  | inr apart ↦ apart.0
]

by_number : (s : Settings) (side : SliceSide) (physical : ℕ) (packet : HeldPacket) → AreNumbered s side → holder (number_it_came_with side.sight.came packet.ordinal) side.numbered ≡ Some packet.ordinal
    → (number_it_came_with side.sight.came packet.ordinal == physical) ≡ is_lost (holder physical side.numbered) packet
by_number s side physical packet n at = elim (eqb_tells (number_it_came_with side.sight.came packet.ordinal) physical) [
  | inl same ↦
      same.0
      ∙ sym (ap (λ (found : Option ℕ). is_lost found packet) (ap (λ (q : ℕ). holder q side.numbered) (sym same.1) ∙ at) ∙ eq-eqb packet.ordinal packet.ordinal refl)
  | inr other ↦ other.0 ∙ sym (not_lost s side physical packet (holder physical side.numbered) n refl other.0)
]

-- of the packets that a slice holds the one that came last under a number is lost
lost_only : (s : Settings) (side : SliceSide) (physical : ℕ) → AreNumbered s side → IsLost s side.sight physical (holder physical side.numbered)
lost_only s side physical n =
    λ k d within. by_number s side physical (get_or (held_packets (past_of s side.sight.view)) k d) n (n.held k d within)

-- ---- a packet with a number

reader_none : (reads : Bool) → list_any is_buffered (if reads then Reader ∷ [] else []) ≡ false
reader_none true = refl
reader_none false = refl

probe_none : (own : Bool) → list_any is_buffered (if own then Probe ∷ [] else []) ≡ false
probe_none true = refl
probe_none false = refl

module _ (s : Settings) (sight : Sight) (physical : ℕ) (packet : PacketIn) (lost : Option ℕ) (only : IsLost s sight physical lost) (counted : length sight.came ≡ buffered_count sight.view) where
  named_change : (writes reads kept : Bool) → kept ≡ true
      → IsChangeOfItems s (Some physical) sight (lost_of lost ++ map (λ share. handed share packet) ((if writes then Writer kept ∷ [] else []) ++ (if reads then Reader ∷ [] else [])))
      (if writes then Given physical (header_in packet) else Lost physical)
  named_change true reads kept is = (
    refl,
    record {
      lost = lost;
      shares = if reads then Reader ∷ [] else [];
      packet = packet;
      shown = ap (λ (b : Bool). lost_of lost ++ (handed (Writer b) packet ∷ map (λ share. handed share packet) (if reads then Reader ∷ [] else []))) is;
      only = only;
      same_header = refl;
      none_given = reader_none reads;
      counted = counted;
    },
  )
  named_change false reads kept is = (refl, record { lost = lost; shares = if reads then Reader ∷ [] else []; packet = packet; shown = refl; only = only; none_given = reader_none reads })

  up_change : (slot : ℕ) (kept : Bool) (marked : Option ℕ) (first : Option Rule) → kept ≡ true
      → IsChangeOfItems s (Some physical) sight
      (lost_of lost ++ map (λ share. handed share packet) (elim marked [
        | None ↦ (if is_value slot (option_and_then (λ rule. rule.writer) first) then Writer kept ∷ [] else [])
            ++ (if bit (unwrap_or (option_map (λ rule. rule.readers) first) 0) slot then Reader ∷ [] else [])
        | Some other ↦ if other == slot then Probe ∷ [] else []
      ]))
      (if writes (elim marked [ None ↦ named_by first | Some other ↦ Prober other ]) slot then Given physical (header_in packet) else Lost physical)
  up_change slot kept None None is = named_change (is_value slot None) (bit 0 slot) kept is
  up_change slot kept None (Some rule) is = named_change (is_value slot rule.writer) (bit rule.readers slot) kept is
  up_change slot kept (Some other) first is = (refl, record { lost = lost; shares = if other == slot then Probe ∷ [] else []; packet = packet; shown = refl; only = only; none_given = probe_none (other == slot) })

  by_up : (policy : PolicyView) (rules : List Rule) (slot : ℕ) (up : Bool) → is_some (number_given packet) ≡ true
      → IsChangeOfItems s (Some physical) sight (lost_of lost ++ (if up then map (λ share. handed share packet) (shares_of policy rules slot packet) else []))
      (change_for (audience_of (length policy.slices) rules packet) physical (header_in packet) slot up)
  by_up policy rules slot true is = up_change slot (is_some (number_given packet)) (marked_slot (length policy.slices) packet.payload) (first_rule rules (header_in packet)) is
  by_up policy rules slot false is = (refl, record { lost = lost; shares = []; packet = packet; shown = refl; only = only; none_given = refl })

packet_change : (s : Settings) (policy : PolicyView) (rules : List Rule) (slot : ℕ) (side : SliceSide) (packet : PacketIn) (physical : ℕ) (up : Bool) → number_given packet ≡ Some physical → AreNumbered s side → up ≡ is_up side.sight.view
    → IsChangeOfItems s (Some physical) side.sight (packet_in_items policy rules slot side packet) (change_for (audience_of (length policy.slices) rules packet) physical (header_in packet) slot up)
packet_change s policy rules slot side packet physical up given n is =
    subst (λ (found : Option ℕ). IsChangeOfItems s (Some physical) side.sight (lost_of found ++ packet_items policy rules slot side.sight.view packet) (change_for (audience_of (length policy.slices) rules packet) physical (header_in packet) slot up))
    (sym (ap (option_and_then (λ number. holder number side.numbered)) given))
    (subst (λ (here : Bool). IsChangeOfItems s (Some physical) side.sight (lost_of (holder physical side.numbered) ++ packet_items policy rules slot side.sight.view packet) (change_for (audience_of (length policy.slices) rules packet) physical (header_in packet) slot here))
    (sym is)
    (by_up s side.sight physical packet (holder physical side.numbered) (lost_only s side physical n) n.count policy rules slot (is_up side.sight.view) (ap is_some given)))

-- ---- a packet without a number

none_kept : (slot : ℕ) (marked : Option ℕ) (writes reads kept : Bool) → kept ≡ false
    → list_any is_buffered (elim marked [ None ↦ (if writes then Writer kept ∷ [] else []) ++ (if reads then Reader ∷ [] else []) | Some other ↦ if other == slot then Probe ∷ [] else [] ]) ≡ false
none_kept slot None true reads kept is = rw is (reader_none reads)
none_kept slot None false reads kept is = reader_none reads
none_kept slot (Some other) writes reads kept is = probe_none (other == slot)

unkept_up : (s : Settings) (policy : PolicyView) (rules : List Rule) (slot : ℕ) (sight : Sight) (packet : PacketIn) (up : Bool) → number_given packet ≡ None
    → SlotChanges s None sight (if up then map (λ share. handed share packet) (shares_of policy rules slot packet) else []) []
unkept_up s policy rules slot sight packet true none =
    λ state stands.
    shares_stand s sight.view sight.came state packet (shares_of policy rules slot packet)
    (none_kept slot (marked_slot (length policy.slices) packet.payload) (is_value slot (option_and_then (λ (rule : Rule). rule.writer) (first_rule rules (header_in packet))))
    (bit (unwrap_or (option_map (λ (rule : Rule). rule.readers) (first_rule rules (header_in packet))) 0) slot) (is_some (number_given packet)) (ap is_some none)) stands
unkept_up s policy rules slot sight packet false none = λ state stands. stands

unkept : (s : Settings) (policy : PolicyView) (rules : List Rule) (slot : ℕ) (side : SliceSide) (packet : PacketIn) → number_given packet ≡ None → SlotChanges s None side.sight (packet_in_items policy rules slot side packet) []
unkept s policy rules slot side packet none =
    subst (λ (found : Option ℕ). SlotChanges s None side.sight (lost_of found ++ packet_items policy rules slot side.sight.view packet) [])
    (sym (ap (option_and_then (λ number. holder number side.numbered)) none))
    (unkept_up s policy rules slot side.sight packet (is_up side.sight.view) none)

-- ---- the changes of one slice among all

none_before : (change : ℕ → Bool → Change) (states : List SliceState) (from slot : ℕ) → slot < from → of_slot slot (changes_from change from states) ≡ []
none_before change [] from slot behind = refl
none_before change (state ∷ others) from slot behind =
    first_for false slot from (change from state.up) (changes_from change (from + 1) others) (ne_eqb from slot (λ e. absurd (omega (arith, behind, e))))
    ∙ none_before change others (from + 1) slot (omega (arith, behind))

none_past : (change : ℕ → Bool → Change) (states : List SliceState) (from slot : ℕ) → from + length states ≤ slot → of_slot slot (changes_from change from states) ≡ []
none_past change [] from slot past = refl
none_past change (state ∷ others) from slot past =
    first_for false slot from (change from state.up) (changes_from change (from + 1) others) (ne_eqb from slot (λ e. absurd (omega (arith, past, e))))
    ∙ none_past change others (from + 1) slot (omega (arith, past))

abbrev unwrap : SliceState → Option SliceState → SliceState
unwrap state None = state
unwrap state (Some other) = other

own_change : (change : ℕ → Bool → Change) (states : List SliceState) (from i slot : ℕ) (state : SliceState) → from + i ≡ slot → slice_get states i ≡ Some state
    → of_slot slot (changes_from change from states) ≡ change slot state.up ∷ []
own_change change [] from i slot state at there = absurd (true≢false (sym (ap is_some there)))
own_change change (first ∷ others) from zero slot state at there =
    let here : from ≡ slot = omega (arith, at) in
    first_for true slot from (change from first.up) (changes_from change (from + 1) others) (eq-eqb from slot here)
    ∙ ap₂ (λ (one : Change) (later : List Change). one ∷ later) (ap₂ (λ (k : ℕ) (one : SliceState). change k one.up) here (ap (unwrap first) there))
    (none_before change others (from + 1) slot (omega (arith, here)))
own_change change (first ∷ others) from (suc i) slot state at there =
    first_for false slot from (change from first.up) (changes_from change (from + 1) others) (ne_eqb from slot (λ e. absurd (omega (arith, at, e))))
    ∙ own_change change others (from + 1) i slot state (omega (arith, at)) there

pub nothing_seen : (s : Settings) (number : Option ℕ) (sight : Sight) → SlotChanges s number sight [] []
nothing_seen s None sight = λ state stands. stands
nothing_seen s (Some number) sight = λ state stands. stands

-- ---- all

-- what changes with a packet among so many slices
abbrev changed_among : ℕ → List Rule → List SliceState → PacketIn → List (ℕ × Change)
changed_among count rules states packet = if packet.buffer == NO_BUFFER then [] else changes_from (change_for (audience_of count rules packet) packet.buffer (header_in packet)) 0 states

module _ (policy : PolicyView) (rules : List Rule) (states : List SliceState) (slot : ℕ) where
  by_kept : (s : Settings) (side : SliceSide) (packet : PacketIn) (state : SliceState) (free : Bool) → (packet.buffer == NO_BUFFER) ≡ free → slice_get states slot ≡ Some state → AreNumbered s side → state.up ≡ is_up side.sight.view
      → SlotChanges s (if free then None else Some packet.buffer) side.sight (packet_in_items policy rules slot side packet)
      (of_slot slot (if free then [] else changes_from (change_for (audience_of (length policy.slices) rules packet) packet.buffer (header_in packet)) 0 states))
  by_kept s side packet state true is there n up = unkept s policy rules slot side packet (ap (λ (free : Bool). if free then None else Some packet.buffer) is)
  by_kept s side packet state false is there n up =
      subst (SlotChanges s (Some packet.buffer) side.sight (packet_in_items policy rules slot side packet))
      (sym (own_change (change_for (audience_of (length policy.slices) rules packet) packet.buffer (header_in packet)) states 0 slot slot state (omega arith) there))
      (packet_change s policy rules slot side packet packet.buffer state.up (ap (λ (free : Bool). if free then None else Some packet.buffer) is) n up)

  none_kept_past : (packet : PacketIn) (free : Bool) → length states ≤ slot
      → of_slot slot (if free then [] else changes_from (change_for (audience_of (length policy.slices) rules packet) packet.buffer (header_in packet)) 0 states) ≡ []
  none_kept_past packet true past = refl
  none_kept_past packet false past = none_past (change_for (audience_of (length policy.slices) rules packet) packet.buffer (header_in packet)) states 0 slot (omega (arith, past))

module _ (p : PolicyView) (switch : KnownSwitch) (sides : ℕ → SliceSide) (moment : ℕ) (message : List ℕ) (states : List SliceState)
    (opened : switch.phase ≡ Opened) (same : length states ≡ length p.slices) (stand : AllStand p switch sides states) (numbered : AllNumbered p switch sides)
    (packet : PacketIn) (is : read_switch message ≡ Ok (says.PacketIn packet)) where
  abbrev changed : ℕ → Option ℕ → List Item → List Change → Type 0
  changed slot number shown listed = SlotChanges (settings_at p slot switch.features) number (sides slot).sight shown listed

  abbrev listed : ℕ → List Change
  listed slot = of_slot slot (changed_among (length p.slices) (rules_of p switch.features) states packet)

  by_slot : (slot : ℕ) (here : Bool) → is_slot p slot ≡ here → changed slot (number_told switch.phase (SwitchMsg message)) (items_of p slot switch (sides slot) (told_at moment message)) (listed slot)
  by_slot slot true here =
      let state = has_item states slot (let lt = ltb-true slot (length p.slices) here in omega (arith, lt, same)) in
      subst (λ (number : Option ℕ). changed slot number (items_of p slot switch (sides slot) (told_at moment message)) (listed slot)) (sym (number_of_said switch message (Ok (says.PacketIn packet)) opened is))
      (subst (λ (items : List Item). changed slot (number_given packet) items (listed slot))
      (sym (items_of_said p slot moment switch (sides slot) message (Ok (says.PacketIn packet)) opened here is))
      (by_kept p (rules_of p switch.features) states slot (settings_at p slot switch.features) (sides slot) packet state.0 (packet.buffer == NO_BUFFER) refl state.1 (numbered slot here) (stand slot state.0 state.1).up))
  by_slot slot false none =
      subst (λ (items : List Item). changed slot (number_told switch.phase (SwitchMsg message)) items (listed slot)) (sym (items_none p slot moment switch (sides slot) message none))
      (subst (changed slot (number_told switch.phase (SwitchMsg message)) [])
      (sym (none_kept_past p (rules_of p switch.features) states slot packet (packet.buffer == NO_BUFFER) (let past = ltb-false slot (length p.slices) none in omega (arith, past, same))))
      (nothing_seen (settings_at p slot switch.features) (number_told switch.phase (SwitchMsg message)) (sides slot).sight))

  pub packet_changed : AreChanges p switch sides moment message (packet_changes (rules_of p switch.features) states packet)
  packet_changed slot =
      subst (λ (count : ℕ). changed slot (number_told switch.phase (SwitchMsg message)) (items_of p slot switch (sides slot) (told_at moment message))
      (of_slot slot (changed_among count (rules_of p switch.features) states packet)))
      (sym same) (by_slot slot (is_slot p slot) refl)
