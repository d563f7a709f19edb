-- What a slice has seen of its switch: its features, and the slice's own of the known ports.
use Rattle.std.proofs.Common.{◌≡◌, ℕ, ◌==◌, ◌&&◌, ◌≤◌, Bool, true, false, if◌then◌else◌, List, [], ◌∷◌, length, refl, ap, sym, ◌∙◌, true≢false, Option, Some, None, IfSome, subst, arith, Result, Ok}
use Rattle.std.specs.List.{list_any}
use Rattle.std.proofs.lemmas.Bool.{false_from_ne_true, or_parts}
use Rattle.std.proofs.lemmas.Option.{none-some}
use Rattle.of10_message.specs.declared.fault.Unread.{Unread}
use Rattle.of10_message.specs.Switch as says
use Rattle.of10_message.specs.Switch.{SwitchMessage, read_switch}
use Rattle.of10_port.specs.declared.features.Features.{Features}
use Rattle.of10_port.specs.declared.status.PortStatus.{PortStatus}
use Rattle.of10_port.specs.Ports.{port_number}
use Rattle.flowspace.specs.declared.rules.Rule.{Rule}
use Rattle.flowspace.specs.Owners.{has_port}
use Rattle.flowspace.specs.Policies.{PolicyView}
use Rattle.port_view.specs.declared.status_answers.Kept.{Kept as Answer}
use Rattle.port_view.specs.declared.status_answers.Kept.TheVariants.{Kept, Ignored, TooManyPorts}
use Rattle.port_view.specs.KnownPorts.{is_kept, IsAscending, first_known, changed, changed_plainly, kept_of, says_kept, known_of as known_by}
use Rattle.port_view.specs.SlicePorts.{ports_of_slice}
use Rattle.port_view.proofs.Knowing.{changed-not_kept, IsAscending-changed, IsAscending-none, IsAscending-known_of, few-changed, few-known_of}
use Rattle.port_view.proofs.Following.{own-changed, own-changed_other}
use Rattle.of10_message.specs.Heads.{xid_of}
use Rattle.slice_words.specs.Items.{Settings, Item, Opened as Told, Up, Down, Msg, Lost, Handed, Removed, Status, Fault, Barrier, Queues, Entry, Last, End, is_up, features_in, known_ports, own_rules, is_own_port}
use Rattle.slice_words.specs.Alone.{with_items}
use Rattle.desk_words.specs.declared.event.Event.{Event}
use Rattle.desk_words.specs.declared.event.Event.TheVariants.{SwitchUp, SwitchMsg, SwitchDown, SliceUp, SliceMsg, SliceDown}
use Rattle.desk_words.specs.declared.event.Timed.{Timed}
use Rattle.desk_words.specs.declared.phase.Phase.{Phase}
use Rattle.desk_words.specs.declared.phase.Phase.TheVariants.{Fresh, Begun, Opened, Gone}
use Rattle.desk_words.specs.Openings.{status_said, features_told, status_told, phase_of, opening_after, opening_of, rules_of, known_after, ports_after, KnownSwitch, switch_of}
use Rattle.desk_words.specs.Verdicts.{is_before}
use Rattle.desk_words.specs.Histories.{is_slot, settings_at, own_ports, own_features, packet_in_items, status_items, said_items, message_items, event_items, phase_items, SliceSide, side_start, side_of, view_of}
use Rattle.desk_words.specs.Laws.{HasSeen, SeesItsSwitch, AreKnownInOrder}
use Rattle.desk_words.proofs.Alone.{blind}
use Rattle.desk_words.proofs.Silence.{none_or, none_of_packet, NoReply, NoOther, none_of_others, untold}

-- ---- items that say nothing of the switch

-- an item says the switch's features or reports its ports
abbrev tells_switch : Item → Bool
tells_switch (Told features) = true
tells_switch (Status status) = true
tells_switch item = false

untelling : (item : Item) (view : List Item) → tells_switch item ≡ false → (features_in (item ∷ view) ≡ features_in view) × (known_ports (item ∷ view) ≡ known_ports view)
untelling (Told features) view none = absurd (true≢false none)
untelling (Status status) view none = absurd (true≢false none)
untelling Up view none = (refl, refl)
untelling Down view none = (refl, refl)
untelling (Msg message moment) view none = (refl, refl)
untelling (Lost k) view none = (refl, refl)
untelling (Handed packet) view none = (refl, refl)
untelling (Removed entry) view none = (refl, refl)
untelling (Fault x class code pair) view none = (refl, refl)
untelling (Barrier x) view none = (refl, refl)
untelling (Queues x body) view none = (refl, refl)
untelling (Entry x kind bytes) view none = (refl, refl)
untelling (Last x kind) view none = (refl, refl)
untelling End view none = (refl, refl)

untelling_all : (items view : List Item) → list_any tells_switch items ≡ false → (features_in (with_items items view) ≡ features_in view) × (known_ports (with_items items view) ≡ known_ports view)
untelling_all [] view none = (refl, refl)
untelling_all (item ∷ items) view none =
    let rest = untelling_all items (item ∷ view) ((or_parts (tells_switch item) (list_any tells_switch items) none).1) in
    let one = untelling item view ((or_parts (tells_switch item) (list_any tells_switch items) none).0) in
    (rest.0 ∙ one.0, rest.1 ∙ one.1)

untelling_reply : NoReply tells_switch
untelling_reply = record { barrier = λ x. refl; queues = λ x body. refl; entry = λ x kind bytes. refl; last = λ x kind. refl }

-- ---- the known ports after a status

ignored : Ignored ≡ Kept → ⊥
ignored e = true≢false (sym (ap says_kept e))

too_many : TooManyPorts ≡ Kept → ⊥
too_many e = true≢false (sym (ap says_kept e))

-- the slice's own ports, after a status that may be kept and may be of a port of the slice
own_after : (rules : List Rule) (slot : ℕ) (view : List Item) (status : PortStatus) (known : List (List ℕ)) (kept : Answer) (own : Bool)
    → kept_of status known ≡ kept → has_port rules slot (port_number status.port) ≡ own → IsAscending known
    → known_ports view ≡ ports_of_slice rules slot known
    → known_ports (with_items (if says_kept kept && own then Status status ∷ [] else []) view) ≡ ports_of_slice rules slot (changed status known)
own_after rules slot view status known Kept true kept own order same =
    ap (changed_plainly status) same ∙ sym (own-changed (has_port rules slot) status known kept own)
own_after rules slot view status known Kept false kept own order same =
    same ∙ sym (own-changed_other (has_port rules slot) status known order own)
own_after rules slot view status known Ignored own_ kept own order same =
    same ∙ sym (ap (ports_of_slice rules slot) (changed-not_kept status known (λ is. ignored (sym kept ∙ is))))
own_after rules slot view status known TooManyPorts own_ kept own order same =
    same ∙ sym (ap (ports_of_slice rules slot) (changed-not_kept status known (λ is. too_many (sym kept ∙ is))))

shown_status : (b : Bool) (view : List Item) (status : PortStatus) → features_in (with_items (if b then Status status ∷ [] else []) view) ≡ features_in view
shown_status true view status = refl
shown_status false view status = refl

-- what a view shows beside known ports: the features that it showed, and the slice's own of these ports
record Follows (s : Settings) (before after : List Item) (known : List (List ℕ)) : Type 0 where
  features_stay : features_in after ≡ features_in before
  ports_follow : known_ports after ≡ own_ports s known

by_status : (s : Settings) (view : List Item) (known : List (List ℕ)) (status : PortStatus) → IsAscending known → known_ports view ≡ own_ports s known
    → Follows s view (with_items (status_items s known status) view) (changed status known)
by_status s view known status order same = record {
  features_stay = shown_status (is_kept status known && is_own_port s.slot s.patterns (port_number status.port)) view status;
  ports_follow = own_after (own_rules s) s.slot view status known (kept_of status known) (has_port (own_rules s) s.slot (port_number status.port)) refl refl order same;
}

-- items that say nothing of the switch, where the ports stay
by_untelling : (s : Settings) (view items : List Item) (known now : List (List ℕ)) → list_any tells_switch items ≡ false → now ≡ known → known_ports view ≡ own_ports s known
    → Follows s view (with_items items view) now
by_untelling s view items known now none stay same =
    let both = untelling_all items view none in
    record { features_stay = both.0; ports_follow = both.1 ∙ same ∙ ap (own_ports s) (sym stay) }

abbrev known_with : List (List ℕ) → Option PortStatus → List (List ℕ)
known_with known told = elim told [ None ↦ known | Some status ↦ changed status known ]

other_untelling : NoOther tells_switch
other_untelling = record { end = refl; removed = λ entry. refl; fault = λ x class code pair. refl; reply = untelling_reply }

by_said : (policy : PolicyView) (slot : ℕ) (switch : KnownSwitch) (side : SliceSide) (xid : ℕ) (said : Result SwitchMessage Unread)
    → IsAscending switch.known → known_ports side.sight.view ≡ own_ports (settings_at policy slot switch.features) switch.known
    → Follows (settings_at policy slot switch.features) side.sight.view (with_items (said_items policy slot switch side xid said) side.sight.view) (known_with switch.known (status_said said))
by_said policy slot switch side xid (Ok (says.PortStatus status)) order same = by_status (settings_at policy slot switch.features) side.sight.view switch.known status order same
by_said policy slot switch side xid (Ok (says.PacketIn packet)) order same =
    by_untelling (settings_at policy slot switch.features) side.sight.view (packet_in_items policy (rules_of policy switch.features) slot side packet) switch.known switch.known
    (none_of_packet tells_switch policy (rules_of policy switch.features) slot side packet (λ share. refl) (λ k. refl)) refl same
by_said policy slot switch side xid said order same =
    by_untelling (settings_at policy slot switch.features) side.sight.view (said_items policy slot switch side xid said) switch.known switch.known (none_of_others tells_switch policy slot switch side xid said other_untelling refl refl) refl same

by_message : (policy : PolicyView) (slot : ℕ) (switch : KnownSwitch) (side : SliceSide) (message : List ℕ)
    → IsAscending switch.known → known_ports side.sight.view ≡ own_ports (settings_at policy slot switch.features) switch.known
    → Follows (settings_at policy slot switch.features) side.sight.view (with_items (message_items policy slot switch side message) side.sight.view) (known_after Opened switch.known (SwitchMsg message))
unfolding message_items
by_message policy slot switch side message order same = by_said policy slot switch side (xid_of message) (read_switch message) order same

by_event : (policy : PolicyView) (slot moment : ℕ) (switch : KnownSwitch) (side : SliceSide) (event : Event)
    → IsAscending switch.known → known_ports side.sight.view ≡ own_ports (settings_at policy slot switch.features) switch.known
    → Follows (settings_at policy slot switch.features) side.sight.view (with_items (event_items policy slot switch side moment event) side.sight.view) (known_after Opened switch.known event)
by_event policy slot moment switch side SwitchUp order same = record { features_stay = refl; ports_follow = same }
by_event policy slot moment switch side (SwitchMsg message) order same = by_message policy slot switch side message order same
by_event policy slot moment switch side SwitchDown order same = record { features_stay = refl; ports_follow = same }
by_event policy slot moment switch side (SliceUp other) order same =
    by_untelling (settings_at policy slot switch.features) side.sight.view (if other == slot then Up ∷ [] else []) switch.known switch.known (none_or tells_switch (other == slot) (Up ∷ []) refl) refl same
by_event policy slot moment switch side (SliceMsg other message) order same =
    by_untelling (settings_at policy slot switch.features) side.sight.view (if other == slot && is_up side.sight.view then Msg message moment ∷ [] else []) switch.known switch.known (none_or tells_switch (other == slot && is_up side.sight.view) (Msg message moment ∷ []) refl) refl same
by_event policy slot moment switch side (SliceDown other) order same =
    by_untelling (settings_at policy slot switch.features) side.sight.view (if other == slot then Down ∷ [] else []) switch.known switch.known (none_or tells_switch (other == slot) (Down ∷ []) refl) refl same

-- ---- histories

by_phase : (policy : PolicyView) (slot : ℕ) (switch : KnownSwitch) (side : SliceSide) (timed : Timed) (phase : Phase) → is_before phase ≡ false
    → IsAscending switch.known → known_ports side.sight.view ≡ own_ports (settings_at policy slot switch.features) switch.known
    → Follows (settings_at policy slot switch.features) side.sight.view (with_items (phase_items policy slot switch side timed phase) side.sight.view) (known_after phase switch.known timed.event)
by_phase policy slot switch side timed Fresh late order same = absurd (true≢false late)
by_phase policy slot switch side timed Begun late order same = absurd (true≢false late)
by_phase policy slot switch side timed Opened late order same = by_event policy slot timed.moment switch side timed.event order same
by_phase policy slot switch side timed Gone late order same = record { features_stay = refl; ports_follow = same }

abbrev known_begun : List (List ℕ) → Option Features → List (List ℕ)
known_begun known told = elim told [ None ↦ known | Some features ↦ first_known features.ports ]

-- ---- what holds of the known ports

-- a property holds of no ports, of those that a message's features say, and still with a message's status
pub record HoldsOfPorts (P : List (List ℕ) → Type 0) : Type 0 where
  pub none : P []
  pub first : (message : List ℕ) → IfSome (features_told message) (λ features. P (first_known features.ports))
  pub still : (message : List ℕ) → IfSome (status_told message) (λ status. (known : List (List ℕ)) → P known → P (changed status known))

holds_first : (P : List (List ℕ) → Type 0) (known : List (List ℕ)) (told : Option Features) → IfSome told (λ features. P (first_known features.ports)) → P known → P (known_begun known told)
holds_first P known None first before = before
holds_first P known (Some features) first before = first

holds_still : (P : List (List ℕ) → Type 0) (known : List (List ℕ)) (told : Option PortStatus) → IfSome told (λ status. (others : List (List ℕ)) → P others → P (changed status others)) → P known → P (known_with known told)
holds_still P known None still before = before
holds_still P known (Some status) still before = still known before

holds_after : (P : List (List ℕ) → Type 0) → HoldsOfPorts P → (phase : Phase) (known : List (List ℕ)) (event : Event) → P known → P (known_after phase known event)
holds_after P each Fresh known event before = before
holds_after P each Gone known event before = before
holds_after P each Begun known (SwitchMsg message) before = holds_first P known (features_told message) (each.first message) before
holds_after P each Begun known SwitchUp before = before
holds_after P each Begun known SwitchDown before = before
holds_after P each Begun known (SliceUp slot) before = before
holds_after P each Begun known (SliceMsg slot message) before = before
holds_after P each Begun known (SliceDown slot) before = before
holds_after P each Opened known (SwitchMsg message) before = holds_still P known (status_told message) (each.still message) before
holds_after P each Opened known SwitchUp before = before
holds_after P each Opened known SwitchDown before = before
holds_after P each Opened known (SliceUp slot) before = before
holds_after P each Opened known (SliceMsg slot message) before = before
holds_after P each Opened known (SliceDown slot) before = before

pub known_holds : (P : List (List ℕ) → Type 0) → HoldsOfPorts P → (h : List Timed) → P (ports_after h)
known_holds P each [] = each.none
known_holds P each (timed ∷ h) = holds_after P each (phase_of h) (ports_after h) timed.event (known_holds P each h)

-- ---- the known ports ascend

if_any : {A : Type 0} (P : A → Type 0) (told : Option A) → ((x : A) → P x) → IfSome told P
if_any P None all = tt
if_any P (Some x) all = all x

first_ascending : (features : Features) → IsAscending (first_known features.ports)
unfolding known_by
first_ascending features = IsAscending-known_of features []

pub ascending : (h : List Timed) → IsAscending (ports_after h)
ascending h = known_holds IsAscending (record {
  none = IsAscending-none;
  first = λ message. if_any (λ features. IsAscending (first_known features.ports)) (features_told message) first_ascending;
  still = λ message. if_any (λ status. (known : List (List ℕ)) → IsAscending known → IsAscending (changed status known)) (status_told message) IsAscending-changed;
}) h

-- ---- what is seen at the opening, and after it

-- the opening shows the features with the slice's own ports
seen_first : (policy : PolicyView) (slot : ℕ) (switch : KnownSwitch) (timed : Timed) (event : Event) (phase : Phase) (features : Features)
    → timed.event ≡ event → opening_after phase None event ≡ Some features
    → (features_in (with_items (phase_items policy slot switch side_start timed phase) []) ≡ Some (own_features (settings_at policy slot (Some features)) features))
    × (known_ports (with_items (phase_items policy slot switch side_start timed phase) []) ≡ own_ports (settings_at policy slot (Some features)) (known_after phase switch.known event))
seen_first policy slot switch timed event Fresh features e told = absurd (none-some features told)
seen_first policy slot switch timed event Opened features e told = absurd (none-some features told)
seen_first policy slot switch timed event Gone features e told = absurd (none-some features told)
seen_first policy slot switch timed SwitchUp Begun features e told = absurd (none-some features told)
seen_first policy slot switch timed SwitchDown Begun features e told = absurd (none-some features told)
seen_first policy slot switch timed (SliceUp other) Begun features e told = absurd (none-some features told)
seen_first policy slot switch timed (SliceMsg other message) Begun features e told = absurd (none-some features told)
seen_first policy slot switch timed (SliceDown other) Begun features e told = absurd (none-some features told)
seen_first policy slot switch timed (SwitchMsg message) Begun features e told =
    rw (e, told) (refl, ap (own_ports (settings_at policy slot (Some features))) (sym (ap (known_begun switch.known) told)))

-- an event more, once the switch has said what it is
seen_more : (policy : PolicyView) (slot : ℕ) (h : List Timed) (timed : Timed) (features : Features) → opening_of h ≡ Some features → is_slot policy slot ≡ true
    → HasSeen policy slot features (ports_after h) (view_of policy slot h) → HasSeen policy slot features (ports_after (timed ∷ h)) (view_of policy slot (timed ∷ h))
seen_more policy slot h timed features is here before =
    let s = settings_at policy slot (Some features) in
    let same_settings : settings_at policy slot (opening_of h) ≡ s = ap (settings_at policy slot) is in
    let late : is_before (phase_of h) ≡ false = false_from_ne_true (is_before (phase_of h)) (λ early. none-some features (sym (untold h early) ∙ is)) in
    let follows = by_phase policy slot (switch_of h) (side_of policy slot h) timed (phase_of h) late (ascending h) (before.ports_known ∙ ap (λ (t : Settings). own_ports t (ports_after h)) (sym same_settings)) in
    record {
      features_seen = rw here (follows.features_stay ∙ before.features_seen);
      ports_known = rw here (follows.ports_follow ∙ ap (λ (t : Settings). own_ports t (known_after (phase_of h) (ports_after h) timed.event)) same_settings);
    }

seen_now : (policy : PolicyView) (slot : ℕ) (h : List Timed) (timed : Timed) (features : Features) → opening_of h ≡ None → is_slot policy slot ≡ true
    → opening_after (phase_of h) None timed.event ≡ Some features → HasSeen policy slot features (ports_after (timed ∷ h)) (view_of policy slot (timed ∷ h))
seen_now policy slot h timed features is here told =
    let both = seen_first policy slot (switch_of h) timed timed.event (phase_of h) features refl told in
    let start = blind policy slot h is in
    record {
      features_seen = rw here (ap (λ (side : SliceSide). features_in (with_items (phase_items policy slot (switch_of h) side timed (phase_of h)) side.sight.view)) start ∙ both.0);
      ports_known = rw here (ap (λ (side : SliceSide). known_ports (with_items (phase_items policy slot (switch_of h) side timed (phase_of h)) side.sight.view)) start ∙ both.1);
    }

-- by whether the switch had said what it is before
seen_by : (policy : PolicyView) (slot : ℕ) (h : List Timed) (timed : Timed) (features : Features) (told : Option Features) → opening_of h ≡ told → is_slot policy slot ≡ true
    → SeesItsSwitch policy slot h features → opening_after (phase_of h) told timed.event ≡ Some features → HasSeen policy slot features (ports_after (timed ∷ h)) (view_of policy slot (timed ∷ h))
seen_by policy slot h timed features None is here before now = seen_now policy slot h timed features is here now
seen_by policy slot h timed features (Some own) is here before now =
    let same : opening_of h ≡ Some features = is ∙ now in
    seen_more policy slot h timed features same here (before same here)

pub seen : (policy : PolicyView) (slot : ℕ) (h : List Timed) (features : Features) → SeesItsSwitch policy slot h features
seen policy slot [] features told here = absurd (none-some features told)
seen policy slot (timed ∷ h) features told here =
    seen_by policy slot h timed features (opening_of h) refl here (seen policy slot h features) told

-- ---- how many ports are known

few_told : (known : List (List ℕ)) (told : Option PortStatus) → length known ≤ 1364 → length (known_with known told) ≤ 1364
few_told known None few = few
few_told known (Some status) few = few-changed status known few

first_few : (features : Features) → length features.ports ≤ 1364 → length (first_known features.ports) ≤ 1364
unfolding known_by
first_few features few = few-known_of features [] few

abbrev HasFew : Option Features → Type 0
HasFew told = IfSome told (λ features. length features.ports ≤ 1364)

few_begun : (known : List (List ℕ)) (told : Option Features) → length known ≤ 1364 → HasFew told → length (known_begun known told) ≤ 1364
few_begun known None few has = few
few_begun known (Some features) few has = first_few features has

few_after : (phase : Phase) (told : Option Features) (known : List (List ℕ)) (event : Event) → (is_before phase ≡ true → told ≡ None) → length known ≤ 1364
    → HasFew (opening_after phase told event) → length (known_after phase known event) ≤ 1364
few_after Fresh told known event early few has = few
few_after Gone told known event early few has = few
few_after Begun told known (SwitchMsg message) early few has = few_begun known (features_told message) few (subst (λ t. HasFew (opening_after Begun t (SwitchMsg message))) (early refl) has)
few_after Begun told known SwitchUp early few has = few
few_after Begun told known SwitchDown early few has = few
few_after Begun told known (SliceUp slot) early few has = few
few_after Begun told known (SliceMsg slot message) early few has = few
few_after Begun told known (SliceDown slot) early few has = few
few_after Opened told known (SwitchMsg message) early few has = few_told known (status_told message) few
few_after Opened told known SwitchUp early few has = few
few_after Opened told known SwitchDown early few has = few
few_after Opened told known (SliceUp slot) early few has = few
few_after Opened told known (SliceMsg slot message) early few has = few
few_after Opened told known (SliceDown slot) early few has = few

-- what is said first is said from then on
few_before : (phase : Phase) (told : Option Features) (event : Event) → HasFew (opening_after phase told event) → HasFew told
few_before phase None event has = tt
few_before phase (Some features) event has = has

few_known : (h : List Timed) → HasFew (opening_of h) → length (ports_after h) ≤ 1364
few_known [] has = omega arith
few_known (timed ∷ h) has =
    few_after (phase_of h) (opening_of h) (ports_after h) timed.event (untold h) (few_known h (few_before (phase_of h) (opening_of h) timed.event has)) has

pub in_order : (h : List Timed) → AreKnownInOrder h
in_order h = record { ascending = ascending h; few = few_known h }
