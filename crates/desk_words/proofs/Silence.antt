-- A slice that is down is sent nothing until it connects.
use Rattle.std.proofs.Common.{◌≡◌, ℕ, ◌%◌, ◌^◌, ◌==◌, ◌&&◌, ◌||◌, Bool, true, false, cond, if◌then◌else◌, List, [], ◌∷◌, ◌++◌, map, refl, ap, ap₂, sym, ◌∙◌, append-nil, true≢false, Option, Some, None, option_and_then, inl, inr, ◌⊎◌, Result, Ok, Err}
use Rattle.std.proofs.lemmas.Bool.{and_right, eq-eqb, or_parts}
use Rattle.std.proofs.lemmas.Option.{none-some}
use Rattle.std.specs.List.{filter, list_any}
use Rattle.of10_model.proofs.Results.{either, either_none}
use Rattle.of10_flow.specs.declared.packet_in.PacketIn.{PacketIn}
use Rattle.of10_flow.specs.declared.flow_removed.FlowRemoved.{FlowRemoved}
use Rattle.of10_message.specs.Heads.{xid_of}
use Rattle.of10_message.specs.declared.fault.Unread.{Unread}
use Rattle.of10_message.specs.declared.fault.Unread.TheVariants.{BadLength}
use Rattle.of10_message.specs.Errors.{ErrorMessage, pair_in}
use Rattle.of10_message.specs.Queues.{QueuesMessage}
use Rattle.of10_message.specs.Switch as says
use Rattle.of10_message.specs.Switch.{SwitchMessage, read_switch}
use Rattle.of10_stats.specs.declared.reply.StatsPart.{StatsPart}
use Rattle.of10_model.specs.declared.pattern.Pattern.{Pattern}
use Rattle.of10_model.specs.Inclusion.{includes_of}
use Rattle.of10_port.specs.declared.features.Features.{Features}
use Rattle.of10_port.specs.declared.status.PortStatus.{PortStatus}
use Rattle.of10_port.specs.Ports.{port_number}
use Rattle.flowspace.specs.declared.rules.Rule.{Rule}
use Rattle.flowspace.specs.Policies.{PolicyView}
use Rattle.slice_words.specs.Items.{Settings, is_own_port, Share, Item, Opened as Told, Up, Down, Msg, Lost, Handed, Removed, Status, Fault, Barrier, Queues, Entry, Last, End, is_up, is_forgetting}
use Rattle.slice_words.specs.Alone.{with_items, shown_to, sent_for}
use Rattle.slice_words.specs.Laws.{is_coming, is_last_up}
use Rattle.slice_words.proofs.Joining.{silent, last_up}
use Rattle.desk_words.specs.declared.event.Event.{Event}
use Rattle.desk_words.specs.declared.event.Event.TheVariants.{SwitchUp, SwitchMsg, SwitchDown, SliceUp, SliceMsg, SliceDown}
use Rattle.desk_words.specs.declared.event.Timed.{Timed}
use Rattle.desk_words.specs.declared.phase.Phase.{Phase}
use Rattle.desk_words.specs.declared.phase.Phase.TheVariants.{Fresh, Begun, Opened, Gone}
use Rattle.desk_words.specs.Openings.{ends_switch, status_said, features_told, phase_after, phase_of, opening_with, opening_after, opening_of, rules_of, KnownSwitch, switch_of}
use Rattle.desk_words.specs.Verdicts.{is_before}
use Rattle.desk_words.specs.Histories.{is_slot, settings_at, SliceSide, side_start, side_of, view_of, handed, shares_of, packet_items, packet_in_items, lost_items, holder, number_given, number_told, came_with, status_items, removed_items, is_reply_to, error_items, barrier_items, queues_items, own_entries, is_part, part_items, statistics_items, packet_said, said_items, message_items, opening_items, event_items, phase_items, items_of, is_open, is_slice_up}
use Rattle.port_view.specs.KnownPorts.{is_kept}
use Rattle.desk_words.specs.Sent.{sent, sent_by}
use Rattle.desk_words.specs.Laws.{is_up_of, IsSilentUntilUp, IsDownAfterDown}
use Rattle.desk_words.proofs.Alone.{blind}

-- ---- items of which none passes a test

pub none_or : (test : Item → Bool) (b : Bool) (items : List Item) → list_any test items ≡ false → list_any test (if b then items else []) ≡ false
none_or test b items none = either (λ (shown : List Item). list_any test shown ≡ false) b items [] none refl

none_each : {X : Type 0} (test : Item → Bool) (shown : X → Item) (xs : List X) → ((x : X) → test (shown x) ≡ false) → list_any test (map shown xs) ≡ false
none_each test shown [] none = refl
none_each test shown (x ∷ xs) none = ap (λ (one : Bool). one || list_any test (map shown xs)) (none x) ∙ none_each test shown xs none

-- nor of two lists of items
pub none_both : (test : Item → Bool) (items others : List Item) → list_any test items ≡ false → list_any test others ≡ false → list_any test (items ++ others) ≡ false
none_both test [] others none none_of_others = none_of_others
none_both test (item ∷ items) others none none_of_others =
    let parts = or_parts (test item) (list_any test items) none in
    rw (parts.0) (none_both test items others parts.1 none_of_others)

none_lost : (test : Item → Bool) (lost : Option ℕ) → ((k : ℕ) → test (Lost k) ≡ false) → list_any test (elim lost [ None ↦ [] | Some k ↦ Lost k ∷ [] ]) ≡ false
none_lost test None none = refl
none_lost test (Some k) none = ap (λ (one : Bool). one || false) (none k)

-- a packet shows a slice nothing but what is lost and the packet
pub none_of_packet : (test : Item → Bool) (policy : PolicyView) (rules : List Rule) (slot : ℕ) (side : SliceSide) (packet : PacketIn) → ((share : Share) → test (handed share packet) ≡ false) → ((k : ℕ) → test (Lost k) ≡ false)
    → list_any test (packet_in_items policy rules slot side packet) ≡ false
none_of_packet test policy rules slot side packet none lost =
    none_both test (lost_items side.numbered packet) (packet_items policy rules slot side.sight.view packet)
    (none_lost test (option_and_then (λ number. holder number side.numbered) (number_given packet)) lost)
    (none_or test (is_up side.sight.view) (map (λ share. handed share packet) (shares_of policy rules slot packet))
    (none_each test (λ share. handed share packet) (shares_of policy rules slot packet) none))

-- ---- items that say nothing of the connection

-- none of the items says that the slice connected, disconnected, or sent a message that ends its connection
abbrev pub are_plain : List Item → Bool
are_plain items = list_any is_forgetting items

plain_status : (s : Settings) (known : List (List ℕ)) (status : PortStatus) → are_plain (status_items s known status) ≡ false
plain_status s known status = none_or is_forgetting (is_kept status known && is_own_port s.slot s.patterns (port_number status.port)) (Status status ∷ []) refl

-- an entry that was removed, and an error, show a slice nothing but itself
pub none_of_removed : (test : Item → Bool) (s : Settings) (entry : FlowRemoved) → ((other : FlowRemoved) → test (Removed other) ≡ false) → list_any test (removed_items s entry) ≡ false
none_of_removed test s entry none =
    none_or test (list_any (λ pattern. includes_of pattern entry.pattern) s.patterns) (Removed (record entry { xid = 0 }) ∷ [])
    (ap (λ (one : Bool). one || false) (none (record entry { xid = 0 })))

pub none_of_error : (test : Item → Bool) (s : Settings) (xid : ℕ) (error : ErrorMessage) → ((x class code : ℕ) (pair : Option (Pattern × ℕ)) → test (Fault x class code pair) ≡ false) → list_any test (error_items s xid error) ≡ false
none_of_error test s xid error none =
    none_or test (is_reply_to s xid) (Fault (xid % 2 ^ 24) error.class error.code (pair_in xid error.cause) ∷ [])
    (ap (λ (one : Bool). one || false) (none (xid % 2 ^ 24) error.class error.code (pair_in xid error.cause)))

-- no reply to a slice's question passes a test
pub record NoReply (test : Item → Bool) : Type 0 where
  pub barrier : (x : ℕ) → test (Barrier x) ≡ false
  pub queues : (x : ℕ) (body : List ℕ) → test (Queues x body) ≡ false
  pub entry : (x kind : ℕ) (bytes : List ℕ) → test (Entry x kind bytes) ≡ false
  pub last : (x kind : ℕ) → test (Last x kind) ≡ false

pub none_of_barrier : (test : Item → Bool) (s : Settings) (xid : ℕ) → NoReply test → list_any test (barrier_items s xid) ≡ false
none_of_barrier test s xid none = none_or test (is_reply_to s xid) (Barrier (xid % 2 ^ 24) ∷ []) (ap (λ (one : Bool). one || false) (none.barrier (xid % 2 ^ 24)))

pub none_of_queues : (test : Item → Bool) (s : Settings) (xid : ℕ) (queues : QueuesMessage) → NoReply test → list_any test (queues_items s xid queues) ≡ false
none_of_queues test s xid queues none =
    none_or test (is_reply_to s xid && is_own_port s.slot s.patterns queues.port) (Queues (xid % 2 ^ 24) queues.body ∷ [])
    (ap (λ (one : Bool). one || false) (none.queues (xid % 2 ^ 24) queues.body))

none_of_part : (test : Item → Bool) (s : Settings) (x : ℕ) (part : StatsPart) (body : List ℕ) → NoReply test → list_any test (part_items s x part body) ≡ false
none_of_part test s x part body none =
    none_both test (map (Entry x part.kind) (own_entries s part.kind body)) (if part.more then [] else Last x part.kind ∷ [])
    (none_each test (Entry x part.kind) (own_entries s part.kind body) (none.entry x part.kind))
    (either (λ (items : List Item). list_any test items ≡ false) part.more [] (Last x part.kind ∷ []) refl (ap (λ (one : Bool). one || false) (none.last x part.kind)))

pub none_of_statistics : (test : Item → Bool) (s : Settings) (xid : ℕ) (part : StatsPart) (body : List ℕ) → NoReply test → list_any test (statistics_items s xid part body) ≡ false
none_of_statistics test s xid part body none =
    none_or test (is_reply_to s xid && is_part part.kind body) (part_items s (xid % 2 ^ 24) part body)
    (none_of_part test s (xid % 2 ^ 24) part body none)

-- nor does the end, an entry that was removed, or an error
pub record NoOther (test : Item → Bool) : Type 0 where
  pub end : test End ≡ false
  pub removed : (entry : FlowRemoved) → test (Removed entry) ≡ false
  pub fault : (x class code : ℕ) (pair : Option (Pattern × ℕ)) → test (Fault x class code pair) ≡ false
  pub reply : NoReply test

-- a message that hands up no packet and reports no port shows nothing else
pub none_of_others : (test : Item → Bool) (policy : PolicyView) (slot : ℕ) (switch : KnownSwitch) (side : SliceSide) (xid : ℕ) (said : Result SwitchMessage Unread) → NoOther test → packet_said said ≡ None → status_said said ≡ None
    → list_any test (said_items policy slot switch side xid said) ≡ false
none_of_others test policy slot switch side xid (Err BadLength) none no_packet no_status = ap (λ (one : Bool). one || false) none.end
none_of_others test policy slot switch side xid (Ok (says.PacketIn packet)) none no_packet no_status = absurd (none-some packet (sym no_packet))
none_of_others test policy slot switch side xid (Ok (says.FlowRemoved entry)) none no_packet no_status = none_of_removed test (settings_at policy slot switch.features) entry none.removed
none_of_others test policy slot switch side xid (Ok (says.PortStatus status)) none no_packet no_status = absurd (none-some status (sym no_status))
none_of_others test policy slot switch side xid (Ok (says.Error error)) none no_packet no_status = none_of_error test (settings_at policy slot switch.features) xid error none.fault
none_of_others test policy slot switch side xid (Ok says.BarrierReply) none no_packet no_status = none_of_barrier test (settings_at policy slot switch.features) xid none.reply
none_of_others test policy slot switch side xid (Ok (says.QueueGetConfigReply queues)) none no_packet no_status = none_of_queues test (settings_at policy slot switch.features) xid queues none.reply
none_of_others test policy slot switch side xid (Ok (says.StatsReply part body)) none no_packet no_status = none_of_statistics test (settings_at policy slot switch.features) xid part body none.reply
none_of_others test policy slot switch side xid said none no_packet no_status = refl

plain_other : NoOther is_forgetting
plain_other = record {
  end = refl;
  removed = λ entry. refl;
  fault = λ x class code pair. refl;
  reply = record { barrier = λ x. refl; queues = λ x body. refl; entry = λ x kind bytes. refl; last = λ x kind. refl };
}

plain_said : (policy : PolicyView) (slot : ℕ) (switch : KnownSwitch) (side : SliceSide) (xid : ℕ) (said : Result SwitchMessage Unread) → are_plain (said_items policy slot switch side xid said) ≡ false
plain_said policy slot switch side xid (Ok (says.PacketIn packet)) = none_of_packet is_forgetting policy (rules_of policy switch.features) slot side packet (λ share. refl) (λ k. refl)
plain_said policy slot switch side xid (Ok (says.PortStatus status)) = plain_status (settings_at policy slot switch.features) switch.known status
plain_said policy slot switch side xid said = none_of_others is_forgetting policy slot switch side xid said plain_other refl refl

-- what a message of the switch shows says nothing of the slice's connection
pub plain_message : (policy : PolicyView) (slot : ℕ) (switch : KnownSwitch) (side : SliceSide) (message : List ℕ) → are_plain (message_items policy slot switch side message) ≡ false
unfolding message_items
plain_message policy slot switch side message = plain_said policy slot switch side (xid_of message) (read_switch message)

pub plain_opening : (policy : PolicyView) (slot : ℕ) (told : Option Features) → are_plain (opening_items policy slot told) ≡ false
plain_opening policy slot None = refl
plain_opening policy slot (Some features) = refl

stays : (item : Item) (view : List Item) → is_forgetting item ≡ false → is_up (item ∷ view) ≡ is_up view
stays item view plain = last_up (item ∷ view) ∙ ap (λ (forgetting : Bool). is_last_up (if forgetting then item ∷ filter is_forgetting view else filter is_forgetting view)) plain ∙ sym (last_up view)

-- such items leave the slice up or down
pub stays_all : (items view : List Item) → are_plain items ≡ false → is_up (with_items items view) ≡ is_up view
stays_all [] view plain = refl
stays_all (item ∷ items) view plain =
    stays_all items (item ∷ view) ((or_parts (is_forgetting item) (are_plain items) plain).1)
    ∙ stays item view ((or_parts (is_forgetting item) (are_plain items) plain).0)

-- ---- items without an up

down_still : (item : Item) (view : List Item) → is_coming item ≡ false → is_up view ≡ false → is_up (item ∷ view) ≡ false
down_still item view going down =
    last_up (item ∷ view) ∙ either (λ (items : List Item). is_last_up items ≡ false) (is_forgetting item) (item ∷ filter is_forgetting view) (filter is_forgetting view) going (sym (last_up view) ∙ down)

-- nothing is sent for items without an up while the slice is down, and it stays down
silent_items : (s : Settings) (view items : List Item) → is_up view ≡ false → list_any is_coming items ≡ false
    → (sent_for s view items ≡ []) × (is_up (with_items items view) ≡ false)
silent_items s view [] down going = (refl, down)
silent_items s view (item ∷ items) down going =
    let first = (or_parts (is_coming item) (list_any is_coming items) going).0 in
    let rest = silent_items s (item ∷ view) items (down_still item view first down) ((or_parts (is_coming item) (list_any is_coming items) going).1) in
    (ap₂ (λ (a b : List (List ℕ)). a ++ b) (ap (λ answer. shown_to s answer.to_slice) (silent s view item down first)) rest.0, rest.1)

plain_no_up : (item : Item) → is_forgetting item ≡ false → is_coming item ≡ false
plain_no_up Up plain = plain
plain_no_up Down plain = refl
plain_no_up (Msg message moment) plain = refl
plain_no_up (Told features) plain = refl
plain_no_up (Lost k) plain = refl
plain_no_up (Handed packet) plain = refl
plain_no_up (Removed entry) plain = refl
plain_no_up (Status status) plain = refl
plain_no_up (Fault x class code pair) plain = refl
plain_no_up (Barrier x) plain = refl
plain_no_up (Queues x body) plain = refl
plain_no_up (Entry x kind bytes) plain = refl
plain_no_up (Last x kind) plain = refl
plain_no_up End plain = refl

plain_none : (items : List Item) → are_plain items ≡ false → list_any is_coming items ≡ false
plain_none [] plain = refl
plain_none (item ∷ items) plain =
    rw (plain_no_up item ((or_parts (is_forgetting item) (are_plain items) plain).0)) (plain_none items ((or_parts (is_forgetting item) (are_plain items) plain).1))

-- an event that isn't the slice's up shows no up
none_event : (policy : PolicyView) (slot : ℕ) (switch : KnownSwitch) (side : SliceSide) (moment : ℕ) (timed : Timed) (event : Event) → timed.event ≡ event → is_up_of slot timed ≡ false
    → list_any is_coming (event_items policy slot switch side moment event) ≡ false
none_event policy slot switch side moment timed SwitchUp e still = refl
none_event policy slot switch side moment timed (SwitchMsg message) e still = plain_none (message_items policy slot switch side message) (plain_message policy slot switch side message)
none_event policy slot switch side moment timed SwitchDown e still = refl
none_event policy slot switch side moment timed (SliceUp other) e still =
    let other_slot : (other == slot) ≡ false = (rw e at still) in rw other_slot refl
none_event policy slot switch side moment timed (SliceMsg other message) e still = none_or is_coming (other == slot && is_up side.sight.view) (Msg message moment ∷ []) refl
none_event policy slot switch side moment timed (SliceDown other) e still = none_or is_coming (other == slot) (Down ∷ []) refl

none_in : (policy : PolicyView) (slot : ℕ) (switch : KnownSwitch) (side : SliceSide) (timed : Timed) (phase : Phase) → is_up_of slot timed ≡ false
    → list_any is_coming (phase_items policy slot switch side timed phase) ≡ false
none_in policy slot switch side timed Fresh still = refl
none_in policy slot switch side timed Begun still = plain_none (opening_items policy slot (opening_with Begun timed.event)) (plain_opening policy slot (opening_with Begun timed.event))
none_in policy slot switch side timed Opened still = none_event policy slot switch side timed.moment timed timed.event refl still
none_in policy slot switch side timed Gone still = refl

-- ---- before the opening nobody is up

early_told : (bad : Bool) (told : Option Features) → is_before (if bad then Gone else elim told [ None ↦ Begun | Some features ↦ Opened ]) ≡ true → told ≡ None
early_told true told early = absurd (true≢false (sym early))
early_told false None early = refl
early_told false (Some features) early = absurd (true≢false (sym early))

not_early : (bad : Bool) → is_before (if bad then Gone else Opened) ≡ true → ⊥
not_early true early = true≢false (sym early)
not_early false early = true≢false (sym early)

untold_after : (phase : Phase) (told : Option Features) (event : Event) → (is_before phase ≡ true → told ≡ None) → is_before (phase_after phase event) ≡ true → opening_after phase told event ≡ None
untold_after Fresh told event before early = ap (λ t. opening_after Fresh t event) (before refl)
untold_after Begun told (SwitchMsg message) before early = ap (λ t. opening_after Begun t (SwitchMsg message)) (before refl) ∙ early_told (ends_switch message) (features_told message) early
untold_after Begun told SwitchUp before early = ap (λ t. opening_after Begun t SwitchUp) (before refl)
untold_after Begun told SwitchDown before early = absurd (true≢false (sym early))
untold_after Begun told (SliceUp slot) before early = ap (λ t. opening_after Begun t (SliceUp slot)) (before refl)
untold_after Begun told (SliceMsg slot message) before early = ap (λ t. opening_after Begun t (SliceMsg slot message)) (before refl)
untold_after Begun told (SliceDown slot) before early = ap (λ t. opening_after Begun t (SliceDown slot)) (before refl)
untold_after Opened told (SwitchMsg message) before early = absurd (not_early (ends_switch message) early)
untold_after Opened told SwitchUp before early = absurd (true≢false (sym early))
untold_after Opened told SwitchDown before early = absurd (true≢false (sym early))
untold_after Opened told (SliceUp slot) before early = absurd (true≢false (sym early))
untold_after Opened told (SliceMsg slot message) before early = absurd (true≢false (sym early))
untold_after Opened told (SliceDown slot) before early = absurd (true≢false (sym early))
untold_after Gone told event before early = absurd (true≢false (sym early))

pub untold : (h : List Timed) → is_before (phase_of h) ≡ true → opening_of h ≡ None
untold [] early = refl
untold (timed ∷ h) early = untold_after (phase_of h) (opening_of h) timed.event (untold h) early

early_down : (policy : PolicyView) (slot : ℕ) (h : List Timed) → is_before (phase_of h) ≡ true → is_up (view_of policy slot h) ≡ false
early_down policy slot h early = ap (λ (side : SliceSide). is_up side.sight.view) (blind policy slot h (untold h early))

-- a phase is early, open, or over
down_in : (policy : PolicyView) (slot : ℕ) (h : List Timed) (phase : Phase) → phase_of h ≡ phase → is_slice_up policy slot h ≡ false
    → (is_up (view_of policy slot h) ≡ false) ⊎ (phase_of h ≡ Gone)
down_in policy slot h Fresh is down = inl (early_down policy slot h (ap is_before is))
down_in policy slot h Begun is down = inl (early_down policy slot h (ap is_before is))
down_in policy slot h Opened is down = inl (rw is at down)
down_in policy slot h Gone is down = inr is

-- ---- one event, and more

one_silent : (policy : PolicyView) (slot : ℕ) (h : List Timed) (timed : Timed) → is_up_of slot timed ≡ false
    → (is_up (view_of policy slot h) ≡ false) ⊎ (phase_of h ≡ Gone)
    → (sent_by policy slot h timed ≡ []) × (is_slice_up policy slot (timed ∷ h) ≡ false)
one_silent policy slot h timed still (inl down) =
    let side = side_of policy slot h in
    let view = view_of policy slot h in
    let items = items_of policy slot (switch_of h) (side_of policy slot h) timed in
    let none = none_or is_coming (is_slot policy slot) (phase_items policy slot (switch_of h) side timed (phase_of h)) (none_in policy slot (switch_of h) side timed (phase_of h) still) in
    let both = silent_items (settings_at policy slot (opening_of h)) view items down none in
    (both.0, and_right (is_open (phase_after (phase_of h) timed.event)) (is_up (with_items items view)) both.1)
one_silent policy slot h timed still (inr ended) =
    let items = items_of policy slot (switch_of h) (side_of policy slot h) timed in
    let none : items ≡ [] = ap (λ (phase : Phase). cond (is_slot policy slot) (phase_items policy slot (switch_of h) (side_of policy slot h) timed phase) []) ended ∙ either_none (is_slot policy slot) [] refl in (
      ap (λ (shown : List Item). sent_for (settings_at policy slot (opening_of h)) (view_of policy slot h) shown) none,
      ap (λ (phase : Phase). is_open (phase_after phase timed.event) && is_up (view_of policy slot (timed ∷ h))) ended,
    )

pub until_up : (policy : PolicyView) (slot : ℕ) (later h : List Timed) → IsSilentUntilUp policy slot later h
until_up policy slot [] h down none = record { silent = refl; still_down = down }
until_up policy slot (timed ∷ later) h down none =
    let before = until_up policy slot later h down ((or_parts (is_up_of slot timed) (list_any (is_up_of slot) later) none).1) in
    let now = one_silent policy slot (later ++ h) timed ((or_parts (is_up_of slot timed) (list_any (is_up_of slot) later) none).0)
    (down_in policy slot (later ++ h) (phase_of (later ++ h)) refl before.still_down) in
    record {
      silent = ap₂ (λ (a b : List (List ℕ)). a ++ b) before.silent now.0 ∙ append-nil (sent policy slot h);
      still_down = now.1;
    }

-- ---- a connection that ended

-- no packet came to it
none_came : (number : Option ℕ) (came : List ℕ) → came_with number [] came ≡ came
none_came None came = refl
none_came (Some number) came = refl

-- a slot that no slice has sees nothing
pub sees_nothing : (policy : PolicyView) (slot : ℕ) (h : List Timed) → is_slot policy slot ≡ false → (side_of policy slot h).sight ≡ side_start.sight
sees_nothing policy slot [] out = refl
sees_nothing policy slot (timed ∷ h) out =
    let before = sees_nothing policy slot h out in
    rw out (λ i. record { view = (before i).view; came = (none_came (number_told (phase_of h) timed.event) (side_of policy slot h).sight.came ∙ ap (λ sight. sight.came) before) i })

down_in_view : (policy : PolicyView) (slot moment : ℕ) (switch : KnownSwitch) (side : SliceSide) (here : Bool) → (here ≡ false → side.sight.view ≡ [])
    → is_up (with_items (cond here (event_items policy slot switch side moment (SliceDown slot)) []) side.sight.view) ≡ false
down_in_view policy slot moment switch side true out = rw (eq-eqb slot slot refl) refl
down_in_view policy slot moment switch side false out = ap is_up (out refl)

down_at : (policy : PolicyView) (slot moment : ℕ) (h : List Timed) (phase : Phase) → phase_of h ≡ phase → IsDownAfterDown policy slot moment h
down_at policy slot moment h Fresh is = rw is refl
down_at policy slot moment h Begun is = rw is refl
down_at policy slot moment h Gone is = rw is refl
down_at policy slot moment h Opened is =
    rw is (down_in_view policy slot moment (switch_of h) (side_of policy slot h) (is_slot policy slot) (λ out. ap (λ sight. sight.view) (sees_nothing policy slot h out)))

pub after_down : (policy : PolicyView) (slot moment : ℕ) (h : List Timed) → IsDownAfterDown policy slot moment h
after_down policy slot moment h = down_at policy slot moment h (phase_of h) refl
