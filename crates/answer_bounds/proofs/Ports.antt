-- The ports that a slice knows are no more than fit a FEATURES_REPLY, each of 48 bytes.
use Rattle.std.proofs.Common.{◌≡◌, ℕ, zero, suc, ◌/◌, ◌==◌, ◌≤◌, nat_lt, not, true, inl, inr, List, [], ◌∷◌, length, drop, refl, ap, sym, subst, eqb-true, Option, Some, None, IfSome, Result, Ok, IfOk, arith}
use Rattle.std.specs.Prelude.{fold}
use Rattle.std.specs.List.{All}
use Rattle.std.specs.Simd.{first_chunks}
use Rattle.std.proofs.lemmas.Bool.{cases_Bool}
use Rattle.std.proofs.lemmas.List.{length-drop}
use Rattle.std.proofs.lemmas.Option.{IfSome_then}
use Rattle.std.proofs.lemmas.List.Elements.{All-nil, All-cons, All-head, All-tail, All-append, All-filter}
use Rattle.std.proofs.lemmas.List.Filters.{length-filter_both}
use Rattle.of10_port.specs.declared.features.Features.{Features}
use Rattle.of10_port.specs.declared.status.PortStatus.{PortStatus}
use Rattle.of10_port.specs.Ports.{IsPort, port_number, ports_in}
use Rattle.of10_port.specs.Features.{has_whole_ports, read_features}
use Rattle.of10_port.specs.PortStatus.{read_port_status}
use Rattle.of10_port.proofs.Pieces.{IsPort-ports_in}
use Rattle.of10_message.specs.declared.fault.Unread.{Unread}
use Rattle.of10_message.specs.Switch as says
use Rattle.of10_message.specs.Switch.{SwitchMessage, read_switch}
use Rattle.of10_message.proofs.SwitchCases.{of_switch}
use Rattle.flowspace.specs.declared.rules.Rule.{Rule}
use Rattle.flowspace.specs.Owners.{is_in_port, has_port}
use Rattle.flowspace.specs.Policies.{PolicyView}
use Rattle.port_view.specs.KnownPorts.{is_of_number, ports_below, ports_above, with_port, without_port, with_told, first_known, changed_plainly, changed}
use Rattle.port_view.specs.SlicePorts.{ports_of_slice}
use Rattle.port_view.proofs.Knowing.{by_kept}
use Rattle.slice_words.specs.Items.{Item, own_rules, known_ports}
use Rattle.of10_model.proofs.Results.{either}
use Rattle.desk_words.specs.declared.event.Event.{Event}
use Rattle.desk_words.specs.declared.event.Event.TheVariants.{SwitchUp, SwitchMsg, SwitchDown, SliceUp, SliceMsg, SliceDown}
use Rattle.desk_words.specs.declared.event.Timed.{Timed}
use Rattle.desk_words.specs.declared.phase.Phase.{Phase}
use Rattle.desk_words.specs.declared.phase.Phase.TheVariants.{Fresh, Begun, Opened, Gone}
use Rattle.desk_words.specs.Openings.{features_said, status_said, features_told, status_told, phase_of, opening_after, opening_of, ports_after}
use Rattle.desk_words.specs.Histories.{is_slot, settings_at, SliceSide, view_of}
use Rattle.desk_words.specs.Laws.{HasSeen}
use Rattle.desk_words.proofs.Alone.{blind}
use Rattle.desk_words.proofs.Seen.{known_holds, seen, in_order}
use Rattle.answer_bounds.specs.Bounds.{IsFramed, AreFramed}
use Rattle.answer_bounds.proofs.AnswerSizes.{HasFewPorts}

-- ---- what messages say of ports

-- the ports of features have 48 bytes each
abbrev HasWhole : Features → Type 0
HasWhole features = All IsPort features.ports

-- they fit a FEATURES_REPLY
abbrev HasFew : Features → Type 0
HasFew features = length features.ports ≤ 1364

-- the port of a status has 48 bytes
abbrev pub IsWhole : PortStatus → Type 0
IsWhole status = IsPort status.port

read_whole : (message : List ℕ) → IfOk (read_features message) HasWhole
unfolding read_features
read_whole message = elim (cases_Bool (has_whole_ports message)) [
  | inl is ↦ rw is (IsPort-ports_in (drop 32 message))
  | inr isnt ↦ rw isnt tt
]

length-chunks : (k : ℕ) (bytes : List ℕ) → length (first_chunks 48 k bytes) ≡ k
length-chunks zero bytes = refl
length-chunks (suc k) bytes = ap suc (length-chunks k (drop 48 bytes))

length-ports_in : (bytes : List ℕ) → length (ports_in bytes) ≡ length bytes / 48
unfolding ports_in
length-ports_in bytes = length-chunks (length bytes / 48) bytes

few_in : (message : List ℕ) → length message ≤ 65535 → length (ports_in (drop 32 message)) ≤ 1364
few_in message short =
    let rest = length-drop 32 message in
    let count = length-ports_in (drop 32 message) in
    omega arith

read_few : (message : List ℕ) → length message ≤ 65535 → IfOk (read_features message) HasFew
unfolding read_features
read_few message short = elim (cases_Bool (has_whole_ports message)) [
  | inl is ↦ rw is (few_in message short)
  | inr isnt ↦ rw isnt tt
]

pub read_status : (message : List ℕ) → IfOk (read_port_status message) IsWhole
unfolding read_port_status
read_status message = elim (cases_Bool (length message == 64)) [
  | inl is ↦ (let long = eqb-true (length message) 64 is in let rest = length-drop 16 message in rw is (omega arith))
  | inr isnt ↦ rw isnt tt
]

-- a fact of a reading is one of what it gives
pub if_read : {A E : Type 0} (P : A → Type 0) (r : Result A E) (x : A) → r ≡ Ok x → IfOk r P → P x
if_read P r x is h = subst (λ found. IfOk found P) is h

-- the ports that a message reports have 48 bytes each
abbrev pub HasWholePorts : SwitchMessage → Type 0
HasWholePorts (says.FeaturesReply features) = HasWhole features
HasWholePorts (says.PortStatus status) = IsWhole status
HasWholePorts said = Unit {0}

pub said_whole : (message : List ℕ) → IfOk (read_switch message) HasWholePorts
said_whole message = of_switch (λ said. IfOk said HasWholePorts) message (record {
  unread = λ fault is. tt;
  hello = tt;
  error = λ error is. tt;
  echo_request = tt;
  echo_reply = tt;
  vendor = tt;
  features = λ features is. if_read HasWhole (read_features message) features is (read_whole message);
  config = λ config is. tt;
  packet = λ packet is. tt;
  removal = λ entry is. tt;
  status = λ status is. if_read IsWhole (read_port_status message) status is (read_status message);
  part = λ part is. tt;
  barrier = tt;
  queues = λ queues is. tt;
}) tt

told_whole : (said : Result SwitchMessage Unread) → IfOk said HasWholePorts → IfSome (features_said said) HasWhole
told_whole (Ok (says.FeaturesReply features)) whole = whole
told_whole said whole = tt

told_status : (said : Result SwitchMessage Unread) → IfOk said HasWholePorts → IfSome (status_said said) IsWhole
told_status (Ok (says.PortStatus status)) whole = whole
told_status said whole = tt

-- the ports of features fit a FEATURES_REPLY
abbrev HasFewPortsSaid : Result SwitchMessage Unread → Type 0
HasFewPortsSaid said = IfSome (features_said said) HasFew

told_few : (message : List ℕ) → length message ≤ 65535 → IfSome (features_told message) HasFew
told_few message short = of_switch HasFewPortsSaid message (record {
  unread = λ fault is. tt;
  hello = tt;
  error = λ error is. tt;
  echo_request = tt;
  echo_reply = tt;
  vendor = tt;
  features = λ features is. if_read HasFew (read_features message) features is (read_few message short);
  config = λ config is. tt;
  packet = λ packet is. tt;
  removal = λ entry is. tt;
  status = λ status is. tt;
  part = λ part is. tt;
  barrier = tt;
  queues = λ queues is. tt;
}) tt

-- ---- each known port has 48 bytes

whole_with : (port : List ℕ) (known : List (List ℕ)) → IsPort port → All IsPort known → All IsPort (with_port port known)
unfolding with_port
whole_with port known one all =
    All-append IsPort (ports_below (port_number port) known) (port ∷ ports_above (port_number port) known)
    (All-filter (λ other. nat_lt (port_number other) (port_number port)) IsPort known all)
    (All-cons IsPort port (ports_above (port_number port) known) one (All-filter (λ other. nat_lt (port_number port) (port_number other)) IsPort known all))

whole_without : (number : ℕ) (known : List (List ℕ)) → All IsPort known → All IsPort (without_port number known)
unfolding without_port
whole_without number known all = All-filter (λ port. not (is_of_number number port)) IsPort known all

whole_told : (known : List (List ℕ)) (port : List ℕ) → All IsPort known → IsPort port → All IsPort (with_told known port)
whole_told known port all one = either (All IsPort) (is_in_port (port_number port)) (with_port port known) known (whole_with port known one all) all

whole_fold : (ports known : List (List ℕ)) → All IsPort ports → All IsPort known → All IsPort (fold with_told known ports)
whole_fold [] known ports all = all
whole_fold (port ∷ later) known ports all =
    whole_fold later (with_told known port) (All-tail IsPort port later ports) (whole_told known port all (All-head IsPort port later ports))

whole_first : (ports : List (List ℕ)) → All IsPort ports → All IsPort (first_known ports)
unfolding first_known
whole_first ports all = whole_fold ports [] all (All-nil IsPort)

whole_plainly : (status : PortStatus) (known : List (List ℕ)) → IsWhole status → All IsPort known → All IsPort (changed_plainly status known)
unfolding changed_plainly
whole_plainly status known one all =
    either (All IsPort) (status.reason == 1) (without_port (port_number status.port) known) (with_port status.port known)
    (whole_without (port_number status.port) known all) (whole_with status.port known one all)

whole_changed : (status : PortStatus) (known : List (List ℕ)) → IsWhole status → All IsPort known → All IsPort (changed status known)
whole_changed status known one all = by_kept (All IsPort) status known (λ is. whole_plainly status known one all) (λ isnt. all)

whole_known : (h : List Timed) → All IsPort (ports_after h)
whole_known h = known_holds (All IsPort) (record {
  none = All-nil IsPort;
  first = λ message. IfSome_then (features_told message) (told_whole (read_switch message) (said_whole message)) (λ features has. whole_first features.ports has);
  still = λ message. IfSome_then (status_told message) (told_status (read_switch message) (said_whole message)) (λ status one known all. whole_changed status known one all);
}) h

-- ---- there are no more than fit a FEATURES_REPLY

few_after : (phase : Phase) (told : Option Features) (event : Event) → IfSome told HasFew → IsFramed event → IfSome (opening_after phase told event) HasFew
few_after phase (Some features) event has framed = has
few_after Fresh None event has framed = tt
few_after Opened None event has framed = tt
few_after Gone None event has framed = tt
few_after Begun None (SwitchMsg message) has framed = told_few message framed.small
few_after Begun None SwitchUp has framed = tt
few_after Begun None SwitchDown has framed = tt
few_after Begun None (SliceUp slot) has framed = tt
few_after Begun None (SliceMsg slot message) has framed = tt
few_after Begun None (SliceDown slot) has framed = tt

few_opening : (h : List Timed) → AreFramed h → IfSome (opening_of h) HasFew
few_opening [] framed = tt
few_opening (timed ∷ h) framed =
    few_after (phase_of h) (opening_of h) timed.event (few_opening h (All-tail (λ t. IsFramed t.event) timed h framed)) (All-head (λ t. IsFramed t.event) timed h framed)

few_known : (h : List Timed) → AreFramed h → length (ports_after h) ≤ 1364
few_known h framed = (in_order h).few (few_opening h framed)

-- ---- the slice's own of them

few_own : (rules : List Rule) (slot : ℕ) (known : List (List ℕ)) → length known ≤ 1364 → length (ports_of_slice rules slot known) ≤ 1364
few_own rules slot known few =
    let parts = length-filter_both (λ port. has_port rules slot (port_number port)) (λ port. not (has_port rules slot (port_number port))) (λ port. refl) known in
    omega arith

whole_own : (rules : List Rule) (slot : ℕ) (known : List (List ℕ)) → All IsPort known → All IsPort (ports_of_slice rules slot known)
whole_own rules slot known all = All-filter (λ port. has_port rules slot (port_number port)) IsPort known all

-- a view that knows the slice's own of these ports
few_view : (view : List Item) (rules : List Rule) (slot : ℕ) (known : List (List ℕ)) → known_ports view ≡ ports_of_slice rules slot known
    → length known ≤ 1364 → All IsPort known → HasFewPorts view
few_view view rules slot known is few all = record {
  few = rw is (few_own rules slot known few);
  whole = rw is (whole_own rules slot known all);
}

few_start : HasFewPorts []
few_start = record { few = omega arith; whole = All-nil IsPort }

few_by : (policy : PolicyView) (slot : ℕ) (h : List Timed) (told : Option Features) → opening_of h ≡ told → AreFramed h → is_slot policy slot ≡ true → HasFewPorts (view_of policy slot h)
few_by policy slot h None is framed here = subst (λ (side : SliceSide). HasFewPorts side.sight.view) (sym (blind policy slot h is)) few_start
few_by policy slot h (Some features) is framed here =
    let s = settings_at policy slot (Some features) in
    let has : HasSeen policy slot features (ports_after h) (view_of policy slot h) = seen policy slot h features is here in
    few_view (view_of policy slot h) (own_rules s) s.slot (ports_after h) has.ports_known (few_known h framed) (whole_known h)

pub few_ports : (policy : PolicyView) (slot : ℕ) (h : List Timed) → AreFramed h → is_slot policy slot ≡ true → HasFewPorts (view_of policy slot h)
few_ports policy slot h framed here = few_by policy slot h (opening_of h) refl framed here
