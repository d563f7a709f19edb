-- What is kept of a session, with one event more.
use Rattle.std.proofs.Common.{◌≡◌, ℕ, ◌+◌, ◌≤◌, ◌==◌, Bool, if◌then◌else◌, List, ◌∷◌, length, find, Option, Some, None, option_map, option_and_then, IfSome, Result, Ok, Err, refl, sym, ap, subst, ◌∙◌, inl, inr}
use Rattle.std.specs.Ordering.{nat_cmp}
use Rattle.std.specs.Cmp.{unsigned_tied}
use Rattle.std.specs.BTreeMap.{get, is_at}
use Rattle.std.proofs.lemmas.Bool.{cases_Bool}
use Rattle.of10_model.specs.Header.{Header}
use Rattle.of10_model.specs.Normal.{is_value}
use Rattle.of10_model.proofs.Results.{either}
use Rattle.of10_flow.specs.declared.packet_in.PacketIn.{PacketIn}
use Rattle.of10_port.specs.declared.features.Features.{Features as Told}
use Rattle.of10_ctl.specs.Frames.{IsFrame}
use Rattle.of10_message.specs.declared.fault.Unread.{Unread}
use Rattle.of10_message.specs.declared.fault.Unread.TheVariants.{BadLength, NoCommonVersion, BadVersion, BadType, BadForm}
use Rattle.of10_message.specs.Switch as says
use Rattle.of10_message.specs.Switch.{SwitchMessage, read_switch, has_bad_length}
use Rattle.desk_words.specs.declared.event.Event.TheVariants.{SwitchMsg, SwitchDown}
use Rattle.desk_words.specs.declared.event.Timed.{Timed}
use Rattle.desk_words.specs.declared.phase.Phase.{Phase}
use Rattle.desk_words.specs.declared.phase.Phase.TheVariants.{Fresh, Begun, Opened, Gone}
use Rattle.desk_words.specs.Openings.{features_said, phase_of, phase_after, opening_of, opening_after}
use Rattle.desk_words.specs.Histories.{header_in, number_given, packet_said, packet_handed}
use Rattle.desk_words.specs.Arrivals.{Arrival, arrivals, buffer_header}
use Rattle.desk_words.specs.Recorded.{timed_at}
use Rattle.trace_audit.specs.declared.heard.Heard.{Heard}
use Rattle.trace_audit.specs.declared.heard.Heard.TheVariants.{Ended, Features, Packet, Other}
use Rattle.trace_audit.specs.declared.session.Session.{Session}
use Rattle.trace_audit.specs.Standing.{heard_in, bytes_at, header_at, IsFrameAt, SessionStands, phase_heard, datapath_heard, place_heard, HasNoted}

abbrev datapath_of : Option Told → Option ℕ
datapath_of told = option_map (λ features. features.datapath) told

-- ---- how far the connection is, and what the switch said

-- what counts of a message changes what the message does
record IsAsHeard (r : Result SwitchMessage Unread) : Type 0 where
  begun : phase_heard Begun (heard_in r) ≡ (if has_bad_length r then Gone else elim (features_said r) [ None ↦ Begun | Some features ↦ Opened ])
  opened : phase_heard Opened (heard_in r) ≡ (if has_bad_length r then Gone else Opened)
  first : datapath_heard Begun (heard_in r) None ≡ datapath_of (features_said r)
  again : (d : ℕ) → datapath_heard Begun (heard_in r) (Some d) ≡ Some d

as_heard : (r : Result SwitchMessage Unread) → IsAsHeard r
as_heard (Err BadLength) = record { begun = refl; opened = refl; first = refl; again = λ d. refl }
as_heard (Err NoCommonVersion) = record { begun = refl; opened = refl; first = refl; again = λ d. refl }
as_heard (Err BadVersion) = record { begun = refl; opened = refl; first = refl; again = λ d. refl }
as_heard (Err BadType) = record { begun = refl; opened = refl; first = refl; again = λ d. refl }
as_heard (Err (BadForm fault)) = record { begun = refl; opened = refl; first = refl; again = λ d. refl }
as_heard (Ok says.Hello) = record { begun = refl; opened = refl; first = refl; again = λ d. refl }
as_heard (Ok (says.Error error)) = record { begun = refl; opened = refl; first = refl; again = λ d. refl }
as_heard (Ok (says.EchoRequest body)) = record { begun = refl; opened = refl; first = refl; again = λ d. refl }
as_heard (Ok says.EchoReply) = record { begun = refl; opened = refl; first = refl; again = λ d. refl }
as_heard (Ok says.Vendor) = record { begun = refl; opened = refl; first = refl; again = λ d. refl }
as_heard (Ok (says.FeaturesReply features)) = record { begun = refl; opened = refl; first = refl; again = λ d. refl }
as_heard (Ok (says.GetConfigReply config)) = record { begun = refl; opened = refl; first = refl; again = λ d. refl }
as_heard (Ok (says.PacketIn packet)) = record { begun = refl; opened = refl; first = refl; again = λ d. refl }
as_heard (Ok (says.FlowRemoved entry)) = record { begun = refl; opened = refl; first = refl; again = λ d. refl }
as_heard (Ok (says.PortStatus status)) = record { begun = refl; opened = refl; first = refl; again = λ d. refl }
as_heard (Ok (says.StatsReply part body)) = record { begun = refl; opened = refl; first = refl; again = λ d. refl }
as_heard (Ok says.BarrierReply) = record { begun = refl; opened = refl; first = refl; again = λ d. refl }
as_heard (Ok (says.QueueGetConfigReply queues)) = record { begun = refl; opened = refl; first = refl; again = λ d. refl }

phase_step : (p : Phase) (m : List ℕ) → phase_heard p (heard_in (read_switch m)) ≡ phase_after p (SwitchMsg m)
phase_step Fresh m = refl
phase_step Begun m = (as_heard (read_switch m)).begun
phase_step Opened m = (as_heard (read_switch m)).opened
phase_step Gone m = refl

datapath_step : (p : Phase) (told : Option Told) (m : List ℕ) → datapath_heard p (heard_in (read_switch m)) (datapath_of told) ≡ datapath_of (opening_after p told (SwitchMsg m))
datapath_step Fresh None m = refl
datapath_step Fresh (Some features) m = refl
datapath_step Begun None m = (as_heard (read_switch m)).first
datapath_step Begun (Some features) m = (as_heard (read_switch m)).again features.datapath
datapath_step Opened None m = refl
datapath_step Opened (Some features) m = refl
datapath_step Gone None m = refl
datapath_step Gone (Some features) m = refl

-- ---- the packets that the switch keeps

module _ (file : List ℕ) (at number : ℕ) (h : List Timed) (timed : Timed) (known : Option ℕ) (so : option_and_then (header_at file) known ≡ buffer_header h number) where
  abbrev is_under : Arrival → Bool
  is_under arrival = is_value number (number_given arrival.packet)

  abbrev header_of : Arrival → Header
  header_of arrival = header_in arrival.packet

  abbrev arrival_of : PacketIn → Arrival
  arrival_of packet = record { before = h; timed = timed; packet = packet }

  abbrev with_packet : Option PacketIn → List Arrival
  with_packet packet = elim packet [ None ↦ arrivals h | Some own ↦ arrival_of own ∷ arrivals h ]

  abbrev IsKept : Option ℕ → Option PacketIn → Type 0
  IsKept place packet = option_and_then (header_at file) place ≡ option_map header_of (find is_under (with_packet packet))

  numbered : (packet : PacketIn) (given : Option ℕ) → header_at file at ≡ Some (header_in packet)
      → option_and_then (header_at file) (place_heard at Opened (Packet given) number known) ≡ option_map header_of (if is_value number given then Some (arrival_of packet) else find is_under (arrivals h))
  numbered packet None here = so
  numbered packet (Some own) here =
      let tied : is_at (nat_cmp own) number ≡ (own == number) = unsigned_tied own number in
      elim (cases_Bool (own == number)) [
        | inl is ↦ rw (tied, is) here
        | inr isnt ↦ rw (tied, isnt) so
      ]

  pub place_step : (r : Result SwitchMessage Unread) → header_at file at ≡ option_map header_in (packet_said r) → IsKept (place_heard at Opened (heard_in r) number known) (packet_said r)
  place_step (Err BadLength) here = so
  place_step (Err NoCommonVersion) here = so
  place_step (Err BadVersion) here = so
  place_step (Err BadType) here = so
  place_step (Err (BadForm fault)) here = so
  place_step (Ok says.Hello) here = so
  place_step (Ok (says.Error error)) here = so
  place_step (Ok (says.EchoRequest body)) here = so
  place_step (Ok says.EchoReply) here = so
  place_step (Ok says.Vendor) here = so
  place_step (Ok (says.FeaturesReply features)) here = so
  place_step (Ok (says.GetConfigReply config)) here = so
  place_step (Ok (says.PacketIn packet)) here = numbered packet (number_given packet) here
  place_step (Ok (says.FlowRemoved entry)) here = so
  place_step (Ok (says.PortStatus status)) here = so
  place_step (Ok (says.StatsReply part body)) here = so
  place_step (Ok says.BarrierReply) here = so
  place_step (Ok (says.QueueGetConfigReply queues)) here = so

-- the header under a number after an event that hands up a packet, if it does
abbrev under_by : List Timed → Timed → ℕ → Option PacketIn → Option Header
under_by h timed number handed =
    option_map (λ (arrival : Arrival). header_in arrival.packet) (find (λ arrival. is_value number (number_given arrival.packet))
    (elim handed [ None ↦ arrivals h | Some packet ↦ record { before = h; timed = timed; packet = packet } ∷ arrivals h ]))

abbrev under_with : Phase → List Timed → Timed → ℕ → Option Header
under_with p h timed number = under_by h timed number (packet_handed p timed.event)

packets_step : (p : Phase) (file : List ℕ) (at number moment : ℕ) (h : List Timed) (m : List ℕ) (known : Option ℕ) → option_and_then (header_at file) known ≡ buffer_header h number
    → header_at file at ≡ option_map header_in (packet_said (read_switch m)) → option_and_then (header_at file) (place_heard at p (heard_in (read_switch m)) number known) ≡ under_with p h (timed_at moment (SwitchMsg m)) number
packets_step Fresh file at number moment h m known so here = so
packets_step Begun file at number moment h m known so here = so
packets_step Opened file at number moment h m known so here = place_step file at number h (timed_at moment (SwitchMsg m)) known so (read_switch m) here
packets_step Gone file at number moment h m known so here = so

places_step : (F : ℕ → Type 0) (at number : ℕ) (p : Phase) (heard : Heard) (known : Option ℕ) → F at → IfSome known F → IfSome (place_heard at p heard number known) F
places_step F at number Fresh heard known here so = so
places_step F at number Begun heard known here so = so
places_step F at number Gone heard known here so = so
places_step F at number Opened Ended known here so = so
places_step F at number Opened (Features datapath) known here so = so
places_step F at number Opened Other known here so = so
places_step F at number Opened (Packet None) known here so = so
places_step F at number Opened (Packet (Some own)) known here so = either (λ (place : Option ℕ). IfSome place F) (is_at (nat_cmp own) number) (Some at) known here so

-- ---- all of a session

pub heard_on : (file : List ℕ) (h : List Timed) (at moment : ℕ) (m : List ℕ) (s t : Session) → bytes_at file at ≡ m → at + 16 ≤ length file → IsFrame m → HasNoted at (heard_in (read_switch m)) s t → SessionStands file h s
    → SessionStands file (timed_at moment (SwitchMsg m) ∷ h) t
heard_on file h at moment m s t here within frame noted stands =
    let heard = heard_in (read_switch m) in
    let header : header_at file at ≡ option_map header_in (packet_said (read_switch m)) = ap (λ (bytes : List ℕ). option_map header_in (packet_said (read_switch bytes))) here in
    record {
      phase = noted.phase ∙ ap (λ (p : Phase). phase_heard p heard) stands.phase ∙ phase_step (phase_of h) m;
      datapath =
          noted.datapath
          ∙ ap (λ (p : Phase). datapath_heard p heard s.datapath) stands.phase
          ∙ ap (datapath_heard (phase_of h) heard) stands.datapath
          ∙ datapath_step (phase_of h) (opening_of h) m;
      packets = λ number.
          ap (option_and_then (header_at file)) (noted.packets number ∙ ap (λ (p : Phase). place_heard at p heard number (get nat_cmp s.packets number)) stands.phase)
          ∙ packets_step (phase_of h) file at number moment h m (get nat_cmp s.packets number) (stands.packets number) header;
      places = λ number.
          subst (λ (place : Option ℕ). IfSome place (IsFrameAt file)) (sym (noted.packets number))
          (places_step (IsFrameAt file) at number s.phase heard (get nat_cmp s.packets number) (within, subst IsFrame (sym here) frame) (stands.places number));
    }

-- ---- the end of a connection

opening_down : (p : Phase) (told : Option Told) → opening_after p told SwitchDown ≡ told
opening_down Fresh None = refl
opening_down Begun None = refl
opening_down Opened None = refl
opening_down Gone None = refl
opening_down Fresh (Some features) = refl
opening_down Begun (Some features) = refl
opening_down Opened (Some features) = refl
opening_down Gone (Some features) = refl

handed_down : (p : Phase) → packet_handed p SwitchDown ≡ None
handed_down Fresh = refl
handed_down Begun = refl
handed_down Opened = refl
handed_down Gone = refl

under_down : (h : List Timed) (moment number : ℕ) → buffer_header (timed_at moment SwitchDown ∷ h) number ≡ buffer_header h number
under_down h moment number = ap (under_by h (timed_at moment SwitchDown) number) (handed_down (phase_of h))

pub ended_on : (file : List ℕ) (h : List Timed) (moment : ℕ) (s t : Session) → t.phase ≡ phase_after s.phase SwitchDown → t.datapath ≡ s.datapath → t.packets ≡ s.packets → SessionStands file h s → SessionStands file (timed_at moment SwitchDown ∷ h) t
ended_on file h moment s t phase datapath packets stands = record {
  phase = phase ∙ ap (λ (p : Phase). phase_after p SwitchDown) stands.phase;
  datapath = datapath ∙ stands.datapath ∙ ap datapath_of (sym (opening_down (phase_of h) (opening_of h)));
  packets = λ number. rw packets (stands.packets number ∙ sym (under_down h moment number));
  places = λ number. rw packets (stands.places number);
}
