-- Few messages and small ones, and how long those are that this proxy makes.
use Rattle.std.proofs.Common.{◌≡◌, ℕ, suc, ◌+◌, ◌*◌, ◌≤◌, List, [], ◌∷◌, ◌++◌, map, length, take, drop, refl, sym, ap₂, subst, ◌∙◌, arith}
use Rattle.std.specs.List.{All}
use Rattle.std.proofs.lemmas.List.{length-append, length-take, length-drop, length-map}
use Rattle.std.proofs.lemmas.List.Elements.{All-nil, All-cons, All-head, All-tail, All-append}
use Rattle.std.proofs.lemmas.List.Sums.{sum_by-cons}
use Rattle.byteorder.specs.Endian.{big_bytes}
use Rattle.of10_model.specs.Spelling.{Spell}
use Rattle.of10_ctl.specs.declared.kind.TheConstants.{ECHO_REPLY, GET_CONFIG_REPLY}
use Rattle.of10_ctl.specs.Frames.{message_of, error_of, echo_reply_to}
use Rattle.of10_ctl.proofs.Reading.{length-message}
use Rattle.of10_flow.specs.declared.flow_removed.FlowRemoved.{FlowRemoved}
use Rattle.of10_flow.specs.FlowRemoveds.{spell_flow_removed}
use Rattle.of10_action.specs.Actions.{spelling}
use Rattle.of10_flow.specs.declared.packet_out.PacketOut.{PacketOut}
use Rattle.of10_flow.specs.PacketOuts.{spell_packet_out}
use Rattle.of10_flow.specs.declared.packet_in.PacketIn.{PacketIn}
use Rattle.of10_flow.specs.PacketIns.{spell_packet_in}
use Rattle.of10_stats.specs.declared.request.StatsRequest.{StatsRequest}
use Rattle.of10_stats.specs.declared.request.StatsRequest.TheVariants.{Desc, Flow, Aggregate, Table, Port, Queue}
use Rattle.of10_stats.specs.Requests.{spell_request}
use Rattle.stats_filter.specs.Replies.{sum_reply, table_reply}
use Rattle.of10_port.specs.declared.features.Features.{Features}
use Rattle.of10_port.specs.declared.status.PortStatus.{PortStatus}
use Rattle.of10_port.specs.Ports.{IsPort}
use Rattle.of10_port.specs.Features.{spell_features}
use Rattle.of10_port.specs.PortStatus.{spell_port_status}
use Rattle.of10_port.proofs.Pieces.{length-port_bytes}
use Rattle.of10_port.proofs.Again.{IsOf-features, IsOf-port_status}
use Rattle.outbox.specs.Queues.{size}
use Rattle.port_turns.specs.Sent.{turn_out}
use Rattle.port_turns.proofs.OutLengths.{out_length}
use Rattle.slice_words.specs.Items.{Settings}
use Rattle.slice_words.specs.Alone.{shown_to}
use Rattle.answer_bounds.specs.Bounds.{AreShort, AreFew, AreSmall}

-- ---- few messages

-- a message has no more bytes than a length field can say
abbrev pub IsShort : List ℕ → Type 0
IsShort message = length message ≤ 65535

pub few-none : (most : ℕ) → AreFew most []
few-none most = record { few = omega arith; short = All-nil IsShort }

pub few-one : (message : List ℕ) → IsShort message → AreFew 1 (message ∷ [])
few-one message short = record { few = omega arith; short = All-cons IsShort message [] short (All-nil IsShort) }

pub few-append : (m n : ℕ) (some others : List (List ℕ)) → AreFew m some → AreFew n others → AreFew (m + n) (some ++ others)
few-append m n some others a b =
    let whole = length-append some others in
    let front = a.few in
    let back = b.few in
    record { few = omega arith; short = All-append IsShort some others a.short b.short }

pub few-more : (m n : ℕ) (messages : List (List ℕ)) → m ≤ n → AreFew m messages → AreFew n messages
few-more m n messages more a =
    let few = a.few in
    record { few = omega arith; short = a.short }

-- one message at most in front of others
pub few-next : (n : ℕ) (some others : List (List ℕ)) → AreFew 1 some → AreFew n others → AreFew (suc n) (some ++ others)
few-next n some others a b = few-more (1 + n) (suc n) (some ++ others) (omega arith) (few-append 1 n some others a b)

pub size-short : (messages : List (List ℕ)) → All IsShort messages → size messages ≤ 65535 * length messages
size-short [] h = omega arith
size-short (message ∷ later) h =
    let all = sum_by-cons length message later in
    let one = All-head IsShort message later h in
    let rest = size-short later (All-tail IsShort message later h) in
    omega arith

-- ---- small messages

pub small-none : (most : ℕ) → AreSmall most []
small-none most = record { small = omega arith; short = All-nil IsShort }

-- few messages are small
pub small-few : (n most : ℕ) (messages : List (List ℕ)) → 65535 * n ≤ most → AreFew n messages → AreSmall most messages
small-few n most messages fits a =
    let few = a.few in
    let whole = size-short messages a.short in
    record { small = omega arith; short = a.short }

-- ---- how long messages are

pub short-message : (kind xid : ℕ) (body : List ℕ) → length body ≤ 65527 → IsShort (message_of kind xid body)
short-message kind xid body small = omega (arith, length-message kind xid body)

-- what has the body of another message is as long
pub short-behind : (kind xid : ℕ) (message : List ℕ) → IsShort message → IsShort (message_of kind xid (drop 8 message))
short-behind kind xid message short =
    let rest = length-drop 8 message in
    short-message kind xid (drop 8 message) (omega arith)

pub short-echo : (xid : ℕ) (message : List ℕ) → IsShort message → IsShort (echo_reply_to xid (drop 8 message))
short-echo xid message short = short-behind ECHO_REPLY xid message short

pub short-config : (xid wanted : ℕ) → IsShort (message_of GET_CONFIG_REPLY xid (big_bytes 2 0 ++ big_bytes 2 wanted))
short-config xid wanted = short-message GET_CONFIG_REPLY xid (big_bytes 2 0 ++ big_bytes 2 wanted) (omega arith)

pub short-request : (request : StatsRequest) (xid : ℕ) → IsShort (spell_request request xid)
unfolding spell_request Spell
short-request Desc xid = omega arith
short-request (Flow pattern table out_port) xid = omega arith
short-request (Aggregate pattern table out_port) xid = omega arith
short-request Table xid = omega arith
short-request (Port port) xid = omega arith
short-request (Queue port queue) xid = omega arith

pub short-sums : (packets bytes flows xid : ℕ) → IsShort (sum_reply packets bytes flows xid)
unfolding sum_reply
short-sums packets bytes flows xid = omega arith

pub short-table : (active quota xid : ℕ) → IsShort (table_reply active quota xid)
unfolding table_reply
short-table active quota xid = omega arith

pub short-removed : (entry : FlowRemoved) → IsShort (spell_flow_removed entry)
unfolding spell_flow_removed Spell
short-removed entry = omega arith

-- an error carries at most 64 bytes
pub short-error : (xid class code : ℕ) (cause : List ℕ) → IsShort (error_of xid class code cause)
short-error xid class code cause =
    let carried = length-take 64 cause in
    short-message 1 xid (big_bytes 2 class ++ (big_bytes 2 code ++ take 64 cause)) (omega arith)

pub short-features : (f : Features) (xid : ℕ) → All IsPort f.ports → length f.ports ≤ 1364 → IsShort (spell_features f xid)
short-features f xid ports few = (IsOf-features f xid (length-port_bytes f.ports ports) few).0.small

pub short-status : (status : PortStatus) (xid : ℕ) → IsPort status.port → IsShort (spell_port_status status xid)
short-status status xid whole = (IsOf-port_status status xid whole).0.small

pub short-packet_out : (m : PacketOut) → 16 + length (spelling m.actions) + length m.payload ≤ 65535 → IsShort (spell_packet_out m)
unfolding spell_packet_out
short-packet_out m fits =
    let whole = length-append (spelling m.actions) m.payload in
    omega (arith, whole, fits)

pub short-packet : (packet : PacketIn) → 18 + length packet.payload ≤ 65535 → IsShort (spell_packet_in packet)
unfolding spell_packet_in
short-packet packet fits = omega arith

-- ---- messages with the port numbers that a slice is shown

size_shown : (s : Settings) (messages : List (List ℕ)) → size (shown_to s messages) ≡ size messages
size_shown s [] = refl
size_shown s (message ∷ messages) =
    sum_by-cons length (turn_out s.swaps message) (shown_to s messages)
    ∙ ap₂ (λ (a b : ℕ). a + b) (out_length s.swaps message) (size_shown s messages)
    ∙ sym (sum_by-cons length message messages)

short_shown : (s : Settings) (messages : List (List ℕ)) → AreShort messages → AreShort (shown_to s messages)
short_shown s [] short = All-nil IsShort
short_shown s (message ∷ messages) short =
    All-cons IsShort (turn_out s.swaps message) (shown_to s messages) (subst (λ n. n ≤ 65535) (sym (out_length s.swaps message)) (All-head IsShort message messages short))
    (short_shown s messages (All-tail IsShort message messages short))

pub few-shown : (s : Settings) (most : ℕ) (messages : List (List ℕ)) → AreFew most messages → AreFew most (shown_to s messages)
few-shown s most messages are = record { few = subst (λ n. n ≤ most) (sym (length-map messages (turn_out s.swaps))) are.few; short = short_shown s messages are.short }

pub small-shown : (s : Settings) (most : ℕ) (messages : List (List ℕ)) → AreSmall most messages → AreSmall most (shown_to s messages)
small-shown s most messages are = record { small = subst (λ n. n ≤ most) (sym (size_shown s messages)) are.small; short = short_shown s messages are.short }
