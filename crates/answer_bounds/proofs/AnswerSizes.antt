-- What is answered to an item is at most one message, unless it is the end of statistics, and what is put for the switch is small. A new kind of answer is a case more of `answer_size`.
use Rattle.std.proofs.Common.{◌≡◌, ℕ, ◌+◌, ◌-◌, ◌^◌, ◌%◌, ◌==◌, ◌&&◌, ◌≤◌, not, Bool, true, false, if◌then◌else◌, List, [], ◌∷◌, ◌++◌, map, length, take, filter, suc, append-nil, true≢false, refl, sym, ap, subst, Option, Some, None, Ok, option_map, arith}
use Rattle.std.specs.List.{All}
use Rattle.std.proofs.lemmas.Bool.{ltb-false}
use Rattle.std.proofs.lemmas.List.{length-take}
use Rattle.of10_ctl.specs.declared.kind.TheConstants.{HELLO, BARRIER_REQUEST, BARRIER_REPLY, QUEUE_GET_CONFIG_REQUEST, QUEUE_GET_CONFIG_REPLY}
use Rattle.of10_ctl.specs.Frames.{message_of, error_of, echo_reply_to}
use Rattle.of10_flow.specs.declared.protocol.TheConstants.{NO_BUFFER}
use Rattle.of10_flow.specs.declared.flow_mod.FlowMod.{FlowMod}
use Rattle.of10_flow.specs.declared.flow_removed.FlowRemoved.{FlowRemoved}
use Rattle.of10_flow.specs.declared.packet_out.PacketOut.{PacketOut}
use Rattle.of10_flow.specs.PacketOuts.{spell_packet_out}
use Rattle.of10_flow.specs.FlowMods.{spell_flow_mod}
use Rattle.of10_message.specs.declared.controller.FromController.TheVariants as said
use Rattle.of10_message.specs.Heads.{xid_of}
use Rattle.of10_message.specs.Controller.{read_controller}
use Rattle.of10_message.specs.declared.queues.QueuesQuestion.{QueuesQuestion}
use Rattle.of10_message.specs.Queues.{port_of_queues, question_bytes, spell_queues_request}
use Rattle.of10_message.proofs.ConfigReadAgain.{padding_read}
use Rattle.of10_message.proofs.ControllerCases.{queues_as_read, echo_as_read}
use Rattle.stats_filter.specs.Replies.{table_reply}
use Rattle.of10_port.specs.Ports.{IsPort}
use Rattle.of10_port.specs.Features.{spell_features}
use Rattle.of10_port.specs.PortStatus.{spell_port_status}
use Rattle.port_view.specs.SlicePorts.{features_with}
use Rattle.flowmod_expand.proofs.Walks.{sizes_within, together_within}
use Rattle.flow_book.specs.declared.booked.Booked.{Booked}
use Rattle.flow_book.specs.Books.{booking}
use Rattle.xid_map.specs.declared.asked.Issued.{Issued}
use Rattle.slice_words.specs.Messages.{quoted}
use Rattle.port_turns.proofs.ReadTurned.{turn_in_size}
use Rattle.slice_words.specs.Items.{Settings, message_turned, Share, Writer, Reader, Probe, Packet, Item, Opened, Up, Down, Msg, Lost, Handed, Removed, Status, Fault, Barrier, Queues, Entry, Last, End, is_up, miss_send_len, buffered_count, known_ports}
use Rattle.slice_words.specs.Pasts.{Inquiry, ForStatistics, ForBarrier, ForQueues, SendsOut, Answer, Past, no_answer, told, dismissal, forwarded}
use Rattle.slice_words.specs.Statistics.{is_barrier, asks_queues, barrier_told, queues_told}
use Rattle.slice_words.specs.Questions.{asking}
use Rattle.slice_words.specs.Calls.{request_calls, request_for, book_calls}
use Rattle.slice_words.specs.FlowMods.{Ground, ground_of, packet_at, sent_on, flow_mod_fault}
use Rattle.slice_words.specs.PacketOuts.{packet_out_on, packet_out_size, sent_out, packet_out_fault}
use Rattle.slice_words.specs.Answers.{error_for, refused, no_common_version, bad_request_length, config_told, packet_message, packet_told, message_answer, removal_told, error_told, answer}
use Rattle.slice_words.specs.Alone.{number_it_came_with, spell_inquiry, rendered, played, answer_to, shown_to, sent_for, put_for}
use Rattle.of10_model.proofs.Results.{either}
use Rattle.slice_words.proofs.AnswerKinds.{message_holds}
use Rattle.slice_words.proofs.Forwarding.{flow_mods_numbered, rendered_sent, not_large_numbered, out_not_large}
use Rattle.answer_bounds.specs.Bounds.{AreFew, AreSmall}
use Rattle.answer_bounds.proofs.Messages.{IsShort, few-shown, few-none, few-one, few-next, small-none, small-few, short-message, short-echo, short-request, short-table, short-config, short-error, short-features, short-status, short-packet, short-packet_out, short-removed}

-- ---- what bounds an answer

-- a view knows no more ports than fit a FEATURES_REPLY, each of 48 bytes
pub record HasFewPorts (view : List Item) : Type 0 where
  pub few : length (known_ports view) ≤ 1364
  pub whole : All IsPort (known_ports view)

-- what of an item after a view bounds the answer to it to one message. At the end of statistics there may be more
abbrev pub IsBounded : List Item → Item → Type 0
IsBounded view (Msg message moment) = IsShort message × HasFewPorts view
IsBounded view (Handed packet) = 18 + length packet.payload ≤ 65535
IsBounded view (Status status) = IsPort status.port
IsBounded view (Queues x body) = length body ≤ 65527
IsBounded view (Last x kind) = ⊥
IsBounded view item = Unit {0}

-- an answer is one message to the slice at most, and small for the switch
pub record IsSmall (a : Answer) : Type 0 where
  pub to_slice : AreFew 1 a.to_slice
  pub to_switch : (came : List ℕ) → AreSmall 262144 (map (rendered came) a.to_switch)

small_tells : (messages : List (List ℕ)) → AreFew 1 messages → IsSmall (told messages)
small_tells messages few = record { to_slice = few; to_switch = λ came. small-none 262144 }

small_silence : IsSmall no_answer
small_silence = small_tells [] (few-none 1)

small_told : (message : List ℕ) → IsShort message → IsSmall (told (message ∷ []))
small_told message short = small_tells (message ∷ []) (few-one message short)

small_dismissal : (message : List ℕ) → IsShort message → IsSmall (dismissal (message ∷ []))
small_dismissal message short = record { to_slice = few-one message short; to_switch = λ came. small-none 262144 }

small_refused : (fault : ℕ × ℕ) (message : List ℕ) → IsSmall (refused fault message)
small_refused fault message = small_told (error_for fault message) (short-error (xid_of message) fault.0 fault.1 message)

-- ---- flow-mods

small_forwarded : (g : Ground) (m : FlowMod) → flow_mod_fault g m ≡ None → IsSmall (forwarded (sent_on g m))
small_forwarded g m none = record {
  to_slice = few-none 1;
  to_switch = λ came.
      let messages = map spell_flow_mod (flow_mods_numbered came g m) in
      let fit = not_large_numbered came g m none in
      rw (rendered_sent came g m) (record { small = together_within messages fit; short = sizes_within messages fit });
}

-- ---- packet-outs

-- one message that fits is small
small_out : (came : List ℕ) (m : PacketOut) (packet : Option ℕ) → packet_out_size m ≤ 65535 → AreSmall 262144 (rendered came (SendsOut m packet) ∷ [])
small_out came m None fits = small-few 1 262144 (rendered came (SendsOut m None) ∷ []) (omega arith) (few-one (spell_packet_out m) (short-packet_out m fits))
small_out came m (Some k) fits =
    let sent : PacketOut = record m { buffer = number_it_came_with came k } in
    small-few 1 262144 (spell_packet_out sent ∷ []) (omega arith) (few-one (spell_packet_out sent) (short-packet_out sent fits))

small_sent_out : (g : Ground) (m : PacketOut) → packet_out_fault g m ≡ None → IsSmall (forwarded (sent_out g m))
small_sent_out g m none = record {
  to_slice = few-none 1;
  to_switch = λ came. small_out came (packet_out_on g m) (option_map (λ packet. packet.ordinal) (packet_at g m.buffer)) (ltb-false 65535 (packet_out_size (packet_out_on g m)) (out_not_large g m none));
}

-- ---- questions

small_asking : (g : Ground) (question : Inquiry) → IsShort (spell_inquiry question g.xid) → IsSmall (asking g question)
small_asking g question short =
    let message = spell_inquiry question g.xid in
    record { to_slice = few-none 1; to_switch = λ came. small-few 1 262144 (message ∷ []) (omega arith) (few-one message short) }

-- ---- messages of the controller

-- a question for queues has the port and two bytes of padding
short-queues : (xid : ℕ) (message : List ℕ) (queues : QueuesQuestion) → read_controller message ≡ Ok (said.QueueGetConfigRequest queues) → IsShort (spell_queues_request xid queues)
short-queues xid message queues read =
    let few = padding_read message queues (queues_as_read message queues read) in
    short-message QUEUE_GET_CONFIG_REQUEST xid (question_bytes queues) (omega (arith, few))

message_size : (s : Settings) (view : List Item) (past : List Past) (moment : ℕ) (message : List ℕ) → IsShort message → HasFewPorts view → IsSmall (message_answer s view past moment message)
message_size s view past moment message short ports =
    let turned = message_turned s message in
    let turned_short : IsShort turned = subst (λ (n : ℕ). n ≤ 65535) (sym (turn_in_size s.swaps message)) short in
    message_holds (λ (ends : Bool) (a : Answer). IsSmall a) s view past moment message (record {
      bad = small_dismissal (error_for bad_request_length message) (short-error (xid_of message) bad_request_length.0 bad_request_length.1 message);
      old = small_dismissal (error_of (xid_of message) no_common_version.0 no_common_version.1 []) (short-error (xid_of message) no_common_version.0 no_common_version.1 []);
      nothing = small_silence;
      refuses = λ fault. small_refused fault message;
      echoes = λ body read.
          let whole : IsShort (echo_reply_to (xid_of message) body) = subst (λ (b : List ℕ). IsShort (echo_reply_to (xid_of message) b)) (sym (echo_as_read turned body read)) (short-echo (xid_of message) turned turned_short) in
          small_told (echo_reply_to (xid_of message) body) whole;
      tells_features = λ features. small_told (spell_features (features_with features (known_ports view)) (xid_of message)) (short-features (features_with features (known_ports view)) (xid_of message) ports.whole ports.few);
      tells_configuration = small_told (config_told (miss_send_len view) message) (short-config (xid_of message) (miss_send_len view));
      forwards = λ m read none. small_forwarded (ground_of s view past) m none;
      sends_out = λ m read none. small_sent_out (ground_of s view past) m none;
      tells_table = small_told (table_reply (length (ground_of s view past).booked) s.quota (xid_of message)) (short-table (length (ground_of s view past).booked) s.quota (xid_of message));
      asks_statistics = λ request asked read may is. small_asking (ground_of s view past) (ForStatistics asked) (short-request asked (ground_of s view past).xid);
      asks_barrier = λ read. small_asking (ground_of s view past) ForBarrier (short-message BARRIER_REQUEST (ground_of s view past).xid [] (omega arith));
      asks_queues = λ queues read own. small_asking (ground_of s view past) (ForQueues queues) (short-queues (ground_of s view past).xid turned queues read);
    })

-- ---- packets

short-packet_message : (buffer total_len : ℕ) (payload : List ℕ) (packet : Packet) → 18 + length payload ≤ 65535 → IsShort (packet_message buffer total_len payload packet)
short-packet_message buffer total_len payload packet fits =
    short-packet (record { xid = 0; buffer = buffer; total_len = total_len; in_port = packet.in_port; reason = packet.reason; payload = payload }) fits

-- what is cut or whole fits where the whole does
cut_fits : (b : Bool) (n : ℕ) (payload : List ℕ) → 18 + length payload ≤ 65535 → 18 + length (if b then take n payload else payload) ≤ 65535
cut_fits true n payload fits =
    let cut = length-take n payload in
    omega arith
cut_fits false n payload fits = fits

packet_size : (view : List Item) (packet : Packet) (share : Share) → 18 + length packet.payload ≤ 65535 → IsShort (packet_told view packet share)
unfolding packet_told
packet_size view packet (Writer buffered) fits =
    either IsShort buffered _ _
    (short-packet_message (buffered_count view % 2 ^ 24) packet.total_len (if packet.reason == 0 then take (miss_send_len view) packet.payload else packet.payload) packet (cut_fits (packet.reason == 0) (miss_send_len view) packet.payload fits))
    (short-packet_message NO_BUFFER packet.total_len packet.payload packet fits)
packet_size view packet Reader fits = short-packet_message NO_BUFFER packet.total_len packet.payload packet fits
packet_size view packet Probe fits =
    short-packet_message NO_BUFFER (packet.total_len - 8) (take (length packet.payload - 8) packet.payload) packet (cut_fits true (length packet.payload - 8) packet.payload fits)

-- ---- entries and errors

few_removal : (booked : Option Booked) (entry : FlowRemoved) → AreFew 1 (removal_told booked entry)
few_removal None entry = few-none 1
few_removal (Some booked) entry = either (AreFew 1) booked.asked _ _ (few-one _ (short-removed (record entry { xid = 0 }))) (few-none 1)

few_error : (request : Option Issued) (class code : ℕ) → AreFew 1 (error_told request class code)
few_error None class code = few-none 1
few_error (Some request) class code = either (AreFew 1) request.failed _ _ (few-none 1) (few-one _ (short-error request.asked.xid class code (quoted request.asked)))

-- ---- replies

few_barrier : (request : Option Issued) → AreFew 1 (barrier_told request)
few_barrier None = few-none 1
few_barrier (Some request) =
    either (AreFew 1) (is_barrier request.asked.kind && not request.done) _ _ (few-one _ (short-message BARRIER_REPLY request.asked.xid [] (omega arith))) (few-none 1)

few_queues : (request : Option Issued) (body : List ℕ) → length body ≤ 65527 → AreFew 1 (queues_told request body)
few_queues None body fits = few-none 1
few_queues (Some request) body fits =
    either (AreFew 1) (asks_queues request.asked.kind && request.asked.port == port_of_queues body && not request.done) _ _
    (few-one _ (short-message QUEUE_GET_CONFIG_REPLY request.asked.xid body fits)) (few-none 1)

-- ---- all items

pub answer_size : (s : Settings) (view : List Item) (past : List Past) (item : Item) → IsBounded view item → IsSmall (answer s view past item)
answer_size s view past Up h = small_told (message_of HELLO 0 []) (short-message HELLO 0 [] (omega arith))
answer_size s view past (Msg message moment) h = either IsSmall (is_up view) _ _ (message_size s view past moment message h.0 h.1) small_silence
answer_size s view past (Handed packet) h = either IsSmall (is_up view) _ _ (small_told (packet_told view packet packet.share) (packet_size view packet packet.share h)) small_silence
answer_size s view past (Status status) h = either IsSmall (is_up view) _ _ (small_told (spell_port_status status 0) (short-status status 0 h)) small_silence
answer_size s view past (Opened features) h = either IsSmall (is_up view) _ _ small_silence small_silence
answer_size s view past Down h = either IsSmall (is_up view) _ _ small_silence small_silence
answer_size s view past (Lost k) h = either IsSmall (is_up view) _ _ small_silence small_silence
answer_size s view past (Removed entry) h =
    let booked = booking entry.pattern entry.priority (book_calls s past) in
    either IsSmall (is_up view) _ _ (small_tells (removal_told booked entry) (few_removal booked entry)) small_silence
answer_size s view past (Fault x class code pair) h =
    let request = request_for s x (request_calls s past) in
    either IsSmall (is_up view) _ _ (small_tells (error_told request class code) (few_error request class code)) small_silence
answer_size s view past (Barrier x) h =
    let request = request_for s x (request_calls s past) in
    either IsSmall (is_up view) _ _ (small_tells (barrier_told request) (few_barrier request)) small_silence
answer_size s view past (Queues x body) h =
    let request = request_for s x (request_calls s past) in
    either IsSmall (is_up view) _ _ (small_tells (queues_told request body) (few_queues request body h)) small_silence
answer_size s view past (Entry x kind bytes) h = either IsSmall (is_up view) _ _ small_silence small_silence
answer_size s view past (Last x kind) h = absurd h
answer_size s view past End h = either IsSmall (is_up view) _ _ small_silence small_silence

-- ---- items one after another

abbrev pub AreBounded : List Item → List Item → Type 0
AreBounded view [] = Unit {0}
AreBounded view (item ∷ items) = IsBounded view item × AreBounded (item ∷ view) items

-- of what is lost nothing is sent
abbrev pub speaks : Item → Bool
speaks (Lost k) = false
speaks item = true

-- how many of these items may have a message to the slice
abbrev pub speaking : List Item → ℕ
speaking items = length (filter speaks items)

lost_silent : (up : Bool) → (if up then no_answer else no_answer).to_slice ≡ []
lost_silent true = refl
lost_silent false = refl

few_or_none : (n : ℕ) (b : Bool) (some others : List (List ℕ)) → (b ≡ false → some ≡ []) → AreFew 1 some → AreFew n others → AreFew (if b then suc n else n) (some ++ others)
few_or_none n true some others none one few = few-next n some others one few
few_or_none n false some others none one few = rw (none refl) few

silent_lost : (s : Settings) (view : List Item) (item : Item) → speaks item ≡ false → (answer_to s view item).to_slice ≡ []
silent_lost s view (Lost k) is = lost_silent (is_up view)
silent_lost s view Up is = absurd (true≢false is)
silent_lost s view Down is = absurd (true≢false is)
silent_lost s view (Msg message moment) is = absurd (true≢false is)
silent_lost s view (Handed packet) is = absurd (true≢false is)
silent_lost s view (Opened features) is = absurd (true≢false is)
silent_lost s view (Removed entry) is = absurd (true≢false is)
silent_lost s view (Status status) is = absurd (true≢false is)
silent_lost s view (Fault x class code pair) is = absurd (true≢false is)
silent_lost s view (Barrier x) is = absurd (true≢false is)
silent_lost s view (Queues x body) is = absurd (true≢false is)
silent_lost s view (Entry x kind bytes) is = absurd (true≢false is)
silent_lost s view (Last x kind) is = absurd (true≢false is)
silent_lost s view End is = absurd (true≢false is)

count_if : (b : Bool) (item : Item) (items : List Item) → length (if b then item ∷ items else items) ≡ (if b then suc (length items) else length items)
count_if true item items = refl
count_if false item items = refl

pub sent_size : (s : Settings) (view items : List Item) → AreBounded view items → AreFew (speaking items) (sent_for s view items)
sent_size s view [] h = few-none 0
sent_size s view (item ∷ items) h =
    rw (count_if (speaks item) item (filter speaks items))
    (few_or_none (speaking items) (speaks item) (shown_to s (answer_to s view item).to_slice) (sent_for s (item ∷ view) items) (λ quiet. ap (shown_to s) (silent_lost s view item quiet))
    (few-shown s 1 (answer_to s view item).to_slice (answer_size s view (played (answer s) view) item h.0).to_slice) (sent_size s (item ∷ view) items h.1))

-- one item has little sent to the switch
pub put_size : (s : Settings) (view : List Item) (item : Item) (came : List ℕ) → IsBounded view item → AreSmall 262144 (map (rendered came) (put_for s view (item ∷ [])))
put_size s view item came h = rw (append-nil (answer_to s view item).to_switch) ((answer_size s view (played (answer s) view) item h).to_switch came)
