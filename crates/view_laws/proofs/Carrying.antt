-- All that a message has sent to the switch is under one transaction id, and what is remembered of it begins as it does.
use Rattle.std.proofs.Common.{◌≡◌, ℕ, ◌<◌, ◌+◌, ◌*◌, ◌%◌, ◌^◌, Bool, true, false, if◌then◌else◌, List, [], ◌∷◌, ◌++◌, zero, suc, length, take, min, All, refl, sym, ap, subst, arith, Option, Some, None}
use Rattle.std.proofs.lemmas.List.Elements.{All-nil, All-cons, All-head, All-tail}
use Rattle.byteorder.specs.Endian.{big_bytes}
use Rattle.byteorder.specs.Numbers.{big_number-reads_back}
use Rattle.of10_action.specs.declared.action.Action.{Action}
use Rattle.of10_action.specs.Actions.{padding}
use Rattle.of10_action.specs.Reading.{list_given}
use Rattle.of10_model.specs.declared.pattern.Pattern.{Pattern}
use Rattle.of10_ctl.specs.declared.kind.TheConstants.{STATS_REQUEST, BARRIER_REQUEST, QUEUE_GET_CONFIG_REQUEST}
use Rattle.of10_ctl.specs.Frames.{message_of}
use Rattle.of10_message.specs.Heads.{xid_of}
use Rattle.of10_message.specs.Queues.{question_bytes}
use Rattle.of10_stats.specs.Requests.{statistics_kind, request_body, spell_request}
use Rattle.of10_flow.specs.declared.flow_mod.FlowMod.{FlowMod}
use Rattle.of10_flow.specs.declared.packet_out.PacketOut.{PacketOut}
use Rattle.flowmod_expand.specs.Messages.{piece_message, piece_messages, buffer_at}
use Rattle.xid_map.specs.Requests.{physical_of, issued}
use Rattle.slice_words.specs.Items.{Settings, Item, Opened, Up, Down, Msg, Lost, Handed, Removed, Status, Fault, Barrier, Queues, Entry, Last, End, is_up}
use Rattle.slice_words.specs.Pasts.{Inquiry, ForStatistics, ForBarrier, ForQueues, Answer, Past, Outgoing, Modifies, SendsOut, Asks, no_answer}
use Rattle.slice_words.specs.Buffers.{HeldPacket}
use Rattle.slice_words.specs.FlowMods.{Ground, ground_of, packet_at, named_packet, naming, carrier_of, flow_mods_on, pieces_on, lists_on, sent_on}
use Rattle.slice_words.specs.PacketOuts.{permitted_out, sent_out_with, packet_out_on, sent_out}
use Rattle.slice_words.specs.Questions.{asking}
use Rattle.slice_words.specs.Answers.{message_answer}
use Rattle.slice_words.specs.Alone.{answer_to, spell_inquiry}
use Rattle.slice_words.specs.Standing.{past_of}
use Rattle.slice_words.proofs.AnswerKinds.{message_holds}
use Rattle.view_laws.specs.Requests.{IsUnder, next_number}
use Rattle.view_laws.proofs.Requesting.{requests_after, issued-requests, others_put_nothing}

-- ---- transaction ids

for_under : (m : FlowMod) (xid : ℕ) (piece : Pattern) (actions : List Action) (buffer : ℕ) → (piece_message m xid piece actions buffer).xid ≡ xid
unfolding piece_message
for_under m xid piece actions buffer = refl

each_under : (place : ℕ) (m : FlowMod) (xid : ℕ) (pieces : List Pattern) (lists : List (List Action)) (buffer : Option (ℕ × ℕ)) → All (λ (sent : FlowMod). sent.xid ≡ xid) (piece_messages place m xid pieces lists buffer)
each_under place m xid [] lists buffer = All-nil (λ (sent : FlowMod). sent.xid ≡ xid)
each_under place m xid (piece ∷ pieces) [] buffer = All-nil (λ (sent : FlowMod). sent.xid ≡ xid)
each_under place m xid (piece ∷ pieces) (actions ∷ lists) buffer =
    All-cons (λ (sent : FlowMod). sent.xid ≡ xid) (piece_message m xid piece actions (buffer_at buffer place)) (piece_messages (place + 1) m xid pieces lists buffer)
    (for_under m xid piece actions (buffer_at buffer place)) (each_under (place + 1) m xid pieces lists buffer)

-- whichever of them names a packet
naming_under : (xid : ℕ) (carrier : Option (ℕ × ℕ)) (place : ℕ) (ms : List FlowMod) → All (λ (sent : FlowMod). sent.xid ≡ xid) ms → All (IsUnder xid) (naming carrier place ms)
naming_under xid carrier place [] each = All-nil (IsUnder xid)
naming_under xid carrier place (m ∷ others) each =
    All-cons (IsUnder xid) (Modifies m _) (naming carrier (place + 1) others) (All-head (λ (sent : FlowMod). sent.xid ≡ xid) m others each)
    (naming_under xid carrier (place + 1) others (All-tail (λ (sent : FlowMod). sent.xid ≡ xid) m others each))

on_under : (g : Ground) (m : FlowMod) → All (IsUnder g.xid) (sent_on g m)
on_under g m = naming_under g.xid (carrier_of (named_packet g m) (pieces_on g m)) 0 (flow_mods_on g m) (each_under 0 m g.xid (pieces_on g m) (lists_on g m) None)

out_with_under : (packet : Option HeldPacket) (g : Ground) (m : PacketOut) (actions : List Action) → (sent_out_with packet g m actions).xid ≡ g.xid
out_with_under None g m actions = refl
out_with_under (Some packet) g m actions = refl

out_under : (g : Ground) (m : PacketOut) → All (IsUnder g.xid) (sent_out g m)
out_under g m = All-cons (IsUnder g.xid) (SendsOut (packet_out_on g m) _) [] (out_with_under (packet_at g m.buffer) g m (list_given (permitted_out g m))) (All-nil (IsUnder g.xid))

asking_under : (g : Ground) (question : Inquiry) → All (IsUnder g.xid) (asking g question).to_switch
asking_under g question = All-cons (IsUnder g.xid) (Asks question g.xid) [] refl (All-nil (IsUnder g.xid))

message_under : (s : Settings) (view : List Item) (past : List Past) (moment : ℕ) (message : List ℕ) → All (IsUnder (ground_of s view past).xid) (message_answer s view past moment message).to_switch
message_under s view past moment message =
    let none = All-nil (IsUnder (ground_of s view past).xid) in
    message_holds (λ (ends_ : Bool) (a : Answer). All (IsUnder (ground_of s view past).xid) a.to_switch) s view past moment message (record {
      bad = none;
      old = none;
      nothing = none;
      refuses = λ fault. none;
      echoes = λ body read. none;
      tells_features = λ features. none;
      tells_configuration = none;
      forwards = λ m read fault. on_under (ground_of s view past) m;
      sends_out = λ m read fault. out_under (ground_of s view past) m;
      tells_table = none;
      asks_statistics = λ request asked read may is. asking_under (ground_of s view past) (ForStatistics asked);
      asks_barrier = λ read. asking_under (ground_of s view past) ForBarrier;
      asks_queues = λ queues read own. asking_under (ground_of s view past) (ForQueues queues);
    })

while_up : (up : Bool) (xid : ℕ) (a : Answer) → All (IsUnder xid) a.to_switch → All (IsUnder xid) (if up then a else no_answer).to_switch
while_up true xid a under = under
while_up false xid a under = All-nil (IsUnder xid)

nothing_under : (xid : ℕ) (sent : List Outgoing) → sent ≡ [] → All (IsUnder xid) sent
nothing_under xid sent nothing = subst (All (IsUnder xid)) (sym nothing) (All-nil (IsUnder xid))

by_item : (s : Settings) (view : List Item) (item : Item) → All (IsUnder (physical_of s.slot (issued (requests_after s view)))) (answer_to s view item).to_switch
by_item s view (Msg message moment) =
    while_up (is_up view) (physical_of s.slot (issued (requests_after s view))) (message_answer s view (past_of s view) moment message) (message_under s view (past_of s view) moment message)
by_item s view Up = nothing_under _ _ (others_put_nothing s view Up (λ message moment e. cc))
by_item s view Down = nothing_under _ _ (others_put_nothing s view Down (λ message moment e. cc))
by_item s view (Opened features) = nothing_under _ _ (others_put_nothing s view (Opened features) (λ message moment e. cc))
by_item s view (Lost k) = nothing_under _ _ (others_put_nothing s view (Lost k) (λ message moment e. cc))
by_item s view (Handed packet) = nothing_under _ _ (others_put_nothing s view (Handed packet) (λ message moment e. cc))
by_item s view (Removed entry) = nothing_under _ _ (others_put_nothing s view (Removed entry) (λ message moment e. cc))
by_item s view (Status status) = nothing_under _ _ (others_put_nothing s view (Status status) (λ message moment e. cc))
by_item s view (Fault x class code pair) = nothing_under _ _ (others_put_nothing s view (Fault x class code pair) (λ message moment e. cc))
by_item s view (Barrier x) = nothing_under _ _ (others_put_nothing s view (Barrier x) (λ message moment e. cc))
by_item s view (Queues x body) = nothing_under _ _ (others_put_nothing s view (Queues x body) (λ message moment e. cc))
by_item s view (Entry x kind bytes) = nothing_under _ _ (others_put_nothing s view (Entry x kind bytes) (λ message moment e. cc))
by_item s view (Last x kind) = nothing_under _ _ (others_put_nothing s view (Last x kind) (λ message moment e. cc))
by_item s view End = nothing_under _ _ (others_put_nothing s view End (λ message moment e. cc))

pub sent_under : (s : Settings) (view : List Item) (item : Item) → All (IsUnder (s.slot * 16777216 + next_number s view % 16777216)) (answer_to s view item).to_switch
sent_under s view item = subst (λ (n : ℕ). All (IsUnder (s.slot * 16777216 + n % 16777216)) (answer_to s view item).to_switch) (issued-requests s view) (by_item s view item)

-- the bytes of an inquiry bear its transaction id
bears : (kind xid : ℕ) (body : List ℕ) → xid < 2 ^ 32 → xid_of (message_of kind xid body) ≡ xid
bears kind xid body below = big_number-reads_back 4 xid body below

pub inquiry_bears : (inquiry : Inquiry) (xid : ℕ) → xid < 2 ^ 32 → xid_of (spell_inquiry inquiry xid) ≡ xid
unfolding spell_request
inquiry_bears (ForStatistics request) xid below = bears STATS_REQUEST xid (big_bytes 2 (statistics_kind request) ++ big_bytes 2 0 ++ request_body request) below
inquiry_bears ForBarrier xid below = bears BARRIER_REQUEST xid [] below
inquiry_bears (ForQueues queues) xid below = bears QUEUE_GET_CONFIG_REQUEST xid (question_bytes queues) below

-- ---- the first bytes

-- the front of the front of longer bytes is the front of these
front : (n : ℕ) (bytes behind : List ℕ) → take (min (length bytes) n) (take n (bytes ++ behind)) ≡ take n bytes
front zero bytes behind = (let none : min (length bytes) zero ≡ zero = omega arith in rw none refl)
front (suc n) [] behind = (let none : min zero (suc n) ≡ zero = omega arith in rw none refl)
front (suc n) (byte ∷ bytes) behind =
    let shorter : min (suc (length bytes)) (suc n) ≡ suc (min (length bytes) n) = omega arith in
    rw shorter (ap (λ (rest : List ℕ). byte ∷ rest) (front n bytes behind))

pub first_bytes : (message : List ℕ) → take (min (length message) 64) (take 64 (message ++ padding 64)) ≡ take 64 message
first_bytes message = front 64 message (padding 64)
