-- What holds of each kind of answer to a message holds of the answer.
use Rattle.std.proofs.Common.{◌≡◌, refl, subst, ℕ, ◌==◌, Bool, true, false, if◌then◌else◌, List, [], ◌∷◌, length, Option, Some, None, Ok, Err}
use Rattle.of10_model.proofs.Results.{either}
use Rattle.of10_ctl.specs.Frames.{error_of, echo_reply_to}
use Rattle.of10_flow.specs.declared.flow_mod.FlowMod.{FlowMod}
use Rattle.of10_flow.specs.declared.packet_out.PacketOut.{PacketOut}
use Rattle.of10_stats.specs.declared.request.StatsRequest.{StatsRequest}
use Rattle.of10_port.specs.declared.features.Features.{Features}
use Rattle.of10_port.specs.Features.{spell_features}
use Rattle.of10_message.specs.declared.queues.QueuesQuestion.{QueuesQuestion}
use Rattle.of10_message.specs.declared.controller.FromController.{FromController}
use Rattle.of10_message.specs.declared.controller.FromController.TheVariants as said
use Rattle.of10_message.specs.declared.fault.Unread.TheVariants.{BadLength, NoCommonVersion, BadVersion, BadType, BadForm}
use Rattle.of10_message.specs.Heads.{xid_of}
use Rattle.port_view.specs.SlicePorts.{features_with}
use Rattle.stats_filter.specs.Asking.{asked_as}
use Rattle.stats_filter.specs.Replies.{table_reply}
use Rattle.slice_words.specs.Messages.{Reading, ends_connection, is_dismissing}
use Rattle.slice_words.specs.Items.{Settings, message_read, Item, miss_send_len, features_in, known_ports, is_own_port}
use Rattle.slice_words.specs.Pasts.{ForStatistics, Answer, Past, no_answer, told as answered, dismissal, forwarded}
use Rattle.slice_words.specs.FlowMods.{ground_of, flow_mod_fault, sent_on, not_permitted}
use Rattle.slice_words.specs.PacketOuts.{packet_out_fault, sent_out}
use Rattle.slice_words.specs.Questions.{may_ask, asking, statistics_asked, barrier_asked, queues_asked}
use Rattle.slice_words.specs.Answers.{error_for, refused, refusal_of, no_common_version, bad_request_length, bad_vendor, config_told, unread_answer, forwarded_answer, keeps_rate, rated_answer, read_answer, message_answer}
use Rattle.slice_words.proofs.ReadAlike.{read_ends}

-- a property of answers, beside whether the connection is to end, holds of each kind of answer to a message
pub record HoldsOfEach (P : Bool → Answer → Type 0) (s : Settings) (view : List Item) (past : List Past) (message : List ℕ) : Type 0 where
  pub bad : P true (dismissal (error_for bad_request_length message ∷ []))
  pub old : P true (dismissal (error_of (xid_of message) no_common_version.0 no_common_version.1 [] ∷ []))
  pub nothing : P false no_answer
  pub refuses : (fault : ℕ × ℕ) → P false (refused fault message)
  pub echoes : (body : List ℕ) → message_read s message ≡ Ok (said.EchoRequest body) → P false (answered (echo_reply_to (xid_of message) body ∷ []))
  pub tells_features : (features : Features) → P false (answered (spell_features (features_with features (known_ports view)) (xid_of message) ∷ []))
  pub tells_configuration : P false (answered (config_told (miss_send_len view) message ∷ []))
  pub forwards : (m : FlowMod) → message_read s message ≡ Ok (said.FlowMod m) → flow_mod_fault (ground_of s view past) m ≡ None → P false (forwarded (sent_on (ground_of s view past) m))
  pub sends_out : (m : PacketOut) → message_read s message ≡ Ok (said.PacketOut m) → packet_out_fault (ground_of s view past) m ≡ None → P false (forwarded (sent_out (ground_of s view past) m))
  pub tells_table : P false (answered (table_reply (length (ground_of s view past).booked) s.quota (xid_of message) ∷ []))
  pub asks_statistics : (request asked : StatsRequest) → message_read s message ≡ Ok (said.StatsRequest request) → may_ask (ground_of s view past) request ≡ true → asked_as request ≡ Some asked → P false (asking (ground_of s view past) (ForStatistics asked))
  pub asks_barrier : message_read s message ≡ Ok said.BarrierRequest → P false (barrier_asked (ground_of s view past))
  pub asks_queues : (queues : QueuesQuestion) → message_read s message ≡ Ok (said.QueueGetConfigRequest queues) → is_own_port s.slot s.patterns queues.port ≡ true → P false (queues_asked (ground_of s view past) queues)

features_holds : (P : Bool → Answer → Type 0) (s : Settings) (view : List Item) (past : List Past) (message : List ℕ) (found : Option Features) → HoldsOfEach P s view past message
    → P false (elim found [ None ↦ no_answer | Some features ↦ answered (spell_features (features_with features (known_ports view)) (xid_of message) ∷ []) ])
features_holds P s view past message None each = each.nothing
features_holds P s view past message (Some features) each = each.tells_features features

flow_mod_holds : (P : Bool → Answer → Type 0) (s : Settings) (view : List Item) (past : List Past) (message : List ℕ) (m : FlowMod) (fault : Option (ℕ × ℕ)) → HoldsOfEach P s view past message
    → message_read s message ≡ Ok (said.FlowMod m) → flow_mod_fault (ground_of s view past) m ≡ fault
    → P false (elim fault [ Some found ↦ refused found message | None ↦ forwarded (sent_on (ground_of s view past) m) ])
flow_mod_holds P s view past message m None each read is = each.forwards m read is
flow_mod_holds P s view past message m (Some fault) each read is = each.refuses fault

packet_out_holds : (P : Bool → Answer → Type 0) (s : Settings) (view : List Item) (past : List Past) (message : List ℕ) (m : PacketOut) (fault : Option (ℕ × ℕ)) → HoldsOfEach P s view past message
    → message_read s message ≡ Ok (said.PacketOut m) → packet_out_fault (ground_of s view past) m ≡ fault
    → P false (elim fault [ Some found ↦ refused found message | None ↦ forwarded (sent_out (ground_of s view past) m) ])
packet_out_holds P s view past message m None each read is = each.sends_out m read is
packet_out_holds P s view past message m (Some fault) each read is = each.refuses fault

asked_holds : (P : Bool → Answer → Type 0) (s : Settings) (view : List Item) (past : List Past) (message : List ℕ) (request : StatsRequest) (asked : Option StatsRequest) → HoldsOfEach P s view past message
    → message_read s message ≡ Ok (said.StatsRequest request) → may_ask (ground_of s view past) request ≡ true → asked_as request ≡ asked
    → P false (elim asked [ None ↦ answered (table_reply (length (ground_of s view past).booked) s.quota (xid_of message) ∷ []) | Some sent ↦ asking (ground_of s view past) (ForStatistics sent) ])
asked_holds P s view past message request None each read may is = each.tells_table
asked_holds P s view past message request (Some asked) each read may is = each.asks_statistics request asked read may is

statistics_holds : (P : Bool → Answer → Type 0) (s : Settings) (view : List Item) (past : List Past) (message : List ℕ) (request : StatsRequest) (may : Bool) → HoldsOfEach P s view past message
    → message_read s message ≡ Ok (said.StatsRequest request) → may_ask (ground_of s view past) request ≡ may
    → P false (if may then statistics_asked (ground_of s view past) request message else refused not_permitted message)
statistics_holds P s view past message request true each read is = asked_holds P s view past message request (asked_as request) each read is refl
statistics_holds P s view past message request false each read is = each.refuses not_permitted

queues_holds : (P : Bool → Answer → Type 0) (s : Settings) (view : List Item) (past : List Past) (message : List ℕ) (queues : QueuesQuestion) (own : Bool) → HoldsOfEach P s view past message
    → message_read s message ≡ Ok (said.QueueGetConfigRequest queues) → is_own_port s.slot s.patterns queues.port ≡ own
    → P false (if own then queues_asked (ground_of s view past) queues else refused not_permitted message)
queues_holds P s view past message queues true each read is = each.asks_queues queues read is
queues_holds P s view past message queues false each read is = each.refuses not_permitted

forwarded_holds : (P : Bool → Answer → Type 0) (s : Settings) (view : List Item) (past : List Past) (message : List ℕ) (asked : FromController) → HoldsOfEach P s view past message
    → message_read s message ≡ Ok asked → P false (forwarded_answer s view past asked message)
forwarded_holds P s view past message said.Hello each read = each.nothing
forwarded_holds P s view past message said.Error each read = each.nothing
forwarded_holds P s view past message (said.EchoRequest body) each read = each.nothing
forwarded_holds P s view past message said.EchoReply each read = each.nothing
forwarded_holds P s view past message said.Vendor each read = each.nothing
forwarded_holds P s view past message said.FeaturesRequest each read = each.nothing
forwarded_holds P s view past message said.GetConfigRequest each read = each.nothing
forwarded_holds P s view past message (said.SetConfig config) each read = each.nothing
forwarded_holds P s view past message (said.PacketOut m) each read = packet_out_holds P s view past message m (packet_out_fault (ground_of s view past) m) each read refl
forwarded_holds P s view past message (said.FlowMod m) each read = flow_mod_holds P s view past message m (flow_mod_fault (ground_of s view past) m) each read refl
forwarded_holds P s view past message said.PortMod each read = each.nothing
forwarded_holds P s view past message (said.StatsRequest request) each read = statistics_holds P s view past message request (may_ask (ground_of s view past) request) each read refl
forwarded_holds P s view past message said.BarrierRequest each read = each.asks_barrier read
forwarded_holds P s view past message (said.QueueGetConfigRequest queues) each read = queues_holds P s view past message queues (is_own_port s.slot s.patterns queues.port) each read refl

rated_holds : (P : Bool → Answer → Type 0) (s : Settings) (view : List Item) (past : List Past) (moment : ℕ) (message : List ℕ) (asked : FromController) → HoldsOfEach P s view past message
    → message_read s message ≡ Ok asked → P false (rated_answer s view past moment asked message)
rated_holds P s view past moment message asked each read =
    either (P false) (keeps_rate s view past moment) _ _ (forwarded_holds P s view past message asked each read) (each.refuses not_permitted)

read_holds : (P : Bool → Answer → Type 0) (s : Settings) (view : List Item) (past : List Past) (moment : ℕ) (message : List ℕ) (asked : FromController) → HoldsOfEach P s view past message
    → message_read s message ≡ Ok asked → P false (read_answer s view past moment asked message)
unfolding read_answer
read_holds P s view past moment message said.Hello each read = each.nothing
read_holds P s view past moment message said.Error each read = each.nothing
read_holds P s view past moment message (said.EchoRequest body) each read = each.echoes body read
read_holds P s view past moment message said.EchoReply each read = each.nothing
read_holds P s view past moment message said.Vendor each read = each.refuses bad_vendor
read_holds P s view past moment message said.FeaturesRequest each read = features_holds P s view past message (features_in view) each
read_holds P s view past moment message said.GetConfigRequest each read = each.tells_configuration
read_holds P s view past moment message (said.SetConfig config) each read = either (P false) (config.flags == 0) _ _ each.nothing (each.refuses not_permitted)
read_holds P s view past moment message (said.PacketOut m) each read = rated_holds P s view past moment message (said.PacketOut m) each read
read_holds P s view past moment message (said.FlowMod m) each read = rated_holds P s view past moment message (said.FlowMod m) each read
read_holds P s view past moment message said.PortMod each read = each.refuses not_permitted
read_holds P s view past moment message (said.StatsRequest request) each read = rated_holds P s view past moment message (said.StatsRequest request) each read
read_holds P s view past moment message said.BarrierRequest each read = rated_holds P s view past moment message said.BarrierRequest each read
read_holds P s view past moment message (said.QueueGetConfigRequest queues) each read = rated_holds P s view past moment message (said.QueueGetConfigRequest queues) each read

by_reading : (P : Bool → Answer → Type 0) (s : Settings) (view : List Item) (past : List Past) (moment : ℕ) (message : List ℕ) (found : Reading) → HoldsOfEach P s view past message
    → message_read s message ≡ found
    → P (ends_connection found) (elim found [ Err fault ↦ unread_answer fault message | Ok asked ↦ read_answer s view past moment asked message ])
by_reading P s view past moment message (Ok asked) each read = read_holds P s view past moment message asked each read
by_reading P s view past moment message (Err BadLength) each read = each.bad
by_reading P s view past moment message (Err NoCommonVersion) each read = each.old
by_reading P s view past moment message (Err BadVersion) each read = each.refuses (refusal_of BadVersion)
by_reading P s view past moment message (Err BadType) each read = each.refuses (refusal_of BadType)
by_reading P s view past moment message (Err (BadForm fault)) each read = each.refuses (refusal_of (BadForm fault))

pub message_holds : (P : Bool → Answer → Type 0) (s : Settings) (view : List Item) (past : List Past) (moment : ℕ) (message : List ℕ) → HoldsOfEach P s view past message
    → P (is_dismissing message) (message_answer s view past moment message)
message_holds P s view past moment message each =
    subst (λ (ends : Bool). P ends (message_answer s view past moment message)) (read_ends s message) (by_reading P s view past moment message (message_read s message) each refl)
