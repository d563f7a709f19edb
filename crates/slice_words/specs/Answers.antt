-- What follows for a slice from each item of its view. A later item is answered by look-ups in the view before it and in the answers given there; nothing is kept. Sections are those of OpenFlow 1.0.0; the order of refusals is this proxy's own rule.
use Rattle.std.specs.Prelude.{ℕ, ◌-◌, ◌%◌, ◌^◌, ◌==◌, max, Bool, if◌then◌else◌, List, [], ◌∷◌, length, take, Option, Some, None, Ok, Err}
use Rattle.of10_action.specs.Faults.{class_and_code}
use Rattle.of10_ctl.specs.declared.kind.TheConstants.{HELLO}
use Rattle.of10_ctl.specs.Frames.{message_of, error_of, echo_reply_to}
use Rattle.of10_flow.specs.declared.protocol.TheConstants.{NO_BUFFER}
use Rattle.of10_flow.specs.declared.flow_mod.FlowMod.{FlowMod}
use Rattle.of10_flow.specs.declared.flow_removed.FlowRemoved.{FlowRemoved}
use Rattle.of10_flow.specs.FlowRemoveds.{spell_flow_removed}
use Rattle.of10_flow.specs.declared.packet_out.PacketOut.{PacketOut}
use Rattle.of10_flow.specs.PacketIns.{spell_packet_in}
use Rattle.of10_stats.specs.declared.request.StatsRequest.{StatsRequest}
use Rattle.of10_port.specs.Features.{spell_features}
use Rattle.of10_port.specs.PortStatus.{spell_port_status}
use Rattle.of10_message.specs.declared.controller.FromController.{FromController}
use Rattle.of10_message.specs.declared.controller.FromController.TheVariants as said
use Rattle.of10_message.specs.declared.config.SwitchConfig.{SwitchConfig}
use Rattle.of10_message.specs.declared.fault.Unread.{Unread}
use Rattle.of10_message.specs.declared.fault.Unread.TheVariants.{BadLength, NoCommonVersion, BadVersion, BadType, BadForm}
use Rattle.of10_message.specs.Heads.{xid_of}
use Rattle.of10_message.specs.declared.queues.QueuesQuestion.{QueuesQuestion}
use Rattle.of10_message.specs.Configs.{spell_config_reply}
use Rattle.port_view.specs.SlicePorts.{features_with}
use Rattle.rate_bucket.specs.Rates.{is_accepted}
use Rattle.xid_map.specs.declared.asked.Issued.{Issued}
use Rattle.flow_book.specs.declared.booked.Booked.{Booked}
use Rattle.flow_book.specs.Books.{booking}
use Rattle.slice_words.specs.Messages.{quoted}
use Rattle.slice_words.specs.Items.{Settings, message_read, Share, Writer, Reader, Probe, Packet, Item, Up, Msg, Handed, Removed, Status, Fault, Barrier, Queues, Last, is_up, miss_send_len, latest_moment, buffered_count, features_in, known_ports, is_own_port}
use Rattle.slice_words.specs.Pasts.{Answer, Past, no_answer, told, dismissal, forwarded}
use Rattle.slice_words.specs.Statistics.{barrier_told, queues_told, statistics_told}
use Rattle.slice_words.specs.Calls.{questions, request_calls, request_for, collection_calls, book_calls}
use Rattle.slice_words.specs.FlowMods.{Ground, ground_of, flow_mod_fault, sent_on, not_permitted}
use Rattle.slice_words.specs.PacketOuts.{packet_out_fault, sent_out}
use Rattle.slice_words.specs.Questions.{may_ask, statistics_asked, barrier_asked, queues_asked}

-- ---- refusals (section 5.4.4): class and code

-- HELLO_FAILED, INCOMPATIBLE
abbrev pub no_common_version : ℕ × ℕ
no_common_version = (0, 0)

-- BAD_REQUEST, BAD_VERSION
abbrev pub bad_version : ℕ × ℕ
bad_version = (1, 0)

-- BAD_REQUEST, BAD_TYPE
abbrev pub bad_type : ℕ × ℕ
bad_type = (1, 1)

-- BAD_REQUEST, BAD_VENDOR
abbrev pub bad_vendor : ℕ × ℕ
bad_vendor = (1, 3)

-- BAD_REQUEST, BAD_LEN
abbrev pub bad_request_length : ℕ × ℕ
bad_request_length = (1, 6)

-- the error that answers a message, with the message's transaction id and its first 64 bytes
abbrev pub error_for : ℕ × ℕ → List ℕ → List ℕ
error_for fault message = error_of (xid_of message) fault.0 fault.1 message

-- that error and nothing else
abbrev pub refused : ℕ × ℕ → List ℕ → Answer
refused fault message = told (error_for fault message ∷ [])

-- what a message is refused with that isn't read
abbrev pub refusal_of : Unread → ℕ × ℕ
refusal_of BadLength = bad_request_length
refusal_of NoCommonVersion = no_common_version
refusal_of BadVersion = bad_version
refusal_of BadType = bad_type
refusal_of (BadForm fault) = class_and_code fault

-- ---- messages of the controller

-- what follows from a message that isn't read: one whose length is bad, or that has no version in common, as a HELLO of version 0 hasn't, ends the connection, and the second is quoted nothing of (section 4.2)
abbrev pub unread_answer : Unread → List ℕ → Answer
unread_answer BadLength message = dismissal (error_for bad_request_length message ∷ [])
unread_answer NoCommonVersion message = dismissal (error_of (xid_of message) no_common_version.0 no_common_version.1 [] ∷ [])
unread_answer fault message = refused (refusal_of fault) message

-- the reply to FEATURES_REQUEST: the switch with one table, no more buffers than a slice may hold, and the slice's own ports (section 5.3.1)
abbrev pub features_answer : List Item → List ℕ → Answer
features_answer view message = elim (features_in view) [ None ↦ no_answer | Some features ↦ told (spell_features (features_with features (known_ports view)) (xid_of message) ∷ []) ]

-- the reply to GET_CONFIG_REQUEST: no flags, and what the controller set (section 5.3.2)
abbrev pub config_told : ℕ → List ℕ → List ℕ
config_told length_set message = spell_config_reply (xid_of message) (record { flags = 0; miss_send_len = length_set })

-- SET_CONFIG is taken where it asks for fragments to be handled as usual (section 5.3.2)
abbrev pub setting_answer : SwitchConfig → List ℕ → Answer
setting_answer config message = if config.flags == 0 then no_answer else refused not_permitted message

-- a flow-mod is refused by the first line that applies, or sent on piece by piece (section 5.3.3)
abbrev pub flow_mod_answer : Ground → FlowMod → List ℕ → Answer
flow_mod_answer g m message = elim (flow_mod_fault g m) [ Some fault ↦ refused fault message | None ↦ forwarded (sent_on g m) ]

-- a packet-out is refused by the first line that applies, or sent on (section 5.3.6)
abbrev pub packet_out_answer : Ground → PacketOut → List ℕ → Answer
packet_out_answer g m message = elim (packet_out_fault g m) [ Some fault ↦ refused fault message | None ↦ forwarded (sent_out g m) ]

-- a request for statistics of a port that isn't the slice's is refused (section 5.3.5)
abbrev pub statistics_answer : Ground → StatsRequest → List ℕ → Answer
statistics_answer g request message = if may_ask g request then statistics_asked g request message else refused not_permitted message

-- so is a question for the queues of such a port (section 5.3.4)
abbrev pub queues_answer : Ground → QueuesQuestion → List ℕ → Answer
queues_answer g queues message = if is_own_port g.slot g.patterns queues.port then queues_asked g queues else refused not_permitted message

-- what is to be sent on to the switch
abbrev pub forwarded_answer : Settings → List Item → List Past → FromController → List ℕ → Answer
forwarded_answer s view past (said.PacketOut m) message = packet_out_answer (ground_of s view past) m message
forwarded_answer s view past (said.FlowMod m) message = flow_mod_answer (ground_of s view past) m message
forwarded_answer s view past (said.StatsRequest request) message = statistics_answer (ground_of s view past) request message
forwarded_answer s view past said.BarrierRequest message = barrier_asked (ground_of s view past)
forwarded_answer s view past (said.QueueGetConfigRequest queues) message = queues_answer (ground_of s view past) queues message
forwarded_answer s view past other message = no_answer

-- a message that is to be sent on keeps the rate: its timestamp is the greatest of the slice's timestamps so far
abbrev pub keeps_rate : Settings → List Item → List Past → ℕ → Bool
keeps_rate s view past moment = is_accepted s.rate s.burst (questions past) (max moment (latest_moment view))

-- it is refused where it doesn't
abbrev pub rated_answer : Settings → List Item → List Past → ℕ → FromController → List ℕ → Answer
rated_answer s view past moment asked message = if keeps_rate s view past moment then forwarded_answer s view past asked message else refused not_permitted message

-- a message that is read: this proxy answers echoes (section 5.5), features and configuration itself; vendors' messages and changes of ports are left out; what else asks something of the switch is sent on
unfoldable pub read_answer : Settings → List Item → List Past → ℕ → FromController → List ℕ → Answer
read_answer s view past moment said.Hello message = no_answer
read_answer s view past moment said.Error message = no_answer
read_answer s view past moment (said.EchoRequest body) message = told (echo_reply_to (xid_of message) body ∷ [])
read_answer s view past moment said.EchoReply message = no_answer
read_answer s view past moment said.Vendor message = refused bad_vendor message
read_answer s view past moment said.FeaturesRequest message = features_answer view message
read_answer s view past moment said.GetConfigRequest message = told (config_told (miss_send_len view) message ∷ [])
read_answer s view past moment (said.SetConfig config) message = setting_answer config message
read_answer s view past moment said.PortMod message = refused not_permitted message
read_answer s view past moment asked message = rated_answer s view past moment asked message

-- a message of a controller, by what is read of it (this proxy's own rule)
abbrev pub message_answer : Settings → List Item → List Past → ℕ → List ℕ → Answer
message_answer s view past moment message =
    elim (message_read s message) [ Err fault ↦ unread_answer fault message | Ok read ↦ read_answer s view past moment read message ]

-- ---- packets

-- a packet-in for the slice with this number and so much of the packet (section 5.4.1)
abbrev pub packet_message : ℕ → ℕ → List ℕ → Packet → List ℕ
packet_message buffer total_len payload packet =
    spell_packet_in (record { xid = 0; buffer = buffer; total_len = total_len; in_port = packet.in_port; reason = packet.reason; payload = payload })

-- a buffered packet has the number of buffered packets before it, in 24 bits, and where no entry matched it is cut to what the controller wants
abbrev pub buffered_message : List Item → Packet → List ℕ
buffered_message view packet =
    packet_message (buffered_count view % 2 ^ 24) packet.total_len (if packet.reason == 0 then take (miss_send_len view) packet.payload else packet.payload) packet

-- the writer's packet is buffered where the switch buffers it, a reader's never; a probe comes without the mark in its last eight bytes
unfoldable pub packet_told : List Item → Packet → Share → List ℕ
packet_told view packet (Writer buffered) = if buffered then buffered_message view packet else packet_message NO_BUFFER packet.total_len packet.payload packet
packet_told view packet Reader = packet_message NO_BUFFER packet.total_len packet.payload packet
packet_told view packet Probe = packet_message NO_BUFFER (packet.total_len - 8) (take (length packet.payload - 8) packet.payload) packet

-- ---- entries and errors

-- a removed entry is reported to a slice where the pair was booked and asked for that (section 5.4.2)
abbrev pub removal_told : Option Booked → FlowRemoved → List (List ℕ)
removal_told None entry = []
removal_told (Some booked) entry = if booked.asked then spell_flow_removed (record entry { xid = 0 }) ∷ [] else []

-- the first error for a request goes to the slice, under its own transaction id and with its own first bytes (section 5.4.4)
abbrev pub error_told : Option Issued → ℕ → ℕ → List (List ℕ)
error_told None class code = []
error_told (Some request) class code = if request.failed then [] else error_of request.asked.xid class code (quoted request.asked) ∷ []

-- ---- all items

-- what follows for a slice that is up
abbrev pub answer_up : Settings → List Item → List Past → Item → Answer
answer_up s view past Up = no_answer
answer_up s view past (Msg message moment) = message_answer s view past moment message
answer_up s view past (Handed packet) = told (packet_told view packet packet.share ∷ [])
answer_up s view past (Removed entry) = told (removal_told (booking entry.pattern entry.priority (book_calls s past)) entry)
answer_up s view past (Status status) = told (spell_port_status status 0 ∷ [])
answer_up s view past (Fault x class code pair) = told (error_told (request_for s x (request_calls s past)) class code)
answer_up s view past (Barrier x) = told (barrier_told (request_for s x (request_calls s past)))
answer_up s view past (Queues x body) = told (queues_told (request_for s x (request_calls s past)) body)
answer_up s view past (Last x kind) = told (statistics_told (request_for s x (request_calls s past)) kind (collection_calls s past))
answer_up s view past item = no_answer

-- an up is greeted (section 5.5); of anything else nothing follows while the slice isn't up
abbrev pub answer : Settings → List Item → List Past → Item → Answer
answer s view past Up = told (message_of HELLO 0 [] ∷ [])
answer s view past item = if is_up view then answer_up s view past item else no_answer
