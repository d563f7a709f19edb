-- Questions for the queues of a port, and replies to them (OpenFlow 1.0.0, section 5.3.4): as they are read, and as they are spelled.
use Rattle.std.specs.Prelude.{ℕ, ◌≡◌, ◌<◌, ◌≤◌, ◌^◌, ◌==◌, nat_lt, if◌then◌else◌, List, ◌++◌, length, drop, Result, Ok, Err}
use Rattle.byteorder.specs.Endian.{big_bytes}
use Rattle.of10_model.specs.Normal.{number_at}
use Rattle.of10_action.specs.declared.fault.WireFault.{WireFault}
use Rattle.of10_action.specs.declared.fault.WireFault.TheVariants.{Length}
use Rattle.of10_ctl.specs.declared.kind.TheConstants.{QUEUE_GET_CONFIG_REQUEST, QUEUE_GET_CONFIG_REPLY}
use Rattle.of10_ctl.specs.Frames.{message_of}
use Rattle.of10_message.specs.declared.queues.QueuesQuestion.{QueuesQuestion}
use Rattle.of10_message.specs.declared.queues.QueuesView.{QueuesView}

-- the port with which the body of a question or of a reply begins
abbrev pub port_of_queues : List ℕ → ℕ
port_of_queues body = number_at body 0 2

-- ---- questions

-- what a body asks: the port with which it begins, and the padding behind it, which is passed on as it came
abbrev pub question_in : List ℕ → QueuesQuestion
question_in body = record { port = port_of_queues body; padding = drop 2 body }

-- a question: a port and two bytes of padding
pub record IsQueuesQuestion (question : QueuesQuestion) : Type 0 where
  pub port : question.port < 2 ^ 16
  pub padding : length question.padding ≡ 2

-- what the bytes of a question say, or their length where they aren't as many as a question has
abbrev pub read_queues_request : List ℕ → Result QueuesQuestion WireFault
read_queues_request bytes = if length bytes == 12 then Ok (question_in (drop 8 bytes)) else Err (Length (length bytes))

-- the body of a question: its port and its padding
abbrev pub question_bytes : QueuesQuestion → List ℕ
question_bytes question = big_bytes 2 question.port ++ question.padding

-- which queues a port has
abbrev pub spell_queues_request : ℕ → QueuesQuestion → List ℕ
spell_queues_request xid question = message_of QUEUE_GET_CONFIG_REQUEST xid (question_bytes question)

-- ---- replies

-- what a reply says of the queues of a port: the port, and the body whole, which begins with the port and is passed on unread
pub record QueuesMessage : Type 0 where
  pub port : ℕ
  pub body : List ℕ

-- what a view of such a reply shows
abbrev pub queues_of_view : QueuesView → QueuesMessage
queues_of_view view = record { port = view.port; body = view.body.now }

-- what such a body says of queues
abbrev pub queues_in : List ℕ → QueuesMessage
queues_in body = record { port = port_of_queues body; body = body }

-- what is said of the queues of a port begins with that port, and fits a message
pub record AreQueues (queues : QueuesMessage) : Type 0 where
  pub front : queues.port ≡ port_of_queues queues.body
  pub fits : length queues.body ≤ 65527

-- what the bytes of such a reply say, or their length where they are shorter than its fields
unfoldable pub read_queues : List ℕ → Result QueuesMessage WireFault
read_queues bytes =
    if nat_lt (length bytes) 16 then Err (Length (length bytes))
    else Ok (queues_in (drop 8 bytes))

-- a port has these queues: the body, which begins with the port, is passed on too
abbrev pub spell_queues_reply : ℕ → List ℕ → List ℕ
spell_queues_reply xid body = message_of QUEUE_GET_CONFIG_REPLY xid body
