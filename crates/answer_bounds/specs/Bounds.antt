-- What follows from one event is little, and fits the limits of the queues.
use Rattle.std.specs.Prelude.{ℕ, ◌≡◌, ◌≤◌, Bool, true, false, List, length, Result, Ok}
use Rattle.std.specs.List.{All}
use Rattle.of10_ctl.specs.Frames.{IsFrame}
use Rattle.of10_message.specs.declared.fault.Unread.{Unread}
use Rattle.of10_message.specs.Switch as says
use Rattle.of10_message.specs.Switch.{SwitchMessage, read_switch}
use Rattle.flowspace.specs.Policies.{PolicyView}
use Rattle.outbox.specs.Queues.{size}
use Rattle.desk_words.specs.declared.event.Event.{Event}
use Rattle.desk_words.specs.declared.event.Event.TheVariants.{SwitchMsg, SliceMsg}
use Rattle.desk_words.specs.declared.event.Timed.{Timed}
use Rattle.desk_words.specs.Sent.{sent_by, lane_by}
use Rattle.desk_words.specs.Operations.{slice_limit, lane_limit}

-- the message of an event is a frame; other events have none
abbrev pub IsFramed : Event → Type 0
IsFramed (SwitchMsg message) = IsFrame message
IsFramed (SliceMsg slot message) = IsFrame message
IsFramed event = Unit {0}

-- so are those of a history
abbrev pub AreFramed : List Timed → Type 0
AreFramed h = All (λ timed. IsFramed timed.event) h

-- what follows from an event after a history fits the limits: for the switch, and for each slice
pub record FitsQueues (policy : PolicyView) (h : List Timed) (timed : Timed) : Type 0 where
  pub lane : size (lane_by policy h timed) ≤ lane_limit
  pub slices : (slot : ℕ) → size (sent_by policy slot h timed) ≤ slice_limit

-- each message has no more bytes than a length field can say (OpenFlow 1.0.0, section 5.1)
abbrev pub AreShort : List (List ℕ) → Type 0
AreShort messages = All (λ message. length message ≤ 65535) messages

-- no more messages than that, each of them short
pub record AreFew (most : ℕ) (messages : List (List ℕ)) : Type 0 where
  pub few : length messages ≤ most
  pub short : AreShort messages

-- messages of no more bytes than that together, each of them short
pub record AreSmall (most : ℕ) (messages : List (List ℕ)) : Type 0 where
  pub small : size messages ≤ most
  pub short : AreShort messages

-- what was read is a part of statistics (OpenFlow 1.0.0, section 5.3.5)
abbrev pub is_statistics : Result SwitchMessage Unread → Bool
is_statistics (Ok (says.StatsReply part body)) = true
is_statistics said = false

-- an event reports statistics
abbrev pub tells_statistics : Event → Bool
tells_statistics (SwitchMsg message) = is_statistics (read_switch message)
tells_statistics event = false

-- what follows from an event after a history is at most 262,144 bytes for the switch and 524,492 for each slice. Where the event reports no statistics, it is at most two messages for each slice.
-- The policy may be any, accepted or not: under one that names a slice among the readers of a rule that it writes, a packet is sent twice. Under an accepted one it would be one message.
-- No less holds: the messages of a flow-mod may have so many bytes, as those of 256 pieces with 119 outputs each. A slice is sent 524,288 bytes of entries in at most 17 replies with 12 bytes in front, since two that follow each other have more entries than fit one. Eight times flows of 88 and of 65,436 bytes, and one of 96, are sent so
pub record SendsLittle (policy : PolicyView) (h : List Timed) (timed : Timed) : Type 0 where
  pub lane : AreSmall 262144 (lane_by policy h timed)
  pub slices : (slot : ℕ) → AreSmall 524492 (sent_by policy slot h timed)
  pub few : tells_statistics timed.event ≡ false → (slot : ℕ) → AreFew 2 (sent_by policy slot h timed)
