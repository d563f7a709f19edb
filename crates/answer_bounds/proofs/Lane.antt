-- What the switch is sent at one event is at most 262,144 bytes.
use Rattle.std.proofs.Common.{ℕ, ◌≤◌, List, [], ◌∷◌, ◌++◌, length, Option, Some, None, Result, Ok, IfOk, arith}
use Rattle.std.proofs.lemmas.List.{length-drop}
use Rattle.byteorder.specs.Endian.{big_bytes}
use Rattle.of10_model.specs.Spelling.{Spell}
use Rattle.of10_ctl.specs.declared.kind.TheConstants.{HELLO, ECHO_REPLY, FEATURES_REQUEST, SET_CONFIG, BARRIER_REQUEST}
use Rattle.of10_ctl.specs.Frames.{message_of}
use Rattle.of10_flow.specs.FlowMods.{spell_flow_mod}
use Rattle.of10_port.specs.declared.features.Features.{Features}
use Rattle.of10_message.specs.declared.fault.Unread.{Unread}
use Rattle.of10_message.specs.Heads.{xid_of}
use Rattle.of10_message.specs.Switch as says
use Rattle.of10_message.specs.Switch.{SwitchMessage, read_switch}
use Rattle.of10_message.proofs.SwitchCases.{of_switch}
use Rattle.desk_words.specs.declared.event.Event.{Event}
use Rattle.desk_words.specs.declared.event.Event.TheVariants.{SwitchUp, SwitchMsg, SwitchDown, SliceUp, SliceMsg, SliceDown}
use Rattle.desk_words.specs.declared.phase.Phase.{Phase}
use Rattle.desk_words.specs.declared.phase.Phase.TheVariants.{Fresh, Begun, Opened, Gone}
use Rattle.desk_words.specs.Openings.{features_told}
use Rattle.desk_words.specs.Sent.{greeting, whole_packets, clearing, preparation, echo_said, echo_for, lane_in}
use Rattle.answer_bounds.specs.Bounds.{IsFramed, AreFew, AreSmall}
use Rattle.answer_bounds.proofs.Messages.{IsShort, few-one, few-append, small-none, small-few, short-message}

-- ---- the proxy's own messages

few_two : (one other : List ℕ) → IsShort one → IsShort other → AreFew 2 (one ∷ other ∷ [])
few_two one other a b = few-append 1 1 (one ∷ []) (other ∷ []) (few-one one a) (few-one other b)

small_greeting : AreSmall 262144 greeting
small_greeting =
    small-few 2 262144 greeting (omega arith)
    (few_two (message_of HELLO 0xff000000 []) (message_of FEATURES_REQUEST 0xff000001 []) (short-message HELLO 0xff000000 [] (omega arith)) (short-message FEATURES_REQUEST 0xff000001 [] (omega arith)))

short_clearing : IsShort clearing
unfolding spell_flow_mod Spell
short_clearing = omega arith

small_preparation : AreSmall 262144 preparation
small_preparation =
    small-few 3 262144 preparation (omega arith)
    (few-append 1 2 (whole_packets ∷ []) (clearing ∷ message_of BARRIER_REQUEST 0xff000004 [] ∷ [])
    (few-one whole_packets (short-message SET_CONFIG 0xff000002 (big_bytes 2 0 ++ big_bytes 2 0xffff) (omega arith)))
    (few_two clearing (message_of BARRIER_REQUEST 0xff000004 []) short_clearing (short-message BARRIER_REQUEST 0xff000004 [] (omega arith))))

-- an echo's body fits its reply
abbrev EchoFits : SwitchMessage → Type 0
EchoFits (says.EchoRequest body) = length body ≤ 65527
EchoFits said = Unit {0}

echo_fits : (message : List ℕ) → IsShort message → IfOk (read_switch message) EchoFits
echo_fits message short = of_switch (λ said. IfOk said EchoFits) message (record {
  unread = λ fault is. tt;
  hello = tt;
  error = λ error is. tt;
  echo_request = let rest = length-drop 8 message in omega (arith, rest, short);
  echo_reply = tt;
  vendor = tt;
  features = λ features is. tt;
  config = λ config is. tt;
  packet = λ packet is. tt;
  removal = λ entry is. tt;
  status = λ status is. tt;
  part = λ part is. tt;
  barrier = tt;
  queues = λ queues is. tt;
}) tt

small_said : (xid : ℕ) (said : Result SwitchMessage Unread) → IfOk said EchoFits → AreSmall 262144 (echo_said xid said)
small_said xid (Ok (says.EchoRequest body)) fits = small-few 1 262144 (message_of ECHO_REPLY xid body ∷ []) (omega arith) (few-one (message_of ECHO_REPLY xid body) (short-message ECHO_REPLY xid body fits))
small_said xid said fits = small-none 262144

small_echo : (message : List ℕ) → IsShort message → AreSmall 262144 (echo_for message)
small_echo message short = small_said (xid_of message) (read_switch message) (echo_fits message short)

small_begun : (message : List ℕ) (told : Option Features) → IsShort message → AreSmall 262144 (elim told [ None ↦ echo_for message | Some features ↦ preparation ])
small_begun message None short = small_echo message short
small_begun message (Some features) short = small_preparation

-- ---- all of it

-- what a slice has sent is small where it has something sent: at its message, after the opening
abbrev pub IsSmallOfSlice : (ℕ → List (List ℕ)) → Phase → Event → Type 0
IsSmallOfSlice of_slice Opened (SliceMsg slot message) = AreSmall 262144 (of_slice slot)
IsSmallOfSlice of_slice phase event = Unit {0}

pub lane_small : (of_slice : ℕ → List (List ℕ)) (phase : Phase) (event : Event) → IsSmallOfSlice of_slice phase event → IsFramed event → AreSmall 262144 (lane_in of_slice phase event)
lane_small of_slice Gone event small framed = small-none 262144
lane_small of_slice Fresh SwitchUp small framed = small_greeting
lane_small of_slice Fresh (SwitchMsg message) small framed = small-none 262144
lane_small of_slice Fresh SwitchDown small framed = small-none 262144
lane_small of_slice Fresh (SliceUp slot) small framed = small-none 262144
lane_small of_slice Fresh (SliceMsg slot message) small framed = small-none 262144
lane_small of_slice Fresh (SliceDown slot) small framed = small-none 262144
lane_small of_slice Begun SwitchUp small framed = small_greeting
lane_small of_slice Begun (SwitchMsg message) small framed = small_begun message (features_told message) framed.small
lane_small of_slice Begun SwitchDown small framed = small-none 262144
lane_small of_slice Begun (SliceUp slot) small framed = small-none 262144
lane_small of_slice Begun (SliceMsg slot message) small framed = small-none 262144
lane_small of_slice Begun (SliceDown slot) small framed = small-none 262144
lane_small of_slice Opened SwitchUp small framed = small_greeting
lane_small of_slice Opened (SwitchMsg message) small framed = small_echo message framed.small
lane_small of_slice Opened SwitchDown small framed = small-none 262144
lane_small of_slice Opened (SliceUp slot) small framed = small-none 262144
lane_small of_slice Opened (SliceMsg slot message) small framed = small
lane_small of_slice Opened (SliceDown slot) small framed = small-none 262144
