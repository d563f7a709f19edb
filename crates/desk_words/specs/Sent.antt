-- What a desk sends at an event: to the slices the answers to what they see, and to the switch, in its lane, messages of the proxy's own or of a slice (this proxy's own rule).
use Rattle.std.specs.Prelude.{ℕ, List, [], ◌∷◌, ◌++◌, map, Some, None, Result, Ok}
use Rattle.of10_model.specs.Exact.{all_free}
use Rattle.of10_ctl.specs.declared.kind.TheConstants.{HELLO, FEATURES_REQUEST, BARRIER_REQUEST}
use Rattle.of10_ctl.specs.Frames.{message_of, echo_reply_to}
use Rattle.of10_flow.specs.declared.protocol.TheConstants.{NO_BUFFER, DELETE}
use Rattle.of10_flow.specs.FlowMods.{spell_flow_mod}
use Rattle.of10_port.specs.declared.protocol.TheConstants.{NONE}
use Rattle.of10_message.specs.declared.fault.Unread.{Unread}
use Rattle.of10_message.specs.Heads.{xid_of}
use Rattle.of10_message.specs.Switch as says
use Rattle.of10_message.specs.Switch.{SwitchMessage, read_switch}
use Rattle.of10_message.specs.Configs.{spell_set_config}
use Rattle.flowspace.specs.Policies.{PolicyView}
use Rattle.slice_words.specs.Alone.{rendered, sent_for, put_for}
use Rattle.desk_words.specs.declared.event.Event.{Event}
use Rattle.desk_words.specs.declared.event.Event.TheVariants.{SwitchUp, SwitchMsg, SliceMsg}
use Rattle.desk_words.specs.declared.event.Timed.{Timed}
use Rattle.desk_words.specs.declared.phase.Phase.{Phase}
use Rattle.desk_words.specs.declared.phase.Phase.TheVariants.{Begun, Opened, Gone}
use Rattle.desk_words.specs.Openings.{features_told, KnownSwitch, switch_of, phase_of}
use Rattle.desk_words.specs.Histories.{settings_at, items_of, SliceSide, side_of}

-- ---- to the slices

-- what the slice at a slot is sent at an event, after what is known of the switch and what the slice sees
abbrev pub sent_with : PolicyView → ℕ → KnownSwitch → SliceSide → Timed → List (List ℕ)
sent_with policy slot switch side timed = sent_for (settings_at policy slot switch.features) side.sight.view (items_of policy slot switch side timed)

-- what it is sent at an event after a history
abbrev pub sent_by : PolicyView → ℕ → List Timed → Timed → List (List ℕ)
sent_by policy slot h timed = sent_with policy slot (switch_of h) (side_of policy slot h) timed

-- what it is sent over a history, the oldest first
abbrev pub sent : PolicyView → ℕ → List Timed → List (List ℕ)
sent policy slot [] = []
sent policy slot (timed ∷ h) = sent policy slot h ++ sent_by policy slot h timed

-- ---- to the switch: the proxy's own messages

-- the greeting, and the question what the switch is (OpenFlow 1.0.0, sections 5.5 and 5.3.1)
abbrev pub greeting : List (List ℕ)
greeting = message_of HELLO 0xff000000 [] ∷ message_of FEATURES_REQUEST 0xff000001 [] ∷ []

-- packets are to be handed up whole (section 5.3.2)
abbrev pub whole_packets : List ℕ
whole_packets = spell_set_config 0xff000002 (record { flags = 0; miss_send_len = 0xffff })

-- every entry is to be deleted (section 5.3.3: OFPFC_DELETE of all headers, for no port and no buffer)
abbrev pub clearing : List ℕ
clearing = spell_flow_mod (record {
  xid = 0xff000003;
  pattern = all_free;
  cookie = 0;
  command = DELETE;
  idle = 0;
  hard = 0;
  priority = 0;
  buffer = NO_BUFFER;
  out_port = NONE;
  flags = 0;
  actions = [];
})

-- what a switch that has said what it is is sent first: how to hand up packets, an empty table, and a barrier (sections 5.3.2, 5.3.3 and 5.3.7)
abbrev pub preparation : List (List ℕ)
preparation = whole_packets ∷ clearing ∷ message_of BARRIER_REQUEST 0xff000004 [] ∷ []

-- a switch that asks under a transaction id whether this proxy is there is answered with the body that it sent (section 5.5)
abbrev pub echo_said : ℕ → Result SwitchMessage Unread → List (List ℕ)
echo_said xid (Ok (says.EchoRequest body)) = echo_reply_to xid body ∷ []
echo_said xid said = []

-- what answers a message
abbrev pub echo_for : List ℕ → List (List ℕ)
echo_for message = echo_said (xid_of message) (read_switch message)

-- what a switch is sent for a message that came before it said what it is
abbrev pub begun_lane : List ℕ → List (List ℕ)
begun_lane message = elim (features_told message) [ None ↦ echo_for message | Some features ↦ preparation ]

-- ---- to the switch: messages of slices

-- what the slice at a slot has sent to the switch at an event, after what is known of the switch and what the slice sees
abbrev pub put_with : PolicyView → ℕ → KnownSwitch → SliceSide → Timed → List (List ℕ)
put_with policy slot switch side timed =
    map (rendered side.sight.came) (put_for (settings_at policy slot switch.features) side.sight.view (items_of policy slot switch side timed))

-- what it has sent at an event after a history
abbrev pub slice_lane : PolicyView → ℕ → List Timed → Timed → List (List ℕ)
slice_lane policy slot h timed = put_with policy slot (switch_of h) (side_of policy slot h) timed

-- ---- to the switch: all

-- what the switch is sent in a phase, where the slice at a slot has so much sent: before the switch connects nothing, and from its end on nothing
abbrev pub lane_in : (ℕ → List (List ℕ)) → Phase → Event → List (List ℕ)
lane_in of_slice Gone event = []
lane_in of_slice phase SwitchUp = greeting
lane_in of_slice Begun (SwitchMsg message) = begun_lane message
lane_in of_slice Opened (SwitchMsg message) = echo_for message
lane_in of_slice Opened (SliceMsg slot message) = of_slice slot
lane_in of_slice phase event = []

-- what the switch is sent at an event after a history
abbrev pub lane_by : PolicyView → List Timed → Timed → List (List ℕ)
lane_by policy h timed = lane_in (λ slot. slice_lane policy slot h timed) (phase_of h) timed.event
