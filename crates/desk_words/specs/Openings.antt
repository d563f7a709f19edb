-- How far a switch's connection is, and what the switch said, by a history: the events of a desk, newest first. Sections are those of OpenFlow 1.0.0.
use Rattle.std.specs.Prelude.{ℕ, Bool, if◌then◌else◌, List, [], ◌∷◌, Option, Some, None, Result, Ok}
use Rattle.of10_port.specs.declared.features.Features.{Features}
use Rattle.of10_port.specs.declared.status.PortStatus.{PortStatus}
use Rattle.of10_message.specs.declared.fault.Unread.{Unread}
use Rattle.of10_message.specs.Switch as says
use Rattle.of10_message.specs.Switch.{SwitchMessage, read_switch, has_bad_length}
use Rattle.flowspace.specs.declared.rules.Rule.{Rule}
use Rattle.flowspace.specs.declared.swaps.Swap.{Swap}
use Rattle.flowspace.specs.Order.{rules_on}
use Rattle.flowspace.specs.Policies.{PolicyView}
use Rattle.flowspace.specs.Swaps.{swaps_on}
use Rattle.port_view.specs.KnownPorts.{first_known, is_kept, changed}
use Rattle.desk_words.specs.declared.event.Event.{Event}
use Rattle.desk_words.specs.declared.event.Event.TheVariants.{SwitchUp, SwitchMsg, SwitchDown}
use Rattle.desk_words.specs.declared.event.Timed.{Timed}
use Rattle.desk_words.specs.declared.phase.Phase.{Phase}
use Rattle.desk_words.specs.declared.phase.Phase.TheVariants.{Fresh, Begun, Opened, Gone}

-- ---- messages of the switch

-- what a message that was read says of the switch, where it is a FEATURES_REPLY (section 5.3.1)
abbrev pub features_said : Result SwitchMessage Unread → Option Features
features_said (Ok (says.FeaturesReply features)) = Some features
features_said said = None

-- and of a port, where it is a PORT_STATUS (section 5.4.3)
abbrev pub status_said : Result SwitchMessage Unread → Option PortStatus
status_said (Ok (says.PortStatus status)) = Some status
status_said said = None

-- what a message says of the switch
abbrev pub features_told : List ℕ → Option Features
features_told message = features_said (read_switch message)

-- what a message reports of a port
abbrev pub status_told : List ℕ → Option PortStatus
status_told message = status_said (read_switch message)

-- ---- phases

-- a message ends the switch's connection where it reads as one of a bad length (this proxy's own rule)
abbrev pub ends_switch : List ℕ → Bool
ends_switch message = has_bad_length (read_switch message)

-- the first message that says what the switch is opens the desk (section 5.3.1); one of a bad length ends it (this proxy's own rule)
abbrev pub begun_after : List ℕ → Phase
begun_after message = if ends_switch message then Gone else elim (features_told message) [ None ↦ Begun | Some features ↦ Opened ]

-- after the opening only a message of a bad length moves on
abbrev pub opened_after : List ℕ → Phase
opened_after message = if ends_switch message then Gone else Opened

-- the switch connects, says what it is, and its connection ends; nothing else of it moves on
abbrev pub phase_after : Phase → Event → Phase
phase_after Fresh SwitchUp = Begun
phase_after Fresh event = Fresh
phase_after Begun (SwitchMsg message) = begun_after message
phase_after Begun SwitchDown = Gone
phase_after Begun event = Begun
phase_after Opened (SwitchMsg message) = opened_after message
phase_after Opened SwitchDown = Gone
phase_after Opened event = Opened
phase_after Gone event = Gone

-- how far the connection is after a history
abbrev pub phase_of : List Timed → Phase
phase_of [] = Fresh
phase_of (timed ∷ h) = phase_after (phase_of h) timed.event

-- ---- the opening

-- what an event says of the switch
abbrev pub features_in_event : Event → Option Features
features_in_event (SwitchMsg message) = features_told message
features_in_event event = None

-- what the switch said of itself with an event, where that opens the desk
abbrev pub opening_with : Phase → Event → Option Features
opening_with Begun event = features_in_event event
opening_with phase event = None

-- only what opens the desk counts
abbrev pub opening_after : Phase → Option Features → Event → Option Features
opening_after phase None event = opening_with phase event
opening_after phase (Some features) event = Some features

-- what the switch said of itself first
abbrev pub opening_of : List Timed → Option Features
opening_of [] = None
opening_of (timed ∷ h) = opening_after (phase_of h) (opening_of h) timed.event

-- the rules that hold on a switch by what it said, in rule order; none before that
abbrev pub rules_of : PolicyView → Option Features → List Rule
rules_of policy None = []
rules_of policy (Some features) = rules_on features.datapath policy.rules

-- the swaps that hold on it, as they stand in the file; none before that
abbrev pub swaps_of : PolicyView → Option Features → List Swap
swaps_of policy None = []
swaps_of policy (Some features) = swaps_on features.datapath policy.swaps

-- ---- known ports

-- the known ports after what was reported of one, if something was
abbrev pub kept_by : Option PortStatus → List (List ℕ) → List (List ℕ)
kept_by told known = elim told [ None ↦ known | Some status ↦ changed status known ]

-- the ports that are known after an event
abbrev pub known_after : Phase → List (List ℕ) → Event → List (List ℕ)
known_after Begun known (SwitchMsg message) = elim (features_told message) [ None ↦ known | Some features ↦ first_known features.ports ]
known_after Opened known (SwitchMsg message) = kept_by (status_told message) known
known_after phase known event = known

-- the ports that the switch reported: those of the opening, and then each change (sections 5.3.1 and 5.4.3)
abbrev pub ports_after : List Timed → List (List ℕ)
ports_after [] = []
ports_after (timed ∷ h) = known_after (phase_of h) (ports_after h) timed.event

-- the change of a port, where there is one and it is kept beside the ports that are known
abbrev pub kept_beside : List (List ℕ) → Option PortStatus → Option PortStatus
kept_beside known None = None
kept_beside known (Some status) = if is_kept status known then Some status else None

-- what a message reports of a port and is kept
abbrev pub status_kept : List (List ℕ) → List ℕ → Option PortStatus
status_kept known message = kept_beside known (status_told message)

-- ---- all that is known of a switch

-- how far its connection is, what it said of itself first, and its ports
pub record KnownSwitch : Type 0 where
  pub phase : Phase
  pub features : Option Features
  pub known : List (List ℕ)

-- each of these after an event
abbrev pub switch_after : KnownSwitch → Event → KnownSwitch
switch_after switch event = record {
  phase = phase_after switch.phase event;
  features = opening_after switch.phase switch.features event;
  known = known_after switch.phase switch.known event;
}

-- what a history says of the switch
abbrev pub switch_of : List Timed → KnownSwitch
switch_of h = record { phase = phase_of h; features = opening_of h; known = ports_after h }
