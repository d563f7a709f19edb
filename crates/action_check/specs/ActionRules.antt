-- Which actions are forbidden, for the image of what they are applied to. This is the proxy's own rule; numbers of ports and codes of errors are the standard's (OpenFlow 1.0.0, sections 5.2.1 and 5.4.4).
use Rattle.std.specs.Prelude.{ℕ, ◌==◌, ◌&&◌, ◌||◌, not, leb, if◌then◌else◌, Bool, true, List, Option, Some, None, slice_get, false}
use Rattle.std.specs.List.{list_any}
use Rattle.of10_model.specs.declared.pattern.Pattern.{Pattern}
use Rattle.of10_model.specs.Pattern.{has}
use Rattle.of10_model.specs.Inclusion.{includes_of}
use Rattle.of10_action.specs.declared.action.Action.{Action}
use Rattle.of10_action.specs.declared.action.Action.TheVariants.{Output, SetVlanVid, SetVlanPcp, Enqueue}
use Rattle.of10_port.specs.declared.protocol.TheConstants.{IN_PORT, TABLE, FLOOD, ALL, CONTROLLER}
use Rattle.flowspace.specs.declared.rules.Rule.{Rule}
use Rattle.flowspace.specs.Rules.{is_written_by}
use Rattle.flowspace.specs.Owners.{has_port}
use Rattle.flowspace.specs.Places.{counted}
use Rattle.action_check.specs.declared.fault.TheConstants.{BAD_OUT_PORT, BAD_ARGUMENT, NOT_PERMITTED}
use Rattle.action_check.specs.declared.origin.Origin.{Origin}
use Rattle.action_check.specs.declared.origin.Origin.TheVariants.{Piece, Packet, Probe}
use Rattle.action_check.specs.Origins.{is_packet_out}

-- ---- arguments

-- a VLAN number has 12 bits, and a priority three
abbrev pub argument_fits : Action → Bool
argument_fits (SetVlanVid vlan) = leb vlan 4095
argument_fits (SetVlanPcp priority) = leb priority 7
argument_fits _ = true

-- ---- ports

-- OUTPUT and ENQUEUE send to a port
abbrev pub port_sent_to : Action → Option ℕ
port_sent_to (Output port max_len) = Some port
port_sent_to (Enqueue port queue) = Some port
port_sent_to _ = None

-- a packet that is sent may go back to where it came in if that is a port of the slice; a flow's packets always may
abbrev pub has_way_back : List Rule → ℕ → Origin → Bool
has_way_back rules slot (Piece m) = true
has_way_back rules slot (Packet h) = has_port rules slot h.in_port
has_way_back rules slot (Probe in_port) = has_port rules slot in_port

-- OUTPUT and ENQUEUE go to a port of the slice, and to IN_PORT
abbrev pub is_own_way : List Rule → ℕ → Origin → ℕ → Bool
is_own_way rules slot image port = has_port rules slot port || (port == IN_PORT && has_way_back rules slot image)

-- OUTPUT also goes to CONTROLLER, FLOOD and ALL, and in a packet-out to TABLE
abbrev pub is_other_way : Origin → ℕ → Bool
is_other_way image port = port == CONTROLLER || port == FLOOD || port == ALL || (port == TABLE && is_packet_out image)

-- an action sends nowhere else
abbrev pub has_way : List Rule → ℕ → Origin → Action → Bool
has_way rules slot image (Output port max_len) = is_own_way rules slot image port || is_other_way image port
has_way rules slot image (Enqueue port queue) = is_own_way rules slot image port
has_way rules slot image _ = true

-- ---- images

-- CONTROLLER and TABLE see where a packet came in
abbrev pub sees_in_port : ℕ → Bool
sees_in_port port = port == CONTROLLER || port == TABLE

-- what a match says of packets to a port: in_port is disregarded but for CONTROLLER and TABLE
abbrev pub counted_at : ℕ → Pattern → Pattern
counted_at port m = counted (sees_in_port port) m

-- a rule stands at a place and passes a test
abbrev pub passes_at : (Rule → Bool) → List Rule → ℕ → Bool
passes_at test rules place = elim (slice_get rules place) [ None ↦ false | Some rule ↦ test rule ]

-- one write rule of the slice has all of the cover, or the packet's header; a probe isn't tested
abbrev pub may_go : List Rule → ℕ → Origin → ℕ → Bool
may_go rules slot (Piece cover) port = list_any (λ rule. is_written_by slot rule && includes_of (counted_at port rule.pattern) cover) rules
may_go rules slot (Packet h) port = list_any (λ rule. is_written_by slot rule && has (counted_at port rule.pattern) h) rules
may_go rules slot (Probe in_port) port = true

-- so it is at each OUTPUT and ENQUEUE
abbrev pub is_covered : List Rule → ℕ → Origin → Action → Bool
is_covered rules slot image action = elim (port_sent_to action) [ None ↦ true | Some port ↦ may_go rules slot image port ]

-- ---- probes, and all rules in their order

-- a probe is only sent, which is NOT_PERMITTED otherwise, and neither to CONTROLLER nor to TABLE, which is BAD_OUT_PORT
abbrev pub probe_code : Origin → Action → Option ℕ
probe_code (Piece m) action = None
probe_code (Packet h) action = None
probe_code (Probe in_port) action = elim (port_sent_to action) [ None ↦ Some NOT_PERMITTED | Some port ↦ if sees_in_port port then Some BAD_OUT_PORT else None ]

-- the code of the first rule that an action breaks, of those in this order: its argument, its way, its cover, and those of probes
unfoldable pub code_of : List Rule → ℕ → Origin → Action → Option ℕ
code_of rules slot image action =
    if not (argument_fits action) then Some BAD_ARGUMENT
    else if not (has_way rules slot image action) then Some BAD_OUT_PORT
    else if not (is_covered rules slot image action) then Some NOT_PERMITTED
    else probe_code image action
