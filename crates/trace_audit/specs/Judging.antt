-- What is first wrong with a message that was sent for a slice, if anything is. All of this is the proxy's own rule.
use Rattle.std.specs.Prelude.{ℕ, ◌==◌, ◌&&◌, ◌||◌, not, ltb, Bool, true, false, if◌then◌else◌, List, [], ◌∷◌, Option, Some, None, option_map}
use Rattle.std.specs.List.{list_any}
use Rattle.of10_model.specs.Header.{Header}
use Rattle.of10_model.specs.Pattern.{has}
use Rattle.of10_model.specs.declared.pattern.Pattern.{Pattern}
use Rattle.of10_action.specs.declared.action.Action.{Action}
use Rattle.of10_action.specs.declared.action.Action.TheVariants.{Output}
use Rattle.of10_port.specs.declared.protocol.TheConstants.{FLOOD, ALL, NONE, CONTROLLER}
use Rattle.of10_flow.specs.declared.protocol.TheConstants.{NO_BUFFER, EMERG}
use Rattle.of10_flow.specs.declared.flow_mod.FlowMod.{FlowMod}
use Rattle.of10_flow.specs.declared.packet_out.PacketOut.{PacketOut}
use Rattle.of10_flow.specs.Tables.{is_delete, has_flag}
use Rattle.frame_header.specs.Probes.{probe_slot_of}
use Rattle.flowspace.specs.declared.rules.Rule.{Rule}
use Rattle.flowspace.specs.Options.{first_some, when}
use Rattle.flowspace.specs.Owners.{has_port}
use Rattle.flowspace.specs.Places.{covers_match, covers_header}
use Rattle.action_check.specs.declared.fault.TheConstants.{BAD_OUT_PORT}
use Rattle.action_check.specs.declared.origin.Origin.{Origin}
use Rattle.action_check.specs.declared.origin.Origin.TheVariants.{Piece, Packet, Probe}
use Rattle.action_check.specs.Permitted.{first_code}
use Rattle.flow_facts.specs.PacketOuts.{carried_header}
use Rattle.of10_model.specs.Normal.{is_value}
use Rattle.trace_audit.specs.declared.why.Why.{Why}
use Rattle.trace_audit.specs.declared.why.Why.TheVariants as why

-- ---- what the slice writes

-- one rule that the slice writes has all of a match
abbrev pub is_written : List Rule → ℕ → Pattern → Bool
is_written rules slot m = list_any (λ rule. covers_match slot true rule m) rules

-- one has a header, by its own port of entry, or by any
abbrev pub is_written_header : List Rule → ℕ → Bool → Header → Bool
is_written_header rules slot by_port h = list_any (λ rule. covers_header slot by_port rule h) rules

-- ---- actions

-- an OUTPUT to FLOOD or ALL, in whose place outputs to single ports are sent
abbrev pub is_flooding : Action → Bool
is_flooding (Output port max_len) = port == FLOOD || port == ALL
is_flooding action = false

-- the code of a list: that of a port where one floods, else that of the first action that is forbidden
abbrev pub action_code : List Rule → ℕ → Origin → List Action → Option ℕ
action_code rules slot origin actions = if list_any is_flooding actions then Some BAD_OUT_PORT else first_code rules slot origin actions

-- ---- flow-mods, where the switch keeps a packet of this header under their number

abbrev pub kind_why : FlowMod → Option Why
kind_why m = when (ltb 4 m.command || has_flag EMERG m) why.Kind

abbrev pub space_why : List Rule → ℕ → FlowMod → Option Why
space_why rules slot m = when (not (is_written rules slot m.pattern)) why.Space

-- the packet is none of the slice's, or not in the match
abbrev pub packet_why : List Rule → ℕ → Pattern → Option Header → Option Why
packet_why rules slot m None = Some why.Buffer
packet_why rules slot m (Some h) = when (not (is_written_header rules slot true h && has m h)) why.Buffer

abbrev pub buffer_why : Option Header → List Rule → ℕ → FlowMod → Option Why
buffer_why held rules slot m = if m.buffer == NO_BUFFER then None else packet_why rules slot m.pattern held

-- a delete's actions are disregarded
abbrev pub action_why : List Rule → ℕ → FlowMod → Option Why
action_why rules slot m = if is_delete m then None else option_map why.Action (action_code rules slot (Piece m.pattern) m.actions)

unfoldable pub flow_mod_why : Option Header → List Rule → ℕ → FlowMod → Option Why
flow_mod_why held rules slot m = first_some (kind_why m ∷ space_why rules slot m ∷ buffer_why held rules slot m ∷ action_why rules slot m ∷ [])

-- ---- packet-outs

-- it bears the slice's mark
abbrev pub is_marked : ℕ → PacketOut → Bool
is_marked slot m = is_value slot (probe_slot_of m.payload)

abbrev pub may_come : List Rule → ℕ → ℕ → Bool
may_come rules slot port = has_port rules slot port || port == NONE || port == CONTROLLER

abbrev pub carried_space_why : List Rule → ℕ → PacketOut → Option Why
carried_space_why rules slot m = when (not (is_marked slot m) && not (is_written_header rules slot false (carried_header m))) why.Space

abbrev pub entry_why : List Rule → ℕ → PacketOut → Option Why
entry_why rules slot m = when (not (may_come rules slot m.in_port)) why.Space

abbrev pub carried_origin : ℕ → PacketOut → Origin
carried_origin slot m = if is_marked slot m then Probe m.in_port else Packet (carried_header m)

abbrev pub carried_why : List Rule → ℕ → PacketOut → Option Why
carried_why rules slot m = first_some (carried_space_why rules slot m ∷ entry_why rules slot m ∷ option_map why.Action (action_code rules slot (carried_origin slot m) m.actions) ∷ [])

abbrev pub held_why : List Rule → ℕ → PacketOut → Option Header → Option Why
held_why rules slot m None = Some why.Buffer
held_why rules slot m (Some h) = first_some (when (not (is_written_header rules slot true h)) why.Buffer ∷ option_map why.Action (action_code rules slot (Packet h) m.actions) ∷ [])

unfoldable pub packet_out_why : Option Header → List Rule → ℕ → PacketOut → Option Why
packet_out_why held rules slot m = if m.buffer == NO_BUFFER then carried_why rules slot m else held_why rules slot m held
