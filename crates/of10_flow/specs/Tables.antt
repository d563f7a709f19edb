-- Flow tables, what a flow-mod makes of one, and which actions a packet meets in it (OpenFlow 1.0.0, sections 3.4 and 4.6). A table is a list of entries, each of them a match, a priority and actions.
-- What the standard leaves open is this proxy's own rule. A changed entry keeps its place and a new one comes last. A command above 4 changes nothing. The flag EMERG, cookies, counters and timeouts are disregarded. Nothing is said of switches that differ.
use Rattle.std.specs.Prelude.{ℕ, ◌==◌, ◌&&◌, ◌||◌, ◌/◌, ◌%◌, leb, not, Bool, false, if◌then◌else◌, List, [], ◌∷◌, ◌++◌, filter, map}
use Rattle.std.specs.List.{list_any, list_all}
use Rattle.of10_model.specs.declared.pattern.Pattern.{Pattern}
use Rattle.of10_model.specs.Header.{Header}
use Rattle.of10_model.specs.Pattern.{has}
use Rattle.of10_model.specs.Same.{is_same}
use Rattle.of10_model.specs.Normal.{is_exact}
use Rattle.of10_model.specs.Inclusion.{includes_of}
use Rattle.of10_model.specs.Meet.{is_disjoint}
use Rattle.of10_action.specs.declared.action.Action.{Action}
use Rattle.of10_action.specs.declared.action.Action.TheVariants.{Output, SetVlanVid, SetVlanPcp, StripVlan, SetDlSrc, SetDlDst, SetNwSrc, SetNwDst, SetNwTos, SetTpSrc, SetTpDst, Enqueue}
use Rattle.of10_port.specs.declared.protocol.TheConstants.{NONE}
use Rattle.of10_flow.specs.declared.flow_mod.FlowMod.{FlowMod}
use Rattle.of10_flow.specs.declared.protocol.TheConstants.{ADD, MODIFY, MODIFY_STRICT, DELETE, DELETE_STRICT, CHECK_OVERLAP}
use Rattle.of10_flow.specs.declared.flow_entry.FlowEntry.{FlowEntry}

-- ---- the entries that a flow-mod touches

-- an entry has this match and priority, by which a table knows it (section 4.6)
abbrev pub is_entry_of : Pattern → ℕ → FlowEntry → Bool
is_entry_of pattern priority e = e.priority == priority && is_same e.pattern pattern

-- a flow-mod describes an entry: its match includes the entry's, of any priority (section 4.6)
abbrev pub describes : FlowMod → FlowEntry → Bool
describes m e = includes_of m.pattern e.pattern

-- a flow-mod names an entry: the one of its match and priority (section 4.6)
abbrev pub names_entry : FlowMod → FlowEntry → Bool
names_entry m e = is_entry_of m.pattern m.priority e

-- an action outputs to a port: it is an OUTPUT that names the port (section 4.6), or an ENQUEUE that does (this proxy's own rule)
abbrev pub outputs_to : ℕ → Action → Bool
outputs_to port (Output to max_len) = to == port
outputs_to port (SetVlanVid vlan) = false
outputs_to port (SetVlanPcp priority) = false
outputs_to port StripVlan = false
outputs_to port (SetDlSrc address) = false
outputs_to port (SetDlDst address) = false
outputs_to port (SetNwSrc address) = false
outputs_to port (SetNwDst address) = false
outputs_to port (SetNwTos service) = false
outputs_to port (SetTpSrc to) = false
outputs_to port (SetTpDst to) = false
outputs_to port (Enqueue to queue) = to == port

-- an entry outputs as a delete asks: to the delete's out_port, and in any way where that is NONE (sections 4.6 and 5.3.3)
abbrev pub outputs_as_asked : FlowMod → FlowEntry → Bool
outputs_as_asked m e = m.out_port == NONE || list_any (outputs_to m.out_port) e.actions

-- a flow-mod touches an entry: ADD and the strict commands the one that they name, MODIFY and DELETE those that they describe, and the deletes only those that output as asked, which other commands disregard (sections 4.6 and 5.3.3); a command above 4 touches none
abbrev pub touches : FlowMod → FlowEntry → Bool
touches m e =
    if m.command == ADD || m.command == MODIFY_STRICT then names_entry m e
    else if m.command == MODIFY then describes m e
    else if m.command == DELETE then describes m e && outputs_as_asked m e
    else if m.command == DELETE_STRICT then names_entry m e && outputs_as_asked m e
    else false

-- ---- what a flow-mod does

-- a delete, strict or not: the commands from DELETE on (section 5.3.3)
abbrev pub is_delete : FlowMod → Bool
is_delete m = leb DELETE m.command

-- a flag of a flow-mod is set (section 5.3.3)
abbrev pub has_flag : ℕ → FlowMod → Bool
has_flag flag m = m.flags / flag % 2 == 1

-- an entry overlaps a flow-mod: it has its priority and shares a header with it (section 4.6)
abbrev pub overlaps : FlowMod → FlowEntry → Bool
overlaps m e = e.priority == m.priority && not (is_disjoint e.pattern m.pattern)

-- a table refuses a flow-mod: it is an ADD with CHECK_OVERLAP, and an entry overlaps it (section 4.6). A modification that adds is never refused (this proxy's own rule)
abbrev pub refuses : List FlowEntry → FlowMod → Bool
refuses table m = m.command == ADD && has_flag CHECK_OVERLAP m && list_any (overlaps m) table

-- the entry that a flow-mod adds
abbrev pub entry_of : FlowMod → FlowEntry
entry_of m = record { pattern = m.pattern; priority = m.priority; actions = m.actions }

-- an entry after a flow-mod that changes what it touches: it has the flow-mod's actions where it is touched, and else stays
abbrev pub with_actions_of : FlowMod → FlowEntry → FlowEntry
with_actions_of m e = if touches m e then record e { actions = m.actions } else e

-- the table after a flow-mod. A delete takes away what it touches. Another one gives its actions to what it touches, and where it touches nothing its entry comes behind the others: so an ADD replaces the entry of its match and priority, and a modification of nothing adds (section 4.6)
abbrev pub Apply : List FlowEntry → FlowMod → List FlowEntry
Apply table m =
    if refuses table m then table
    else if is_delete m then filter (λ e. not (touches m e)) table
    else if list_any (touches m) table then map (with_actions_of m) table
    else table ++ (entry_of m ∷ [])

-- the table after flow-mods in their order
abbrev pub ApplyAll : List FlowEntry → List FlowMod → List FlowEntry
ApplyAll table [] = table
ApplyAll table (m ∷ rest) = ApplyAll (Apply table m) rest

-- ---- which actions a packet meets

-- an entry whose match has no field free (section 3.4)
abbrev pub is_exact_entry : FlowEntry → Bool
is_exact_entry e = is_exact e.pattern

-- no entry of some has a higher priority than one
abbrev pub is_highest : List FlowEntry → FlowEntry → Bool
is_highest entries e = list_all (λ other. leb other.priority e.priority) entries

-- the entries that have a header, in their order
abbrev pub having : Header → List FlowEntry → List FlowEntry
having h table = filter (λ e. has e.pattern h) table

-- of some entries those that come first: the all-exact ones whatever their priority, and where there is none those of the highest priority (section 3.4)
abbrev pub foremost : List FlowEntry → List FlowEntry
foremost entries = if list_any is_exact_entry entries then filter is_exact_entry entries else filter (is_highest entries) entries

-- the action lists of the entries that a switch may choose for a header: of those that come first it may choose any (section 3.4)
abbrev pub Treatment : List FlowEntry → Header → List (List Action)
Treatment table h = map (λ e. e.actions) (foremost (having h table))
