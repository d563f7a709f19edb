-- What the laws of `src/table_laws.rt` speak of: which entries may be chosen for a header, which entries a table has, and, as this proxy's own rule, tables whose entries are pieces of another one's.
use Rattle.std.specs.List.{list_any}
use Rattle.std.specs.Prelude.{◌≡◌, ◌≤◌, ◌⊎◌, ◌↔◌, true, false, List, map, All, AllPairs, Contains}
use Rattle.of10_model.specs.declared.pattern.Pattern.{Pattern}
use Rattle.of10_model.specs.Header.{Header, IsHeader}
use Rattle.of10_model.specs.Pattern.{Has}
use Rattle.of10_model.specs.Normal.{is_exact}
use Rattle.of10_action.specs.declared.action.Action.{Action}
use Rattle.of10_flow.specs.declared.flow_mod.FlowMod.{FlowMod}
use Rattle.of10_flow.specs.declared.protocol.TheConstants.{DELETE_STRICT}
use Rattle.of10_port.specs.declared.protocol.TheConstants.{NONE}
use Rattle.of10_flow.specs.declared.flow_entry.FlowEntry.{FlowEntry}
use Rattle.of10_flow.specs.Tables.{touches, is_delete, entry_of, Apply, Treatment}

-- a flow-mod leaves every table treating a header as before
abbrev pub LeavesTreatment : FlowMod → Header → Type 0
LeavesTreatment m h = (table : List FlowEntry) → Treatment (Apply table m) h ≡ Treatment table h

-- a header is in both of two matches
abbrev pub SharesHeader : Pattern → Pattern → Type 0
SharesHeader a b = (h : Header) × IsHeader h × Has a h × Has b h

-- two entries have one match and one priority, by which a table knows an entry (OpenFlow 1.0.0, section 4.6)
abbrev pub IsSameEntry : FlowEntry → FlowEntry → Type 0
IsSameEntry e other = (e.pattern ≡ other.pattern) × (e.priority ≡ other.priority)

-- a table has at most one entry of each match and priority
abbrev pub HasEachPairOnce : List FlowEntry → Type 0
HasEachPairOnce table = AllPairs (λ e other. IsSameEntry e other → ⊥) table

-- two tables have the same action lists in their treatments of a header, repeats disregarded
abbrev pub HaveSameLists : List FlowEntry → List FlowEntry → Header → Type 0
HaveSameLists table other h = (actions : List Action) → Contains (Treatment table h) actions ↔ Contains (Treatment other h) actions

-- an entry is no lower than another: it is all-exact, or the other isn't and has no higher priority (OpenFlow 1.0.0, section 3.4)
abbrev pub IsNoLower : FlowEntry → FlowEntry → Type 0
IsNoLower e other = (is_exact e.pattern ≡ true) ⊎ ((is_exact other.pattern ≡ true → ⊥) × (other.priority ≤ e.priority))

-- an entry of the table may be chosen for a header: it has it, and is no lower than any other that has it (OpenFlow 1.0.0, section 3.4)
pub record MayBeChosen (table : List FlowEntry) (h : Header) (e : FlowEntry) : Type 0 where
  pub is_there : Contains table e
  pub has_header : Has e.pattern h
  pub is_first : All (λ other. Has other.pattern h → IsNoLower e other) table

-- a flow-mod takes away the entry of its match and priority, whatever that outputs to (OpenFlow 1.0.0, sections 4.6 and 5.3.3)
pub record Cleans (m : FlowMod) : Type 0 where
  pub command : m.command ≡ DELETE_STRICT
  pub out_port : m.out_port ≡ NONE

-- a piece of an entry, as an entry
abbrev pub piece_entry : FlowEntry → Pattern → FlowEntry
piece_entry e piece = record e { pattern = piece }

-- at a header, a table's entries are the pieces of another one's, up to order and repeats. Each piece has the priority and the actions of its entry. An entry has the header where one of its pieces has it, and the pieces that have it are all-exact as their entry is
pub record IsSplit (whole : List FlowEntry) (pieces : FlowEntry → List Pattern) (split : List FlowEntry) (h : Header) : Type 0 where
  pub entries : (x : FlowEntry) → Contains split x ↔ ((e : FlowEntry) × (piece : Pattern) × Contains whole e × Contains (pieces e) piece × (x ≡ piece_entry e piece))
  pub covered : (e : FlowEntry) → Contains whole e → Has e.pattern h ↔ ((piece : Pattern) × Contains (pieces e) piece × Has piece h)
  pub exact : (e : FlowEntry) (piece : Pattern) → Contains whole e → Contains (pieces e) piece → Has piece h → is_exact piece ≡ is_exact e.pattern

-- up to order and repeats, the entries of a table are the pieces of another one's, each with the priority and the actions of its entry
abbrev pub IsSplitTable : (Pattern → List Pattern) → List FlowEntry → List FlowEntry → Type 0
IsSplitTable pieces whole split = (x : FlowEntry) → Contains split x ↔ ((e : FlowEntry) × (piece : Pattern) × Contains whole e × Contains (pieces e.pattern) piece × (x ≡ piece_entry e piece))

-- a flow-mod is a delete
abbrev pub Deletes : FlowMod → Type 0
Deletes m = is_delete m ≡ true

-- a flow-mod puts these actions: it is no delete, and asks for no check of overlaps
pub record Puts (actions : List Action) (m : FlowMod) : Type 0 where
  pub puts : is_delete m ≡ false
  pub unchecked : m.flags ≡ 1
  pub of_actions : m.actions ≡ actions

-- flow-mods touch the pieces of the entries that one touches, and no other pieces
abbrev pub TouchAlike : (Pattern → List Pattern) → List FlowEntry → FlowMod → List FlowMod → Type 0
TouchAlike pieces whole m ms = (e : FlowEntry) (piece : Pattern) → Contains whole e → Contains (pieces e.pattern) piece → touches m e ≡ list_any (λ sent. touches sent (piece_entry e piece)) ms

-- what flow-mods do to the pieces of a table's entries where one flow-mod changes the table. If the one is a delete, they all are deletes. Otherwise all put the actions of the one. If the one touches an entry, each of them touches a piece. If the one touches none, each of them touches none, and not what an earlier one adds, and together they add the pieces of the one's match
pub data FollowsByPieces (pieces : Pattern → List Pattern) (whole split : List FlowEntry) (m : FlowMod) (ms : List FlowMod) : Type 0 where
  Delete : Deletes m → All Deletes ms → FollowsByPieces pieces whole split m ms
  Change : Puts m.actions m → All (Puts m.actions) ms → list_any (touches m) whole ≡ true → All (λ sent. list_any (touches sent) split ≡ true) ms → FollowsByPieces pieces whole split m ms
  Add : Puts m.actions m → All (Puts m.actions) ms → list_any (touches m) whole ≡ false → All (λ sent. list_any (touches sent) split ≡ false) ms → AllPairs (λ sent later. touches later (entry_of sent) ≡ false) ms
      → ((x : FlowEntry) → Contains (map entry_of ms) x ↔ ((piece : Pattern) × Contains (pieces m.pattern) piece × (x ≡ piece_entry (entry_of m) piece))) → FollowsByPieces pieces whole split m ms
