-- Which entries of the switch's statistics are a slice's (OpenFlow 1.0.0, section 5.3.5). All of this is this proxy's own rule.
use Rattle.std.specs.Prelude.{ℕ, zero, suc, ◌≡◌, ◌==◌, ◌||◌, ◌&&◌, Bool, true, false, if◌then◌else◌, List, [], ◌∷◌, length, take, drop, Some, None}
use Rattle.std.specs.List.{list_any}
use Rattle.of10_model.specs.Inclusion.{includes_of}
use Rattle.of10_model.specs.declared.pattern.Pattern.{Pattern}
use Rattle.of10_stats.specs.declared.protocol.TheConstants as statistics
use Rattle.of10_stats.specs.Replies.{entry_size_of, flow_of, entry_port, IsEntry}
use Rattle.flowspace.specs.declared.rules.Rule.{Rule}
use Rattle.flowspace.specs.Rules.{is_written_by}
use Rattle.flowspace.specs.Owners.{has_port}
use Rattle.xid_map.specs.declared.asked.AskKind.{AskKind}
use Rattle.stats_filter.specs.Asking.{type_sent}

-- ---- entries

-- the entries of a type that begin the bytes, at most as many as the count: each is well formed, and behind the last there is no whole well-formed one
unfoldable pub entries_at : ℕ → ℕ → List ℕ → List (List ℕ)
entries_at zero kind bytes = []
entries_at (suc n) kind bytes = elim (entry_size_of kind bytes) [ None ↦ [] | Some size ↦ take size bytes ∷ entries_at n kind (drop size bytes) ]

-- all entries up to the first that isn't well formed: there are no more of them than bytes, since none is empty
unfoldable pub entries_in : ℕ → List ℕ → List (List ℕ)
entries_in kind bytes = entries_at (length bytes) kind bytes

-- ---- a slice's own

-- a match lies in one of the rules that a slice writes
abbrev pub lies_within : List Rule → ℕ → Pattern → Bool
lies_within rules slot m = list_any (λ rule. is_written_by slot rule && includes_of rule.pattern m) rules

-- an entry of a type is a slice's: a flow whose match lies in one of its write rules, a port or a queue of one of its ports, and what the switch is
unfoldable pub is_own_entry : List Rule → ℕ → ℕ → List ℕ → Bool
is_own_entry rules slot kind entry =
    if kind == statistics.FLOW then lies_within rules slot (flow_of entry).0
    else if kind == statistics.PORT || kind == statistics.QUEUE then has_port rules slot (entry_port entry)
    else true

-- the same of an entry that came for a request of a kind
abbrev pub is_kept_entry : List Rule → ℕ → AskKind → List ℕ → Bool
is_kept_entry rules slot asked entry = elim (type_sent asked) [ None ↦ false | Some kind ↦ is_own_entry rules slot kind entry ]

-- an entry may come for a request of a kind: it is a well-formed one of the type that is sent for it
abbrev pub MayCome : AskKind → List ℕ → Type 0
MayCome asked entry = (kind : ℕ) × (type_sent asked ≡ Some kind) × IsEntry kind entry
