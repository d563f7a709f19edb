-- What entries of statistics make of what a request collects (OpenFlow 1.0.0, section 5.3.5; how they are collected is this proxy's own rule). Lists of calls have the newest first.
use Rattle.std.specs.Prelude.{ℕ, ◌+◌, ◌-◌, ◌%◌, ◌^◌, leb, if◌then◌else◌, List, [], ◌∷◌, ◌++◌, length, None, Some}
use Rattle.of10_stats.specs.Replies.{flow_of}
use Rattle.xid_map.specs.declared.asked.AskKind.{AskKind}
use Rattle.xid_map.specs.Collections.{CollectionCall, Gathered}
use Rattle.stats_filter.specs.Asking.{type_sent}
use Rattle.stats_filter.specs.Keeping.{entries_in}
use Rattle.stats_filter.specs.Replies.{sum_reply}
use Rattle.slice_words.specs.Statistics.{entry_call}

-- the calls of entries that come one after another for a request of a kind and number, after earlier calls
abbrev pub entry_calls : AskKind → ℕ → List (List ℕ) → List CollectionCall → List CollectionCall
entry_calls kind number [] before = before
entry_calls kind number (entry ∷ later) before = entry_calls kind number later (entry_call kind number entry ∷ before)

-- the same of entries of the request's type that stand one behind another
abbrev pub calls_with : AskKind → ℕ → List ℕ → List CollectionCall → List CollectionCall
calls_with kind number entries before = elim (type_sent kind) [ None ↦ before | Some sent ↦ entry_calls kind number (entries_in sent entries) before ]

-- of entries those in front of the first that is too long for the room which those before it leave, one behind another
abbrev pub kept_within : ℕ → List (List ℕ) → List ℕ
kept_within room [] = []
kept_within room (entry ∷ later) = if leb (length entry) room then entry ++ kept_within (room - length entry) later else []

-- what a request has collected, with such of these entries more
abbrev pub with_kept : List (List ℕ) → Gathered → List ℕ
with_kept entries g = g.entries ++ kept_within g.room entries

-- sums of packets, bytes and flows with one flow more
abbrev pub with_flow : List ℕ → ℕ × ℕ × ℕ → ℕ × ℕ × ℕ
with_flow entry sums = ((sums.0 + (flow_of entry).1) % 2 ^ 64, (sums.1 + (flow_of entry).2) % 2 ^ 64, (sums.2 + 1) % 2 ^ 32)

-- and with more flows
abbrev pub with_flows : List (List ℕ) → ℕ × ℕ × ℕ → ℕ × ℕ × ℕ
with_flows [] sums = sums
with_flows (entry ∷ later) sums = with_flows later (with_flow entry sums)

-- the sums that a request has collected
abbrev pub sums_in : Gathered → ℕ × ℕ × ℕ
sums_in g = (g.packets, g.bytes, g.flows)

-- the reply with sums
abbrev pub sums_told : ℕ × ℕ × ℕ → ℕ → List (List ℕ)
sums_told sums xid = sum_reply sums.0 sums.1 sums.2 xid ∷ []
