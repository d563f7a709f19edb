-- What a request for statistics has gathered, and what the slice is sent of it, in words of its view. Views have the newest item first, and entries stand here with the oldest first. All of this is this proxy's own rule.
use Rattle.std.specs.Prelude.{ℕ, ◌≡◌, ◌≤◌, ◌<◌, ◌%◌, ◌^◌, ◌==◌, ◌&&◌, Bool, false, if◌then◌else◌, List, [], ◌∷◌, ◌++◌, length, take, sum_by, Some}
use Rattle.std.specs.List.{concat}
use Rattle.std.specs.Option.{option_map_or}
use Rattle.of10_model.specs.Normal.{is_value}
use Rattle.of10_stats.specs.Replies.{flow_of}
use Rattle.xid_map.specs.declared.asked.AskKind.{AskKind}
use Rattle.xid_map.specs.declared.asked.AskKind.TheVariants as kinds
use Rattle.xid_map.specs.declared.asked.Issued.{Issued}
use Rattle.xid_map.specs.Collections.{Gathered, gathered}
use Rattle.stats_filter.specs.Asking.{type_sent}
use Rattle.slice_words.specs.Items.{Settings, Item, Entry}
use Rattle.slice_words.specs.Statistics.{collected_replies}
use Rattle.slice_words.specs.Calls.{collection_calls}
use Rattle.slice_words.specs.Standing.{past_of}
use Rattle.view_laws.specs.Requests.{remembered_for, IsRemembered}
use Rattle.view_laws.specs.Collecting.{Collects}

-- ---- what the answers go by

-- what the request of a number has gathered after a view
abbrev pub gathered_after : Settings → ℕ → List Item → Gathered
gathered_after s number view = gathered number (collection_calls s (past_of s view))

-- ---- which entries come for a request

-- the request that is remembered for the low 24 bits of a transaction id has this number
abbrev pub is_for : Settings → ℕ → ℕ → List Item → Bool
is_for s x number view = option_map_or (λ request. request.number == number) (remembered_for s view x) false

-- what an item after a view brings for the request of a number, which asked so: an entry that comes for it, of the type of statistics that is sent for what it asked
abbrev pub entry_for : Settings → ℕ → AskKind → List Item → Item → List (List ℕ)
entry_for s number asked view (Entry x kind bytes) = if is_value kind (type_sent asked) && is_for s x number view then bytes ∷ [] else []
entry_for s number asked view item = []

-- all the entries of a view that come for it
abbrev pub entries_for : Settings → ℕ → AskKind → List Item → List (List ℕ)
entries_for s number asked [] = []
entries_for s number asked (item ∷ view) = entries_for s number asked view ++ entry_for s number asked view item

-- ---- what is gathered of entries

-- the bytes are those of so many of the entries, from the oldest on, and are within 524,288; with any more entries there are more bytes than that
pub record IsLongestPrefix (entries : List (List ℕ)) (bytes : List ℕ) : Type 0 where
  pub count : ℕ
  pub some : count ≤ length entries
  pub is_prefix : bytes ≡ concat (take count entries)
  pub within : length bytes ≤ 524288
  pub longest : (more : ℕ) → count < more → more ≤ length entries → 524288 < length (concat (take more entries))

-- what is gathered of the entries for a request that asked so: for a sum of flows the sums of their packets and bytes modulo 2^64 and their number modulo 2^32, else their longest prefix
abbrev pub IsGatheredOf : AskKind → List (List ℕ) → Gathered → Type 0
IsGatheredOf kinds.Aggregate entries g =
    (g.packets ≡ sum_by (λ entry. (flow_of entry).1) entries % 2 ^ 64)
    × (g.bytes ≡ sum_by (λ entry. (flow_of entry).2) entries % 2 ^ 64)
    × (g.flows ≡ length entries % 2 ^ 32)
IsGatheredOf asked entries g = IsLongestPrefix entries g.entries

-- ---- what the slice is sent

-- after a view this request is remembered for the low 24 bits of a transaction id, it collects, and it was sent as one for a type of statistics
abbrev pub CollectsFor : Settings → ℕ → ℕ → Issued → List Item → Type 0
CollectsFor s x kind request view = IsRemembered s view x request × Collects s request.number view × (type_sent request.asked.kind ≡ Some kind)

-- the messages are the replies with what is gathered of the entries, under a transaction id
abbrev pub AreRepliesOver : AskKind → List (List ℕ) → ℕ → List (List ℕ) → Type 0
AreRepliesOver asked entries xid messages = (g : Gathered) × IsGatheredOf asked entries g × (messages ≡ collected_replies asked g xid)
