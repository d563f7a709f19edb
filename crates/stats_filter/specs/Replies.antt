-- The statistics that a slice gets (OpenFlow 1.0.0, section 5.3.5). How they are cut into replies, and what its table is, is this proxy's own rule.
use Rattle.std.specs.Prelude.{ℕ, ◌+◌, leb, Bool, true, false, if◌then◌else◌, List, [], ◌∷◌, ◌++◌, length, Some, None, codes}
use Rattle.byteorder.specs.Endian.{big_bytes}
use Rattle.of10_action.specs.Actions.{padding}
use Rattle.of10_ctl.specs.declared.kind.TheConstants.{STATS_REPLY}
use Rattle.of10_ctl.specs.Frames.{message_of}
use Rattle.of10_stats.specs.declared.protocol.TheConstants as statistics
use Rattle.xid_map.specs.declared.asked.AskKind.{AskKind}
use Rattle.stats_filter.specs.Asking.{type_sent}
use Rattle.stats_filter.specs.Keeping.{entries_in}

-- ---- pages

-- the bytes of entries that one reply may have: 65,535 less its head of 12
abbrev pub page_size : ℕ
page_size = 65523

-- entries behind so many bytes of a page: those that the page still takes, and the pages after it. An entry goes where the one before it stands, or where it doesn't fit there begins a page
unfoldable pub paged : ℕ → List (List ℕ) → List ℕ × List (List ℕ)
paged filled [] = ([], [])
paged filled (entry ∷ later) =
    if leb (filled + length entry) page_size
    then (entry ++ (paged (filled + length entry) later).0, (paged (filled + length entry) later).1)
    else ([], (entry ++ (paged (length entry) later).0) ∷ (paged (length entry) later).1)

-- whole entries in their order, as many on each page as fit; one page at least
abbrev pub pages : List (List ℕ) → List (List ℕ)
pages entries = (paged 0 entries).0 ∷ (paged 0 entries).1

-- the pages of the entries behind a page: none where there are no more
abbrev pub later_pages : List (List ℕ) → List (List ℕ)
later_pages [] = []
later_pages (entry ∷ later) = pages (entry ∷ later)

-- ---- replies

-- a reply of a type of statistics, and whether more follow
abbrev pub reply_with : ℕ → Bool → ℕ → List ℕ → List ℕ
reply_with kind more xid body = message_of STATS_REPLY xid (big_bytes 2 kind ++ big_bytes 2 (if more then 1 else 0) ++ body)

-- one for each page, of which more follow behind all but the last
abbrev pub replies_with : ℕ → ℕ → List (List ℕ) → List (List ℕ)
replies_with kind xid [] = []
replies_with kind xid (page ∷ []) = reply_with kind false xid page ∷ []
replies_with kind xid (page ∷ next ∷ later) = reply_with kind true xid page ∷ replies_with kind xid (next ∷ later)

-- the replies with the entries of a type, which stand one behind another
unfoldable pub replies_of : ℕ → List ℕ → ℕ → List (List ℕ)
replies_of kind entries xid = replies_with kind xid (pages (entries_in kind entries))

-- the same for a request of a kind
abbrev pub replies_for : AskKind → List ℕ → ℕ → List (List ℕ)
replies_for asked entries xid = elim (type_sent asked) [ None ↦ [] | Some kind ↦ replies_of kind entries xid ]

-- the reply with sums of packets, bytes and flows
unfoldable pub sum_reply : ℕ → ℕ → ℕ → ℕ → List ℕ
sum_reply packets bytes flows xid = reply_with statistics.AGGREGATE false xid (big_bytes 8 packets ++ big_bytes 8 bytes ++ big_bytes 4 flows ++ padding 4)

-- the one table that a slice has: number 0, its name in 32 bytes, matches with any wildcards, as many entries as the quota, so many of them in use, and no look-ups counted
abbrev pub table_entry : ℕ → ℕ → List ℕ
table_entry active quota =
    padding 4 ++ codes "flowvisor" ++ padding 23 ++ big_bytes 4 0x003fffff ++ big_bytes 4 quota ++ big_bytes 4 active ++ padding 16

-- the reply with it
unfoldable pub table_reply : ℕ → ℕ → ℕ → List ℕ
table_reply active quota xid = reply_with statistics.TABLE false xid (table_entry active quota)
