-- What the definitions say of entries, pages and replies (OpenFlow 1.0.0, section 5.3.5). How replies are cut is this proxy's own rule.
use Rattle.std.specs.Prelude.{◌≡◌, ℕ, ◌+◌, ◌<◌, ◌≤◌, Bool, true, false, List, [], ◌∷◌, ◌++◌, length, map, All, None, Ok}
use Rattle.std.specs.List.{concat, flat_map}
use Rattle.of10_ctl.specs.declared.kind.TheConstants.{STATS_REPLY}
use Rattle.of10_ctl.specs.Heads.{head_of}
use Rattle.of10_ctl.specs.Kinds.{IsOf}
use Rattle.of10_stats.specs.Replies.{IsEntry, entries_begin, entries_behind, entry_size_of, part_of}
use Rattle.stats_filter.specs.Replies.{page_size}

-- ---- entries

-- well-formed entries of a type stand one behind another in front of the bytes, and what is left begins with none
pub record AreInFront (kind : ℕ) (bytes : List ℕ) (entries : List (List ℕ)) : Type 0 where
  pub rest : List ℕ
  pub split : bytes ≡ concat entries ++ rest
  pub each : All (IsEntry kind) entries
  pub ended : entry_size_of kind rest ≡ None

-- ---- pages

-- each of these, entries or pages, has at most the bytes of a page
abbrev pub FitPages : List (List ℕ) → Type 0
FitPages entries = All (λ entry. length entry ≤ page_size) entries

-- behind so many bytes on a page the first of these entries has no place there
abbrev pub HasNoPlace : ℕ → List (List ℕ) → Type 0
HasNoPlace filled [] = ⊥
HasNoPlace filled (entry ∷ later) = page_size < filled + length entry

-- no row of entries but the last has place for the first entry of the next row
abbrev pub AreFull : List (List (List ℕ)) → Type 0
AreFull [] = Unit {0}
AreFull (row ∷ []) = Unit {0}
AreFull (row ∷ next ∷ later) = HasNoPlace (length (concat row)) next × AreFull (next ∷ later)

-- the pages have the entries in their order, in rows of whole ones: at least one row, each of which fits a page, and each but the last as full as can be
pub record ArePages (entries pages : List (List ℕ)) : Type 0 where
  pub rows : List (List (List ℕ))
  pub order : flat_map (λ row. row) rows ≡ entries
  pub joined : map concat rows ≡ pages
  pub some : 1 ≤ length rows
  pub small : FitPages pages
  pub full : AreFull rows

-- ---- replies

-- a reply of a type of statistics under a transaction id with these entries, behind which more replies come or none
pub record IsReplyPage (kind xid : ℕ) (more : Bool) (page reply : List ℕ) : Type 0 where
  pub message : IsOf STATS_REPLY reply
  pub under : (head_of reply).xid ≡ xid
  pub part : part_of reply ≡ Ok (record { kind = kind; more = more; from = entries_begin })
  pub entries : entries_behind reply ≡ page

-- there are some pages
abbrev pub are_some : List (List ℕ) → Bool
are_some [] = false
are_some (page ∷ later) = true

-- there is a reply for each page, and more come where there are later pages
abbrev pub AreReplies : ℕ → ℕ → List (List ℕ) → List (List ℕ) → Type 0
AreReplies kind xid [] [] = Unit {0}
AreReplies kind xid [] (reply ∷ replies) = ⊥
AreReplies kind xid (page ∷ later) [] = ⊥
AreReplies kind xid (page ∷ later) (reply ∷ replies) = IsReplyPage kind xid (are_some later) page reply × AreReplies kind xid later replies
