-- What may come for a request, by the kind of the request.
use Rattle.std.proofs.Common.{◌≡◌, ℕ, ◌≤◌, List, [], ◌∷◌, length, take, Some, refl, sym, subst, ◌∙◌, arith}
use Rattle.std.specs.Prelude.{All}
use Rattle.std.specs.List.{concat}
use Rattle.std.proofs.lemmas.List.{length-append}
use Rattle.std.proofs.lemmas.List.Elements.{All-nil, All-cons}
use Rattle.of10_stats.specs.Replies.{IsEntry, entry_size_of}
use Rattle.of10_stats.proofs.Sizes.{entry_there}
use Rattle.flowspace.specs.declared.rules.Rule.{Rule}
use Rattle.xid_map.specs.declared.asked.AskKind.{AskKind}
use Rattle.xid_map.specs.declared.asked.AskKind.TheVariants as kinds
use Rattle.stats_filter.specs.Asking.{type_sent}
use Rattle.stats_filter.specs.Keeping.{entries_in, is_own_entry, is_kept_entry, MayCome}
use Rattle.stats_filter.specs.Replies.{page_size}
use Rattle.stats_filter.specs.Laws.{FitPages}
use Rattle.stats_filter.proofs.Rows.{AreInFront-entries_in, bytes_of_entries}

-- ---- the type

-- a type that is sent for is one of the standard's
pub known_type : (asked : AskKind) (kind : ℕ) → type_sent asked ≡ Some kind → kind ≤ 5
known_type kinds.FlowMod kind e = absurd (cc)
known_type kinds.PacketOut kind e = absurd (cc)
known_type kinds.Barrier kind e = absurd (cc)
known_type kinds.QueueConfig kind e = absurd (cc)
known_type kinds.Desc kind e = let is : kind ≡ 0 = cc in omega (arith, is)
known_type kinds.Flow kind e = let is : kind ≡ 1 = cc in omega (arith, is)
known_type kinds.Aggregate kind e = let is : kind ≡ 1 = cc in omega (arith, is)
known_type kinds.Port kind e = let is : kind ≡ 4 = cc in omega (arith, is)
known_type kinds.Queue kind e = let is : kind ≡ 5 = cc in omega (arith, is)

-- what is kept of a type that is sent for is what is a slice's own
pub is_kept-type_sent : (rules : List Rule) (slot : ℕ) (asked : AskKind) (kind : ℕ) (entry : List ℕ) → type_sent asked ≡ Some kind → is_kept_entry rules slot asked entry ≡ is_own_entry rules slot kind entry
is_kept-type_sent rules slot asked kind entry e = rw (e, is_kept_entry) refl

-- ---- entries of a reply

-- what may come is an entry of the type that is sent for
pub may_come_entry : (asked : AskKind) (kind : ℕ) (entry : List ℕ) → type_sent asked ≡ Some kind → MayCome asked entry → IsEntry kind entry
may_come_entry asked kind entry sent may =
    let both : Some may.0 ≡ Some kind = sym may.1 ∙ sent in
    let same : may.0 ≡ kind = cc in
    subst (λ k. IsEntry k entry) same may.2

-- the entry that begins bytes may come
pub first_may_come : (asked : AskKind) (kind size : ℕ) (bytes : List ℕ) → type_sent asked ≡ Some kind → entry_size_of kind bytes ≡ Some size → MayCome asked (take size bytes)
first_may_come asked kind size bytes sent e = (kind, sent, (entry_there kind size bytes e).1)

-- and so may each that is found in them
pub entries_may_come : (asked : AskKind) (kind : ℕ) (bytes : List ℕ) → type_sent asked ≡ Some kind → All (MayCome asked) (entries_in kind bytes)
entries_may_come asked kind bytes sent = λ k d lt. (kind, sent, (AreInFront-entries_in kind bytes).each k d lt)

-- each entry of a row is no longer than the row
small_row : (entries : List (List ℕ)) (most : ℕ) → length (concat entries) ≤ most → All (λ entry. length entry ≤ most) entries
small_row [] most le = All-nil (λ (entry : List ℕ). length entry ≤ most)
small_row (entry ∷ later) most le =
    let both = length-append entry (concat later) in
    All-cons (λ (e : List ℕ). length e ≤ most) entry later (omega (arith, both)) (small_row later most (omega (arith, both)))

-- what came in one message fits a page
pub small_entries : (kind : ℕ) (bytes : List ℕ) → length bytes ≤ page_size → FitPages (entries_in kind bytes)
small_entries kind bytes fits = let within = bytes_of_entries kind bytes in small_row (entries_in kind bytes) page_size (omega arith)
