-- What is read of replies, and how many bytes they have.
use Rattle.std.proofs.Common.{◌≡◌, ℕ, ◌+◌, ◌*◌, ◌<◌, ◌≤◌, ◌^◌, Bool, true, false, if◌then◌else◌, List, [], ◌∷◌, ◌++◌, length, map, drop, Option, Some, None, Ok, refl, sym, ap, ap₂, subst, ◌∙◌, arith, inl, inr}
use Rattle.std.specs.Prelude.{All, sum_by}
use Rattle.std.specs.List.{concat, flat_map}
use Rattle.std.proofs.lemmas.Bool.{le-ltb, cases_lt}
use Rattle.std.proofs.lemmas.List.{length-append}
use Rattle.std.proofs.lemmas.List.Elements.{All-nil, All-cons, All-head, All-tail}
use Rattle.std.proofs.lemmas.List.Folds.{concat-append}
use Rattle.std.proofs.lemmas.List.Sums.{sum_by-cons}
use Rattle.byteorder.specs.Endian.{big_bytes}
use Rattle.byteorder.specs.Numbers.{big_number-reads_back}
use Rattle.of10_model.specs.Normal.{number_at}
use Rattle.of10_ctl.specs.declared.kind.TheConstants.{STATS_REPLY}
use Rattle.of10_ctl.proofs.Reading.{IsOf-message}
use Rattle.of10_stats.specs.Replies.{IsEntry, part_of}
use Rattle.xid_map.specs.declared.asked.AskKind.{AskKind}
use Rattle.stats_filter.specs.Asking.{type_sent}
use Rattle.stats_filter.specs.Keeping.{entries_in}
use Rattle.stats_filter.specs.Replies.{page_size, paged, pages, reply_with, replies_with, replies_of, replies_for}
use Rattle.stats_filter.specs.Laws.{FitPages, IsReplyPage, AreReplies}
use Rattle.stats_filter.proofs.Rows.{AreInFront-entries_in, bytes_of_entries, count_of_entries, entries_in-concat}
use Rattle.stats_filter.proofs.Paging.{placed_none, placed_here, placed_next, replies_for-type_sent}
use Rattle.stats_filter.proofs.Packing.{rows_of, ArePages-pages}

-- ---- one reply

part-reply : (kind xid : ℕ) (more : Bool) (page : List ℕ) → kind < 2 ^ 16 → part_of (reply_with kind more xid page) ≡ Ok (record { kind = kind; more = more; from = 12 })
unfolding part_of
part-reply kind xid true page fits =
    let bytes = reply_with kind true xid page in
    let is : number_at bytes 8 2 ≡ kind = big_number-reads_back 2 kind (big_bytes 2 1 ++ page) fits in
    rw (le-ltb (length bytes) 12 (omega arith), is) refl
part-reply kind xid false page fits =
    let bytes = reply_with kind false xid page in
    let is : number_at bytes 8 2 ≡ kind = big_number-reads_back 2 kind (big_bytes 2 0 ++ page) fits in
    rw (le-ltb (length bytes) 12 (omega arith), is) refl

pub IsReply-reply : (kind xid : ℕ) (more : Bool) (page : List ℕ) → kind < 2 ^ 16 → xid < 2 ^ 32 → length page ≤ page_size → IsReplyPage kind xid more page (reply_with kind more xid page)
IsReply-reply kind xid more page kind_fits xid_fits small =
    let flags = big_bytes 2 (if more then 1 else 0) in
    record {
      message = IsOf-message STATS_REPLY xid (big_bytes 2 kind ++ flags ++ page) (omega arith);
      under = big_number-reads_back 4 xid (big_bytes 2 kind ++ flags ++ page) xid_fits;
      part = part-reply kind xid more page kind_fits;
      entries = refl;
    }

-- ---- a reply for each page

pub AreReplies-replies : (kind xid : ℕ) (ps : List (List ℕ)) → kind < 2 ^ 16 → xid < 2 ^ 32 → FitPages ps → AreReplies kind xid ps (replies_with kind xid ps)
AreReplies-replies kind xid [] kind_fits xid_fits small = tt
AreReplies-replies kind xid (page ∷ []) kind_fits xid_fits small = (IsReply-reply kind xid false page kind_fits xid_fits (All-head (λ (p : List ℕ). length p ≤ page_size) page [] small), tt)
AreReplies-replies kind xid (page ∷ next ∷ later) kind_fits xid_fits small = (
  IsReply-reply kind xid true page kind_fits xid_fits (All-head (λ (p : List ℕ). length p ≤ page_size) page (next ∷ later) small),
  AreReplies-replies kind xid (next ∷ later) kind_fits xid_fits (All-tail (λ (p : List ℕ). length p ≤ page_size) page (next ∷ later) small),
)

pub replies-pages : (kind xid : ℕ) (bytes : List ℕ) → kind < 2 ^ 16 → xid < 2 ^ 32 → FitPages (entries_in kind bytes) → AreReplies kind xid (pages (entries_in kind bytes)) (replies_of kind bytes xid)
unfolding replies_of
replies-pages kind xid bytes kind_fits xid_fits small =
    AreReplies-replies kind xid (pages (entries_in kind bytes)) kind_fits xid_fits (ArePages-pages (entries_in kind bytes) small).small

-- ---- the entries are read again

-- what stands behind the heads of the replies are the pages
bodies : (kind xid : ℕ) (ps : List (List ℕ)) → map (drop 12) (replies_with kind xid ps) ≡ ps
bodies kind xid [] = refl
bodies kind xid (page ∷ []) = refl
bodies kind xid (page ∷ next ∷ later) = ap (λ ps. page ∷ ps) (bodies kind xid (next ∷ later))

All-parts : {A : Type 0} (P : A → Type 0) (xs ys : List A) → All P (xs ++ ys) → All P xs × All P ys
All-parts P [] ys all = (All-nil P, all)
All-parts P (x ∷ xs) ys all =
    let both = All-parts P xs ys (All-tail P x (xs ++ ys) all) in
    (All-cons P x xs (All-head P x (xs ++ ys) all) both.0, both.1)

-- the pages of entries have them in their rows
found_in_rows : (kind : ℕ) (rows : List (List (List ℕ))) → All (IsEntry kind) (flat_map (λ row. row) rows) → flat_map (entries_in kind) (map concat rows) ≡ flat_map (λ row. row) rows
found_in_rows kind [] each = refl
found_in_rows kind (row ∷ later) each =
    let both = All-parts (IsEntry kind) row (flat_map (λ next. next) later) each in
    ap₂ (λ (a b : List (List ℕ)). a ++ b) (entries_in-concat kind row both.0) (found_in_rows kind later both.1)

found_in_pages : (kind : ℕ) (entries : List (List ℕ)) → All (IsEntry kind) entries → flat_map (entries_in kind) (pages entries) ≡ entries
found_in_pages kind entries each =
    let rows = rows_of 0 entries in
    let joined : map concat (rows.row ∷ rows.later) ≡ pages entries = ap₂ (λ (a : List ℕ) (b : List (List ℕ)). a ∷ b) rows.here rows.behind in
    ap (flat_map (entries_in kind)) (sym joined)
    ∙ found_in_rows kind (rows.row ∷ rows.later) (subst (All (IsEntry kind)) (sym rows.order) each)
    ∙ rows.order

found_in_bodies : (kind : ℕ) (rs : List (List ℕ)) → flat_map (λ reply. entries_in kind (drop 12 reply)) rs ≡ flat_map (entries_in kind) (map (drop 12) rs)
found_in_bodies kind [] = refl
found_in_bodies kind (reply ∷ rs) = ap (λ later. entries_in kind (drop 12 reply) ++ later) (found_in_bodies kind rs)

pub replies-entries : (kind xid : ℕ) (bytes : List ℕ) → flat_map (λ reply. entries_in kind (drop 12 reply)) (replies_of kind bytes xid) ≡ entries_in kind bytes
unfolding replies_of
replies-entries kind xid bytes =
    found_in_bodies kind (replies_with kind xid (pages (entries_in kind bytes)))
    ∙ ap (flat_map (entries_in kind)) (bodies kind xid (pages (entries_in kind bytes)))
    ∙ found_in_pages kind (entries_in kind bytes) (AreInFront-entries_in kind bytes).each

-- ---- how many, and how long

short_replies : (kind xid : ℕ) (ps : List (List ℕ)) → FitPages ps → All (λ reply. length reply ≤ 65535) (replies_with kind xid ps)
short_replies kind xid [] small = All-nil (λ (reply : List ℕ). length reply ≤ 65535)
short_replies kind xid (page ∷ []) small =
    let first = All-head (λ (p : List ℕ). length p ≤ page_size) page [] small in
    All-cons (λ (reply : List ℕ). length reply ≤ 65535) (reply_with kind false xid page) [] (omega (arith, first)) (All-nil (λ (reply : List ℕ). length reply ≤ 65535))
short_replies kind xid (page ∷ next ∷ later) small =
    let first = All-head (λ (p : List ℕ). length p ≤ page_size) page (next ∷ later) small in
    All-cons (λ (reply : List ℕ). length reply ≤ 65535) (reply_with kind true xid page) (replies_with kind xid (next ∷ later)) (omega (arith, first))
    (short_replies kind xid (next ∷ later) (All-tail (λ (p : List ℕ). length p ≤ page_size) page (next ∷ later) small))

count_replies : (kind xid : ℕ) (ps : List (List ℕ)) → length (replies_with kind xid ps) ≡ length ps
count_replies kind xid [] = refl
count_replies kind xid (page ∷ []) = refl
count_replies kind xid (page ∷ next ∷ later) = let others = count_replies kind xid (next ∷ later) in omega (arith, others)

-- the heads and the pages
size_replies : (kind xid : ℕ) (ps : List (List ℕ)) → sum_by length (replies_with kind xid ps) ≡ 12 * length ps + length (concat ps)
size_replies kind xid [] = refl
size_replies kind xid (page ∷ []) = omega (arith, sum_by-cons length (reply_with kind false xid page) [], length-append page [])
size_replies kind xid (page ∷ next ∷ later) =
    omega (
      arith,
      sum_by-cons length (reply_with kind true xid page) (replies_with kind xid (next ∷ later)),
      size_replies kind xid (next ∷ later),
      length-append page (concat (next ∷ later)),
    )

-- every page but the first begins with an entry
count_placed : (filled : ℕ) (entries : List (List ℕ)) → length (paged filled entries).1 ≤ length entries
count_placed filled [] = let none = ap (λ (p : List ℕ × List (List ℕ)). length p.1) (placed_none filled) in omega (arith, none)
count_placed filled (entry ∷ entries) =
    elim (cases_lt page_size (filled + length entry)) [
      | inl over ↦
          let is = ap (λ (p : List ℕ × List (List ℕ)). length p.1) (placed_next filled entry entries over) in
          let others = count_placed (length entry) entries in
          omega (arith, is, others)
      | inr fits ↦
          let is = ap (λ (p : List ℕ × List (List ℕ)). length p.1) (placed_here filled entry entries fits) in
          let others = count_placed (filled + length entry) entries in
          omega (arith, is, others)
    ]

-- a page that begins and the one before it have together more bytes than a page may
count_full : (filled : ℕ) (entries : List (List ℕ)) → 65524 * length (paged filled entries).1 ≤ filled + 2 * length (concat entries)
count_full filled [] = let none = ap (λ (p : List ℕ × List (List ℕ)). length p.1) (placed_none filled) in omega (arith, none)
count_full filled (entry ∷ entries) =
    let joined = length-append entry (concat entries) in
    elim (cases_lt page_size (filled + length entry)) [
      | inl over ↦
          let is = ap (λ (p : List ℕ × List (List ℕ)). length p.1) (placed_next filled entry entries over) in
          let others = count_full (length entry) entries in
          omega (arith, is, others, joined, over)
      | inr fits ↦
          let is = ap (λ (p : List ℕ × List (List ℕ)). length p.1) (placed_here filled entry entries fits) in
          let others = count_full (filled + length entry) entries in
          omega (arith, is, others, joined)
    ]

concat_rows : (rows : List (List (List ℕ))) → concat (map concat rows) ≡ concat (flat_map (λ row. row) rows)
concat_rows [] = refl
concat_rows (row ∷ later) = ap (λ bytes. concat row ++ bytes) (concat_rows later) ∙ sym (concat-append row (flat_map (λ next. next) later))

-- joined, the pages are the bytes of the entries in their order
pub concat-pages : (entries : List (List ℕ)) → concat (pages entries) ≡ concat entries
concat-pages entries =
    let rows = rows_of 0 entries in
    let joined : map concat (rows.row ∷ rows.later) ≡ pages entries = ap₂ (λ (a : List ℕ) (b : List (List ℕ)). a ∷ b) rows.here rows.behind in
    ap concat (sym joined) ∙ concat_rows (rows.row ∷ rows.later) ∙ ap concat rows.order

-- the replies have together no more bytes than their entries, and a head each
pub size-replies_of : (kind xid : ℕ) (bytes : List ℕ) → sum_by length (replies_of kind bytes xid) ≤ length bytes + 12 * length (replies_of kind bytes xid)
unfolding replies_of
size-replies_of kind xid bytes =
    let entries = entries_in kind bytes in
    let heads = size_replies kind xid (pages entries) in
    let same = count_replies kind xid (pages entries) in
    let joined = ap length (concat-pages entries) in
    let within = bytes_of_entries kind bytes in
    omega arith

-- two that follow each other have more bytes of entries than one page
pub full-replies_of : (kind xid : ℕ) (bytes : List ℕ) → 65524 * length (replies_of kind bytes xid) ≤ 2 * length bytes + 65524
unfolding replies_of
full-replies_of kind xid bytes =
    let entries = entries_in kind bytes in
    let same = count_replies kind xid (pages entries) in
    let full = count_full 0 entries in
    let within = bytes_of_entries kind bytes in
    omega arith

-- there are at most as many as entries, and one more
pub count-replies_of : (kind xid : ℕ) (bytes : List ℕ) → 24 * length (replies_of kind bytes xid) ≤ length bytes + 24
unfolding replies_of
count-replies_of kind xid bytes =
    let entries = entries_in kind bytes in
    let same = count_replies kind xid (pages entries) in
    let few = count_placed 0 entries in
    let count = count_of_entries kind bytes in
    omega arith

-- each of them is short
pub short-replies_of : (kind xid : ℕ) (bytes : List ℕ) → FitPages (entries_in kind bytes) → All (λ reply. length reply ≤ 65535) (replies_of kind bytes xid)
unfolding replies_of
short-replies_of kind xid bytes small = short_replies kind xid (pages (entries_in kind bytes)) (ArePages-pages (entries_in kind bytes) small).small

-- ---- the same by the kind of the request

pub size-replies_for : (asked : AskKind) (bytes : List ℕ) (xid : ℕ) → sum_by length (replies_for asked bytes xid) ≤ length bytes + 12 * length (replies_for asked bytes xid)
size-replies_for asked bytes xid = by_type (type_sent asked) refl
  where
    by_type : (o : Option ℕ) → type_sent asked ≡ o → sum_by length (replies_for asked bytes xid) ≤ length bytes + 12 * length (replies_for asked bytes xid)
    by_type None e = rw (e, replies_for) (omega arith)
    by_type (Some kind) e = rw (replies_for-type_sent asked kind xid bytes (sym e)) (size-replies_of kind xid bytes)

pub full-replies_for : (asked : AskKind) (bytes : List ℕ) (xid : ℕ) → 65524 * length (replies_for asked bytes xid) ≤ 2 * length bytes + 65524
full-replies_for asked bytes xid = by_type (type_sent asked) refl
  where
    by_type : (o : Option ℕ) → type_sent asked ≡ o → 65524 * length (replies_for asked bytes xid) ≤ 2 * length bytes + 65524
    by_type None e = rw (e, replies_for) (omega arith)
    by_type (Some kind) e = rw (replies_for-type_sent asked kind xid bytes (sym e)) (full-replies_of kind xid bytes)

pub short-replies_for : (asked : AskKind) (bytes : List ℕ) (xid : ℕ) → ((kind : ℕ) → type_sent asked ≡ Some kind → FitPages (entries_in kind bytes)) → All (λ reply. length reply ≤ 65535) (replies_for asked bytes xid)
short-replies_for asked bytes xid small = by_type (type_sent asked) refl
  where
    by_type : (o : Option ℕ) → type_sent asked ≡ o → All (λ reply. length reply ≤ 65535) (replies_for asked bytes xid)
    by_type None e = rw (e, replies_for) (All-nil (λ (reply : List ℕ). length reply ≤ 65535))
    by_type (Some kind) e = rw (replies_for-type_sent asked kind xid bytes (sym e)) (short-replies_of kind xid bytes (small kind e))
