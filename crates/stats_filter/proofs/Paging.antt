-- Pages, one entry after the other.
use Rattle.std.proofs.Common.{◌≡◌, ℕ, ◌+◌, ◌-◌, ◌<◌, ◌≤◌, true, false, List, [], ◌∷◌, ◌++◌, length, take, drop, Bool, if◌then◌else◌, Option, Some, None, is_some, IsSome, refl, sym, ap, subst, ◌∙◌, zero-add, arith}
use Rattle.std.proofs.lemmas.Bool.{le-leb, lt-leb}
use Rattle.std.proofs.lemmas.List.{length-take-le, length-drop, drop-drop, take_all, append_assoc, append-nil}
use Rattle.std.proofs.lemmas.List.Elements.{All-head, All-tail}
use Rattle.std.proofs.Math.Seq.{take-add}
use Rattle.of10_stats.specs.Replies.{entry_size_of}
use Rattle.xid_map.specs.declared.asked.AskKind.{AskKind}
use Rattle.stats_filter.specs.Asking.{type_sent}
use Rattle.stats_filter.specs.Keeping.{entries_in}
use Rattle.stats_filter.specs.Replies.{page_size, paged, pages, later_pages, reply_with, replies_with, replies_of, replies_for}
use Rattle.stats_filter.specs.Laws.{FitPages}
use Rattle.stats_filter.proofs.Rows.{entry_begins, first_entry, no_entries}

-- ---- one entry

pub placed_none : (filled : ℕ) → paged filled [] ≡ ([], [])
unfolding paged
placed_none filled = refl

-- an entry that fits stands on the page
pub placed_here : (filled : ℕ) (entry : List ℕ) (later : List (List ℕ)) → filled + length entry ≤ page_size
    → paged filled (entry ∷ later) ≡ (entry ++ (paged (filled + length entry) later).0, (paged (filled + length entry) later).1)
unfolding paged
placed_here filled entry later fits = rw (le-leb (filled + length entry) page_size fits) refl

-- one that doesn't begins the next page
pub placed_next : (filled : ℕ) (entry : List ℕ) (later : List (List ℕ)) → page_size < filled + length entry
    → paged filled (entry ∷ later) ≡ ([], (entry ++ (paged (length entry) later).0) ∷ (paged (length entry) later).1)
unfolding paged
placed_next filled entry later over = rw (lt-leb (filled + length entry) page_size over) refl

-- and so one that doesn't begins the pages of the entries from it on
pub placed_over : (filled : ℕ) (entry : List ℕ) (later : List (List ℕ)) → page_size < filled + length entry → length entry ≤ page_size → paged filled (entry ∷ later) ≡ ([], pages (entry ∷ later))
placed_over filled entry later over small =
    placed_next filled entry later over
    ∙ ap (λ (p : List ℕ × List (List ℕ)). ([], p.0 ∷ p.1))
    (ap (λ (n : ℕ). (entry ++ (paged n later).0, (paged n later).1)) (sym (zero-add (length entry))) ∙ sym (placed_here 0 entry later (omega arith)))

-- ---- while a page is filled

-- what begins the bytes from a place on, as the code reads them
pub size_from : (kind : ℕ) (entries : List ℕ) (end : ℕ) (o : Option ℕ) → o ≡ entry_size_of kind (take (length entries - end) (drop end entries)) → entry_size_of kind (drop end entries) ≡ o
size_from kind entries end o e =
    let left = length-drop end entries in
    ap (entry_size_of kind) (sym (take_all (length entries - end) (drop end entries) (omega arith))) ∙ sym e

-- so many bytes of entries are on the first page, and the others are placed behind them
pub record IsFilled (kind : ℕ) (entries : List ℕ) (end : ℕ) : Type 0 where
  pub within : end ≤ length entries
  pub small : end ≤ page_size
  pub placed_on : pages (entries_in kind entries) ≡ (take end entries ++ (paged end (entries_in kind (drop end entries))).0) ∷ (paged end (entries_in kind (drop end entries))).1
  pub later : FitPages (entries_in kind (drop end entries))

-- the first page ends there
pub record IsPageEnd (kind : ℕ) (entries : List ℕ) (end : ℕ) : Type 0 where
  pub page : pages (entries_in kind entries) ≡ take end entries ∷ later_pages (entries_in kind (drop end entries))
  pub goes_on : IsSome (entry_size_of kind (drop end entries)) → 0 < end

pub not_filled : (kind : ℕ) (entries : List ℕ) → FitPages (entries_in kind entries) → IsFilled kind entries 0
not_filled kind entries small = record {
  within = omega arith;
  small = omega arith;
  placed_on = refl;
  later = small;
}

-- the entry that comes next
small_next : (kind size : ℕ) (rest : List ℕ) → FitPages (entries_in kind rest) → entry_size_of kind rest ≡ Some size → (size ≤ page_size) × FitPages (entries_in kind (drop size rest))
small_next kind size rest small e =
    let both : FitPages (take size rest ∷ entries_in kind (drop size rest)) = subst FitPages (first_entry kind size rest e) small in
    let long = length-take-le size rest (entry_begins kind size rest e).1 in
    let head = All-head (λ (entry : List ℕ). length entry ≤ page_size) (take size rest) (entries_in kind (drop size rest)) both in
    (omega arith, All-tail (λ (entry : List ℕ). length entry ≤ page_size) (take size rest) (entries_in kind (drop size rest)) both)

pub filled_more : (kind size : ℕ) (entries : List ℕ) (end : ℕ) → IsFilled kind entries end → entry_size_of kind (drop end entries) ≡ Some size → end + size ≤ page_size → IsFilled kind entries (end + size)
filled_more kind size entries end filled e fits =
    let rest = drop end entries in
    let begins = entry_begins kind size rest e in
    let left = length-drop end entries in
    let long : length (take size rest) ≡ size = length-take-le size rest begins.1 in
    let next = small_next kind size rest filled.later e in
    let within = filled.within in
    record {
      within = omega arith;
      small = fits;
      placed_on =
          filled.placed_on
          ∙ ap (λ (p : List ℕ × List (List ℕ)). (take end entries ++ p.0) ∷ p.1)
          (ap (paged end) (first_entry kind size rest e)
          ∙ placed_here end (take size rest) (entries_in kind (drop size rest)) (omega arith)
          ∙ ap (λ (n : ℕ). (take size rest ++ (paged (end + n) (entries_in kind (drop size rest))).0, (paged (end + n) (entries_in kind (drop size rest))).1)) long
          ∙ ap (λ (bytes : List ℕ). (take size rest ++ (paged (end + size) (entries_in kind bytes)).0, (paged (end + size) (entries_in kind bytes)).1)) (drop-drop size end entries))
          ∙ ap (λ (front : List ℕ). front ∷ (paged (end + size) (entries_in kind (drop (end + size) entries))).1)
          (sym (append_assoc (take end entries) (take size rest) (paged (end + size) (entries_in kind (drop (end + size) entries))).0)
          ∙ ap (λ (front : List ℕ). front ++ (paged (end + size) (entries_in kind (drop (end + size) entries))).0) (sym (take-add end size entries)));
      later = subst (λ bytes. FitPages (entries_in kind bytes)) (drop-drop size end entries) next.1;
    }

pub filled_up : (kind size : ℕ) (entries : List ℕ) (end : ℕ) → IsFilled kind entries end → entry_size_of kind (drop end entries) ≡ Some size → page_size < end + size → IsPageEnd kind entries end
filled_up kind size entries end filled e over =
    let rest = drop end entries in
    let begins = entry_begins kind size rest e in
    let long : length (take size rest) ≡ size = length-take-le size rest begins.1 in
    let next = small_next kind size rest filled.later e in
    record {
      page =
          filled.placed_on
          ∙ ap (λ (p : List ℕ × List (List ℕ)). (take end entries ++ p.0) ∷ p.1)
          (ap (paged end) (first_entry kind size rest e) ∙ placed_over end (take size rest) (entries_in kind (drop size rest)) (omega arith) (omega (arith, next.0)))
          ∙ ap (λ (front : List ℕ). front ∷ pages (take size rest ∷ entries_in kind (drop size rest))) (append-nil (take end entries))
          ∙ ap (λ (found : List (List ℕ)). take end entries ∷ later_pages found) (sym (first_entry kind size rest e));
      goes_on = λ some. omega (arith, next.0);
    }

pub filled_last : (kind : ℕ) (entries : List ℕ) (end : ℕ) → IsFilled kind entries end → entry_size_of kind (drop end entries) ≡ None → IsPageEnd kind entries end
filled_last kind entries end filled e = record {
  page =
      filled.placed_on
      ∙ ap (λ (p : List ℕ × List (List ℕ)). (take end entries ++ p.0) ∷ p.1) (ap (paged end) (no_entries kind (drop end entries) e) ∙ placed_none end)
      ∙ ap (λ (front : List ℕ). front ∷ []) (append-nil (take end entries))
      ∙ ap (λ (found : List (List ℕ)). take end entries ∷ later_pages found) (sym (no_entries kind (drop end entries) e));
  goes_on = λ some. let none : IsSome {T = ℕ} None = subst IsSome e some in absurd (cc);
}

-- ---- replies

-- these replies are made, and those with the rest of the entries follow
pub record IsReplied (kind xid : ℕ) (entries rest : List ℕ) (made : List (List ℕ)) : Type 0 where
  pub all : made ++ replies_with kind xid (pages (entries_in kind rest)) ≡ replies_of kind entries xid
  pub small : FitPages (entries_in kind rest)

pub none_replied : (kind xid : ℕ) (entries : List ℕ) → FitPages (entries_in kind entries) → IsReplied kind xid entries entries []
unfolding replies_of
none_replied kind xid entries small = record { all = refl; small = small }

-- the reply with the next page, and those behind it where there are more entries
page_replied : (kind xid : ℕ) (rest : List ℕ) (end : ℕ) → pages (entries_in kind rest) ≡ take end rest ∷ later_pages (entries_in kind (drop end rest))
    → (o : Option ℕ) → entry_size_of kind (drop end rest) ≡ o
    → replies_with kind xid (pages (entries_in kind rest)) ≡ reply_with kind (is_some o) xid (take end rest) ∷ (if is_some o then replies_with kind xid (pages (entries_in kind (drop end rest))) else [])
page_replied kind xid rest end page None e =
    ap (replies_with kind xid) page ∙ ap (λ (found : List (List ℕ)). replies_with kind xid (take end rest ∷ later_pages found)) (no_entries kind (drop end rest) e)
page_replied kind xid rest end page (Some size) e =
    let first = first_entry kind size (drop end rest) e in
    ap (replies_with kind xid) page
    ∙ ap (λ (found : List (List ℕ)). replies_with kind xid (take end rest ∷ later_pages found)) first
    ∙ ap (λ (found : List (List ℕ)). reply_with kind true xid (take end rest) ∷ replies_with kind xid (pages found)) (sym first)

-- what is known where a reply was made of a page
pub record IsNext (kind xid : ℕ) (rest page later : List ℕ) (more : Bool) (reply : List ℕ) : Type 0 where
  pub end : ℕ
  pub page_is : page ≡ take end rest
  pub later_is : later ≡ drop end rest
  pub more_is : more ≡ is_some (entry_size_of kind later)
  pub reply_is : reply ≡ reply_with kind more xid page
  pub first : pages (entries_in kind rest) ≡ take end rest ∷ later_pages (entries_in kind (drop end rest))
  pub small : FitPages (entries_in kind (drop end rest))

next_replied : (kind xid : ℕ) (rest page later : List ℕ) (more : Bool) (reply : List ℕ) → IsNext kind xid rest page later more reply
    → replies_with kind xid (pages (entries_in kind rest)) ≡ reply ∷ (if more then replies_with kind xid (pages (entries_in kind later)) else [])
next_replied kind xid rest page later more reply next =
    rw (next.reply_is, next.more_is, next.page_is, next.later_is) (page_replied kind xid rest next.end next.first (entry_size_of kind (drop next.end rest)) refl)

pub replied_last : (kind xid : ℕ) (entries rest page later : List ℕ) (more : Bool) (reply : List ℕ) (made new : List (List ℕ)) → IsReplied kind xid entries rest made
    → IsNext kind xid rest page later more reply → more ≡ false → new ≡ made ++ reply ∷ [] → new ≡ replies_of kind entries xid
replied_last kind xid entries rest page later more reply made new replied next last is =
    is
    ∙ ap (λ b. made ++ reply ∷ (if b then replies_with kind xid (pages (entries_in kind later)) else [])) (sym last)
    ∙ ap (λ rs. made ++ rs) (sym (next_replied kind xid rest page later more reply next))
    ∙ replied.all

pub replied_more : (kind xid : ℕ) (entries rest page later : List ℕ) (more : Bool) (reply : List ℕ) (made new : List (List ℕ)) → IsReplied kind xid entries rest made
    → IsNext kind xid rest page later more reply → more ≡ true → new ≡ made ++ reply ∷ [] → IsReplied kind xid entries later new
replied_more kind xid entries rest page later more reply made new replied next goes_on is = record {
  all =
      let behind = replies_with kind xid (pages (entries_in kind later)) in
      ap (λ rs. rs ++ behind) is
      ∙ append_assoc made (reply ∷ []) behind
      ∙ ap (λ b. made ++ reply ∷ (if b then behind else [])) (sym goes_on)
      ∙ ap (λ rs. made ++ rs) (sym (next_replied kind xid rest page later more reply next))
      ∙ replied.all;
  small = rw next.later_is next.small;
}

-- the replies for a kind of request are those of its type
pub replies_for-type_sent : (asked : AskKind) (kind xid : ℕ) (entries : List ℕ) → Some kind ≡ type_sent asked → replies_for asked entries xid ≡ replies_of kind entries xid
replies_for-type_sent asked kind xid entries e = rw (← e, replies_for) refl
