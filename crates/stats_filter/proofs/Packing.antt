-- Pages are rows of whole entries, and as full as can be.
use Rattle.std.proofs.Common.{◌≡◌, ℕ, ◌+◌, ◌<◌, ◌≤◌, List, [], ◌∷◌, ◌++◌, length, map, refl, sym, ap, subst, ◌∙◌, zero-add, arith, inl, inr}
use Rattle.std.specs.List.{concat, flat_map}
use Rattle.std.proofs.lemmas.Bool.{cases_lt}
use Rattle.std.proofs.lemmas.List.{length-append, append_assoc, append-nil}
use Rattle.std.proofs.lemmas.List.Elements.{All-nil, All-cons, All-head, All-tail}
use Rattle.stats_filter.specs.Replies.{page_size, paged, pages}
use Rattle.stats_filter.specs.Laws.{FitPages, HasNoPlace, AreFull, ArePages}
use Rattle.stats_filter.proofs.Paging.{placed_none, placed_here, placed_next}

-- an entry has no more bytes than a page
abbrev IsSmall : List ℕ → Type 0
IsSmall entry = length entry ≤ page_size

-- rows behind so many bytes of a page: the first has no place there, and none has place for the first entry of the next
abbrev FullBehind : ℕ → List (List (List ℕ)) → Type 0
FullBehind size [] = Unit {0}
FullBehind size (next ∷ later) = HasNoPlace size next × FullBehind (length (concat next)) later

full_rows : (row : List (List ℕ)) (later : List (List (List ℕ))) → FullBehind (length (concat row)) later → AreFull (row ∷ later)
full_rows row [] full = tt
full_rows row (next ∷ later) full = (full.0, full_rows next later full.1)

full_behind : (row : List (List ℕ)) (later : List (List (List ℕ))) → AreFull (row ∷ later) → FullBehind (length (concat row)) later
full_behind row [] full = tt
full_behind row (next ∷ later) full = (full.0, full_behind next later full.1)

-- ---- the rows that are placed

-- the entries that stand on a page behind so many bytes, and the rows of the pages after it
pub record PlacedRows (filled : ℕ) (entries : List (List ℕ)) : Type 0 where
  pub row : List (List ℕ)
  pub later : List (List (List ℕ))
  pub order : row ++ flat_map (λ next. next) later ≡ entries
  pub here : concat row ≡ (paged filled entries).0
  pub behind : map concat later ≡ (paged filled entries).1
  pub small : FitPages entries → filled ≤ page_size → (filled + length (concat row) ≤ page_size) × FitPages (map concat later)
  pub full : FullBehind (filled + length (concat row)) later

no_rows : (filled : ℕ) → PlacedRows filled []
no_rows filled = record {
  row = [];
  later = [];
  order = refl;
  here = ap (λ (p : List ℕ × List (List ℕ)). p.0) (sym (placed_none filled));
  behind = ap (λ (p : List ℕ × List (List ℕ)). p.1) (sym (placed_none filled));
  small = λ all fits. (omega arith, All-nil IsSmall);
  full = tt;
}

row_more : (filled : ℕ) (entry : List ℕ) (entries : List (List ℕ)) → filled + length entry ≤ page_size → PlacedRows (filled + length entry) entries → PlacedRows filled (entry ∷ entries)
row_more filled entry entries fits rows =
    let size : filled + length (entry ++ concat rows.row) ≡ (filled + length entry) + length (concat rows.row) = omega (arith, length-append entry (concat rows.row)) in
    record {
      row = entry ∷ rows.row;
      later = rows.later;
      order = ap (λ later. entry ∷ later) rows.order;
      here = ap (λ bytes. entry ++ bytes) rows.here ∙ ap (λ (p : List ℕ × List (List ℕ)). p.0) (sym (placed_here filled entry entries fits));
      behind = rows.behind ∙ ap (λ (p : List ℕ × List (List ℕ)). p.1) (sym (placed_here filled entry entries fits));
      small = λ all start. let both = rows.small (All-tail IsSmall entry entries all) fits in (omega (arith, size, both.0), both.1);
      full = rw size rows.full;
    }

row_next : (filled : ℕ) (entry : List ℕ) (entries : List (List ℕ)) → page_size < filled + length entry → PlacedRows (length entry) entries → PlacedRows filled (entry ∷ entries)
row_next filled entry entries over rows =
    let size : length (entry ++ concat rows.row) ≡ length entry + length (concat rows.row) = length-append entry (concat rows.row) in
    record {
      row = [];
      later = (entry ∷ rows.row) ∷ rows.later;
      order = ap (λ later. entry ∷ later) rows.order;
      here = ap (λ (p : List ℕ × List (List ℕ)). p.0) (sym (placed_next filled entry entries over));
      behind =
          ap (λ bytes. (entry ++ bytes) ∷ map concat rows.later) rows.here
          ∙ ap (λ others. (entry ++ (paged (length entry) entries).0) ∷ others) rows.behind
          ∙ ap (λ (p : List ℕ × List (List ℕ)). p.1) (sym (placed_next filled entry entries over));
      small = λ all start.
          let both = rows.small (All-tail IsSmall entry entries all) (All-head IsSmall entry entries all) in
          (omega arith, All-cons IsSmall (entry ++ concat rows.row) (map concat rows.later) (omega (arith, size, both.0)) both.1);
      full = (omega arith, rw size rows.full);
    }

pub rows_of : (filled : ℕ) (entries : List (List ℕ)) → PlacedRows filled entries
rows_of filled [] = no_rows filled
rows_of filled (entry ∷ entries) =
    elim (cases_lt page_size (filled + length entry)) [
      | inl over ↦ row_next filled entry entries over (rows_of (length entry) entries)
      | inr fits ↦ row_more filled entry entries fits (rows_of (filled + length entry) entries)
    ]

pub ArePages-pages : (entries : List (List ℕ)) → FitPages entries → ArePages entries (pages entries)
ArePages-pages entries all =
    let rows = rows_of 0 entries in
    let small = rows.small all (omega arith) in
    let joined : map concat (rows.row ∷ rows.later) ≡ pages entries = ap (λ first. first ∷ map concat rows.later) rows.here ∙ ap (λ others. (paged 0 entries).0 ∷ others) rows.behind in
    record {
      rows = rows.row ∷ rows.later;
      order = rows.order;
      joined = joined;
      some = omega arith;
      small = subst FitPages joined (All-cons IsSmall (concat rows.row) (map concat rows.later) (omega (arith, small.0)) small.1);
      full = full_rows rows.row rows.later (rw zero-add at rows.full);
    }

-- ---- no other rows

-- entries that fit together stand on the page
placed_row : (row : List (List ℕ)) (tail : List (List ℕ)) (filled : ℕ) → filled + length (concat row) ≤ page_size
    → paged filled (row ++ tail) ≡ (concat row ++ (paged (filled + length (concat row)) tail).0, (paged (filled + length (concat row)) tail).1)
placed_row [] tail filled fits = ap (λ (n : ℕ). paged n tail) (omega arith)
placed_row (entry ∷ row) tail filled fits =
    let size = length-append entry (concat row) in
    let total : (filled + length entry) + length (concat row) ≡ filled + length (entry ++ concat row) = omega (arith, size) in
    placed_here filled entry (row ++ tail) (omega (arith, size))
    ∙ ap (λ (p : List ℕ × List (List ℕ)). (entry ++ p.0, p.1)) (placed_row row tail (filled + length entry) (omega (arith, size)))
    ∙ ap (λ (n : ℕ). (entry ++ (concat row ++ (paged n tail).0), (paged n tail).1)) total
    ∙ ap (λ bytes. (bytes, (paged (filled + length (entry ++ concat row)) tail).1)) (sym (append_assoc entry (concat row) (paged (filled + length (entry ++ concat row)) tail).0))

placed_rows : (later : List (List (List ℕ))) (row : List (List ℕ)) (filled : ℕ) → filled + length (concat row) ≤ page_size → FitPages (map concat later) → FullBehind (filled + length (concat row)) later
    → paged filled (row ++ flat_map (λ next. next) later) ≡ (concat row, map concat later)
placed_rows [] row filled fits small full =
    placed_row row [] filled fits
    ∙ ap (λ (p : List ℕ × List (List ℕ)). (concat row ++ p.0, p.1)) (placed_none (filled + length (concat row)))
    ∙ ap (λ bytes. (bytes, [])) (append-nil (concat row))
placed_rows ([] ∷ later) row filled fits small full = absurd full.0
placed_rows ((entry ∷ next) ∷ later) row filled fits small full =
    let size = length-append entry (concat next) in
    let first = All-head IsSmall (entry ++ concat next) (map concat later) small in
    let others = All-tail IsSmall (entry ++ concat next) (map concat later) small in
    let tail = next ++ flat_map (λ n. n) later in
    placed_row row (entry ∷ tail) filled fits
    ∙ ap (λ (p : List ℕ × List (List ℕ)). (concat row ++ p.0, p.1)) (placed_next (filled + length (concat row)) entry tail full.0)
    ∙ ap (λ bytes. (bytes, (entry ++ (paged (length entry) tail).0) ∷ (paged (length entry) tail).1)) (append-nil (concat row))
    ∙ ap (λ (p : List ℕ × List (List ℕ)). (concat row, (entry ++ p.0) ∷ p.1)) (placed_rows later next (length entry) (omega (arith, size, first)) others (rw size at full.1))

pages_rows : (entries ps : List (List ℕ)) (rows : List (List (List ℕ))) → flat_map (λ row. row) rows ≡ entries → map concat rows ≡ ps → 1 ≤ length rows → FitPages ps → AreFull rows → pages entries ≡ ps
pages_rows entries ps [] order joined some small full = absurd (omega arith)
pages_rows entries ps (row ∷ later) order joined some small full =
    let all : FitPages (concat row ∷ map concat later) = subst FitPages (sym joined) small in
    let first = All-head IsSmall (concat row) (map concat later) all in
    ap pages (sym order)
    ∙ ap (λ (p : List ℕ × List (List ℕ)). p.0 ∷ p.1)
    (placed_rows later row 0 (omega (arith, first)) (All-tail IsSmall (concat row) (map concat later) all) (rw zero-add (full_behind row later full)))
    ∙ joined

pub pages-ArePages : (entries ps : List (List ℕ)) → ArePages entries ps → pages entries ≡ ps
pages-ArePages entries ps are = pages_rows entries ps are.rows are.order are.joined are.some are.small are.full
