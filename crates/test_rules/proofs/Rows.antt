-- Flows' entries one behind another, each of which fits a page.
use Rattle.std.proofs.Common.{◌≡◌, ℕ, ◌≤◌, List, [], ◌∷◌, ◌++◌, length, refl, sym, ap, subst, ◌∙◌, append-nil}
use Rattle.std.specs.Prelude.{All}
use Rattle.std.specs.List.{concat}
use Rattle.std.proofs.lemmas.List.Elements.{All-nil, All-push}
use Rattle.std.proofs.lemmas.List.Folds.{concat-append}
use Rattle.of10_stats.specs.declared.protocol.TheConstants.{FLOW}
use Rattle.of10_stats.specs.Replies.{IsEntry}
use Rattle.stats_filter.specs.Keeping.{entries_in}
use Rattle.stats_filter.specs.Replies.{page_size}
use Rattle.stats_filter.specs.Laws.{FitPages}
use Rattle.stats_filter.proofs.Rows.{entries_in-concat}

pub record IsRow (bytes : List ℕ) : Type 0 where
  pub entries : List (List ℕ)
  pub joined : bytes ≡ concat entries
  pub each : All (IsEntry FLOW) entries
  pub small : FitPages entries

pub no_row : IsRow []
no_row = record { entries = []; joined = refl; each = All-nil (IsEntry FLOW); small = All-nil (λ (entry : List ℕ). length entry ≤ page_size) }

pub row_more : (bytes entry : List ℕ) → IsRow bytes → IsEntry FLOW entry → length entry ≤ page_size → IsRow (bytes ++ entry)
row_more bytes entry row is fits = record {
  entries = row.entries ++ entry ∷ [];
  joined =
      ap (λ front. front ++ entry) row.joined
      ∙ ap (λ last. concat row.entries ++ last) (sym (append-nil entry))
      ∙ sym (concat-append row.entries (entry ∷ []));
  each = All-push (IsEntry FLOW) row.entries entry row.each is;
  small = All-push (λ (e : List ℕ). length e ≤ page_size) row.entries entry row.small fits;
}

pub row_small : (bytes : List ℕ) → IsRow bytes → FitPages (entries_in FLOW bytes)
row_small bytes row = subst FitPages (sym (ap (entries_in FLOW) row.joined ∙ entries_in-concat FLOW row.entries row.each)) row.small
