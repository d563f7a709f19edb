-- A table has each match and priority at most once.
use Rattle.std.proofs.Common.{leb, not, List, [], ◌∷◌, map, zero, suc, get_or, sym, ◌∙◌, inl, inr, arith}
use Rattle.std.specs.Prelude.{All, AllPairs}
use Rattle.std.specs.List.{list_any}
use Rattle.std.proofs.lemmas.Bool.{cases_Bool, both_ways}
use Rattle.std.proofs.lemmas.List.Elements.{All-head, All-tail}
use Rattle.std.proofs.lemmas.List.Kept.{AllPairs-cons, AllPairs-filter}
use Rattle.std.proofs.lemmas.List.Quantifiers.{all_pairs_push}
use Rattle.std.proofs.lemmas.List.Folds.{list_any_at}
use Rattle.of10_model.specs.Normal.{IsNormal}
use Rattle.of10_model.proofs.Pairs.{AllPairs-head, AllPairs-tail}
use Rattle.of10_flow.specs.declared.flow_mod.FlowMod.{FlowMod}
use Rattle.of10_flow.specs.declared.protocol.TheConstants.{DELETE}
use Rattle.of10_flow.specs.declared.flow_entry.FlowEntry.{FlowEntry}
use Rattle.of10_flow.specs.Tables.{touches, refuses, entry_of, with_actions_of, Apply, ApplyAll}
use Rattle.of10_flow.specs.TableLaws.{IsSameEntry, HasEachPairOnce}
use Rattle.of10_flow.proofs.Keeping.{same_pattern, same_priority}
use Rattle.of10_flow.proofs.Meaning.{names_iff, names-touches}

module _ {A : Type 0} (R : A → A → Type 0) where
  pairs_map : (f : A → A) → ((x y : A) → R x y → R (f x) (f y)) → (xs : List A) → AllPairs R xs → AllPairs R (map f xs)
  pairs_map f keeps [] all = all
  pairs_map f keeps (x ∷ xs) all = AllPairs-cons R (f x) (map f xs) (mapped xs (AllPairs-head R x xs all)) (pairs_map f keeps xs (AllPairs-tail R x xs all))
    where
      mapped : (xs : List A) → All (R x) xs → All (R (f x)) (map f xs)
      mapped [] all k d lt = absurd (omega arith)
      mapped (y ∷ ys) all zero d lt = keeps x y (all zero d (omega arith))
      mapped (y ∷ ys) all (suc k) d lt = mapped ys (All-tail (R x) y ys all) k d (omega arith)

-- entries of different matches or priorities stay so
abbrev pub IsApart : FlowEntry → FlowEntry → Type 0
IsApart e other = IsSameEntry e other → ⊥

stays_apart : (m : FlowMod) (e other : FlowEntry) → IsApart e other → IsApart (with_actions_of m e) (with_actions_of m other)
stays_apart m e other apart same = apart (sym (same_pattern m e) ∙ same.0 ∙ same_pattern m other, sym (same_priority m e) ∙ same.1 ∙ same_priority m other)

-- so it has after a flow-mod
pub once_Apply : (table : List FlowEntry) (m : FlowMod) → IsNormal m.pattern → HasEachPairOnce table → HasEachPairOnce (Apply table m)
once_Apply table m i once =
    elim (cases_Bool (refuses table m)) [
      | inl refused ↦ rw refused once
      | inr taken ↦ elim (cases_Bool (leb DELETE m.command)) [
        | inl deletes ↦ rw (taken, deletes) (AllPairs-filter IsApart (λ e. not (touches m e)) table once)
        | inr not_delete ↦ elim (cases_Bool (list_any (touches m) table)) [
          | inl some ↦ rw (taken, not_delete, some) (pairs_map IsApart (with_actions_of m) (stays_apart m) table once)
          | inr none ↦ rw (taken, not_delete, none) (all_pairs_push IsApart table (entry_of m) once (λ k d lt same.
              both_ways (list_any (touches m) table) none (list_any_at (touches m) table k d lt (names-touches m (get_or table k d) i not_delete ((names_iff m (get_or table k d)).1 same)))))
        ]
      ]
    ]

-- and after flow-mods in turn
pub once_ApplyAll : (ms : List FlowMod) (table : List FlowEntry) → All (λ m. IsNormal m.pattern) ms → HasEachPairOnce table → HasEachPairOnce (ApplyAll table ms)
once_ApplyAll [] table normal once = once
once_ApplyAll (m ∷ ms) table normal once =
    once_ApplyAll ms (Apply table m) (All-tail (λ m. IsNormal m.pattern) m ms normal) (once_Apply table m (All-head (λ m. IsNormal m.pattern) m ms normal) once)

pub once_empty : HasEachPairOnce []
once_empty i j d lt within = absurd (omega arith)
