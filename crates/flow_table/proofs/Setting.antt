-- What a flow-mod that is no delete makes of a table's entries, one more of them at a time.
use Rattle.std.proofs.Common.{◌≡◌, ℕ, ◌<◌, ◌+◌, ◌-◌, leb, Bool, true, false, if◌then◌else◌, List, [], ◌∷◌, ◌++◌, map, filter, not, suc, take, drop, length, get_or, refl, sym, ◌∙◌, inl, inr, arith}
use Rattle.std.specs.Prelude.{count_by}
use Rattle.std.specs.List.{list_any}
use Rattle.std.proofs.lemmas.Bool.{cases_Bool}
use Rattle.std.proofs.lemmas.List.Sums.{sum_by-drop_more, length-filter}
use Rattle.std.proofs.lemmas.List.{get_or-drop, get_or-append_right, length-take-le, length-map}
use Rattle.of10_flow.specs.declared.flow_mod.FlowMod.{FlowMod}
use Rattle.of10_flow.specs.declared.protocol.TheConstants.{DELETE}
use Rattle.of10_flow.specs.declared.flow_entry.FlowEntry.{FlowEntry}
use Rattle.of10_flow.specs.Tables.{touches, with_actions_of, entry_of, refuses, Apply}

-- the count of touched entries from a place on
pub count_more : (m : FlowMod) (entries : List FlowEntry) (i : ℕ) (d : FlowEntry) → i < length entries
    → count_by (touches m) (drop i entries) ≡ (if touches m (get_or entries i d) then 1 else 0) + count_by (touches m) (drop (i + 1) entries)
count_more m entries i d lt = sum_by-drop_more (λ e. if touches m e then 1 else 0) entries i d lt

-- ---- a walk that has changed the entries before a place

module _ {A : Type 0} (f : A → A) where
  -- the entry at the place is as it was
  pub as_it_was : (xs ys : List A) (i : ℕ) (d : A) → i < length xs → ys ≡ map f (take i xs) ++ drop i xs → get_or ys i d ≡ get_or xs i d
  as_it_was xs ys i d lt is =
      let front : length (map f (take i xs)) ≡ i = length-map (take i xs) f ∙ length-take-le i xs (omega arith) in
      let none : i - i ≡ 0 = omega arith in
      let there : i + 0 ≡ i = omega arith in
      rw is (get_or-append_right (map f (take i xs)) (drop i xs) i i d front (omega arith) ∙ rw none (get_or-drop i xs 0 d ∙ rw there refl))

-- ---- what a flow-mod does, by its cases

none_passes : {A : Type 0} (p : A → Bool) (xs : List A) → length (filter p xs) ≡ 0 → list_any p xs ≡ false
none_passes p [] none = refl
none_passes p (x ∷ xs) none = elim (cases_Bool (p x)) [
  | inl is ↦ absurd (let one : suc (length (filter p xs)) ≡ 0 = rw is at none in omega arith)
  | inr not ↦ (let later : length (filter p xs) ≡ 0 = rw not at none in rw (not, none_passes p xs later) refl)
]

some_passes : {A : Type 0} (p : A → Bool) (xs : List A) → (length (filter p xs) ≡ 0 → ⊥) → list_any p xs ≡ true
some_passes p [] some = absurd (some refl)
some_passes p (x ∷ xs) some = elim (cases_Bool (p x)) [
  | inl is ↦ rw is refl
  | inr not ↦ (let later : length (filter p xs) ≡ 0 → ⊥ = rw not at some in rw (not, some_passes p xs later) refl)
]

module _ (table : List FlowEntry) (m : FlowMod) (taken : refuses table m ≡ false) (not_delete : leb DELETE m.command ≡ false) where
  -- one that touches none adds its entry
  pub apply_added : count_by (touches m) table ≡ 0 → Apply table m ≡ table ++ (entry_of m ∷ [])
  apply_added none = rw (taken, not_delete, none_passes (touches m) table (length-filter (touches m) table ∙ none)) refl

  -- one that touches some changes them
  pub apply_changed : (count_by (touches m) table ≡ 0 → ⊥) → Apply table m ≡ map (with_actions_of m) table
  apply_changed some = rw (taken, not_delete, some_passes (touches m) table (λ none. some (sym (length-filter (touches m) table) ∙ none))) refl
