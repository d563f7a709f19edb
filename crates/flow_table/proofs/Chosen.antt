-- The entries that may be chosen for a header, picked in one walk over the table.
use Rattle.std.proofs.Common.{◌≡◌, ℕ, ◌<◌, ◌+◌, ◌&&◌, leb, Bool, true, false, if◌then◌else◌, List, [], ◌∷◌, ◌++◌, map, filter, take, length, get_or, refl, sym, ap, subst, ◌∙◌, inl, inr, append-nil}
use Rattle.std.specs.List.{list_any, list_all}
use Rattle.std.proofs.lemmas.Bool.{cases_Bool}
use Rattle.std.proofs.lemmas.List.Elements.{filter_more, filter_agree}
use Rattle.std.proofs.lemmas.List.Folds.{list_all-append}
use Rattle.of10_model.specs.Header.{Header}
use Rattle.of10_model.specs.Pattern.{has}
use Rattle.of10_flow.specs.declared.flow_entry.FlowEntry.{FlowEntry}
use Rattle.of10_flow.specs.Tables.{is_exact_entry, is_highest, having, Treatment}
use Rattle.flow_table.specs.Choosing.{is_chosen}

module _ {A : Type 0} where
  filter_again : (p q : A → Bool) (xs : List A) → filter p (filter q xs) ≡ filter (λ x. q x && p x) xs
  filter_again p q [] = refl
  filter_again p q (x ∷ xs) = elim (cases_Bool (q x)) [
    | inl is ↦ elim (cases_Bool (p x)) [ inl too ↦ rw (is, too, filter_again p q xs) refl | inr not ↦ rw (is, not, filter_again p q xs) refl ]
    | inr not ↦ rw (not, filter_again p q xs) refl
  ]

  any_filter : (p q : A → Bool) (xs : List A) → list_any p (filter q xs) ≡ list_any (λ x. q x && p x) xs
  any_filter p q [] = refl
  any_filter p q (x ∷ xs) = elim (cases_Bool (q x)) [
    | inl is ↦ rw (is, any_filter p q xs) refl
    | inr not ↦ rw (not, any_filter p q xs) refl
  ]

-- one more entry
pub highest_more : (entries : List FlowEntry) (i : ℕ) (e : FlowEntry) (h : Header) (before after : ℕ) → i < length entries → e ≡ get_or entries i e
    → ((p : ℕ) → leb before p ≡ list_all (λ o. leb o.priority p) (having h (take i entries)))
    → ((p : ℕ) → leb after p ≡ (leb before p && (if has e.pattern h then leb e.priority p else true)))
    → (p : ℕ) → leb after p ≡ list_all (λ o. leb o.priority p) (having h (take (i + 1) entries))
highest_more entries i e h before after lt at so_far step p =
    let more : having h (take (i + 1) entries) ≡ having h (take i entries) ++ (if has e.pattern h then e ∷ [] else []) =
    subst (λ x. having h (take (i + 1) entries) ≡ having h (take i entries) ++ (if has x.pattern h then x ∷ [] else [])) (sym at) (filter_more (λ o. has o.pattern h) entries i e lt) in
    elim (cases_Bool (has e.pattern h)) [
      | inl is ↦ rw (step p, so_far p, more, is, list_all-append (λ (o : FlowEntry). leb o.priority p) (having h (take i entries)) (e ∷ [])) (both_and (list_all (λ (o : FlowEntry). leb o.priority p) (having h (take i entries))) (leb e.priority p))
      | inr not ↦ rw (step p, so_far p, more, not, append-nil (having h (take i entries))) (only_first (list_all (λ (o : FlowEntry). leb o.priority p) (having h (take i entries))))
    ]
  where
    both_and : (x y : Bool) → (x && y) ≡ (x && (y && true))
    both_and true true = refl
    both_and true false = refl
    both_and false y = refl

    only_first : (x : Bool) → (x && true) ≡ x
    only_first true = refl
    only_first false = refl

-- the lists of those that are chosen are the treatment
pub chosen-Treatment : (table : List FlowEntry) (h : Header) (exact : Bool) (highest : ℕ)
    → exact ≡ list_any (λ e. has e.pattern h && is_exact_entry e) table
    → ((p : ℕ) → leb highest p ≡ list_all (λ o. leb o.priority p) (having h table))
    → map (λ e. e.actions) (filter (is_chosen h exact highest) table) ≡ Treatment table h
chosen-Treatment table h exact highest is_exact is_highest_of =
    let found = having h table in
    let any : list_any is_exact_entry found ≡ exact = any_filter is_exact_entry (λ (e : FlowEntry). has e.pattern h) table ∙ sym is_exact in
    ap (map (λ (e : FlowEntry). e.actions)) (elim (cases_Bool exact) [
      | inl is ↦ rw (any, is) (sym (filter_again is_exact_entry (λ (e : FlowEntry). has e.pattern h) table))
      | inr isnt ↦ rw (any, isnt) (
          sym (filter_again (λ (e : FlowEntry). leb highest e.priority) (λ (e : FlowEntry). has e.pattern h) table)
          ∙ filter_agree (λ (e : FlowEntry). leb highest e.priority) (is_highest found) (λ e. is_highest_of e.priority) found)
    ])
