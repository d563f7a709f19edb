-- The steps of a flow-mod: pieces booked again, newcomers collected, and their entries put to their places.
use Rattle.std.proofs.Common.{ℕ, ◌≡◌, ◌+◌, ◌<◌, ◌≤◌, ◌||◌, List, [], ◌∷◌, ◌++◌, length, get_or, take, map, Bool, refl, sym, ap, subst, ◌∙◌, arith, true, false, if◌then◌else◌, inl, inr, append_assoc, append-nil, length-append}
use Rattle.std.proofs.Math.Seq.{get_or-append_seam}
use Rattle.std.proofs.lemmas.List.{map-append, get_or_append_left}
use Rattle.std.specs.Prelude.{filter}
use Rattle.std.specs.List.{list_any}
use Rattle.std.specs.List.Sorted.{IsPermutation}
use Rattle.std.proofs.lemmas.Bool.{cases_Bool}
use Rattle.std.proofs.lemmas.List.Elements.{filter_more}
use Rattle.std.proofs.lemmas.List.Folds.{list_any_more}
use Rattle.std.proofs.lemmas.List.Sums.{count_by_more_yes, count_by_more_no, sum_by_more_le}
use Rattle.std.proofs.lemmas.List.Sorted.{IsPermutation-trans, IsPermutation-append_right, list_any-IsPermutation}
use Rattle.of10_model.specs.declared.pattern.Pattern.{Pattern}
use Rattle.flow_book.specs.declared.booked.Booked.{Booked}
use Rattle.flow_book.specs.Order.{ArePairsInOrder}
use Rattle.flow_book.specs.Books.{is_pair, is_booked, is_newcomer, newcomers_in, first_booked}
use Rattle.flow_book.specs.Adding.{with_asked, again, AreNew}

-- ---- pieces booked again

map_after : {X : Type 0} (f g h : X → X) → ((x : X) → f (g x) ≡ h x) → (xs : List X) → map f (map g xs) ≡ map h xs
map_after f g h e [] = refl
map_after f g h e (x ∷ xs) = rw (e x, map_after f g h e xs) refl

again_step : (ms : List Pattern) (m : Pattern) (p : ℕ) (asked : Bool) (more : List Pattern) → ((b : Booked) → list_any (λ piece. is_pair piece p b) more ≡ (list_any (λ piece. is_pair piece p b) ms || is_pair m p b))
    → (b : Booked) → with_asked m p asked (again ms p asked b) ≡ again more p asked b
again_step ms m p asked more e b = elim (cases_Bool (list_any (λ piece. is_pair piece p b) ms)) [
  | inl before ↦ elim (cases_Bool (is_pair m p b)) [ inl same ↦ rw (e b, before, same) refl | inr other ↦ rw (e b, before, other) refl ]
  | inr not_before ↦ elim (cases_Bool (is_pair m p b)) [ inl same ↦ rw (e b, not_before, same) refl | inr other ↦ rw (e b, not_before, other) refl ]
]

pub again_more : (ms : List Pattern) (i : ℕ) (m : Pattern) (p : ℕ) (asked : Bool) (xs : List Booked) → i < length ms → m ≡ get_or ms i m
    → map (with_asked m p asked) (map (again (take i ms) p asked) xs) ≡ map (again (take (i + 1) ms) p asked) xs
again_more ms i m p asked xs lt at =
    map_after (with_asked m p asked) (again (take i ms) p asked) (again (take (i + 1) ms) p asked)
    (again_step (take i ms) m p asked (take (i + 1) ms) (λ b. list_any_more (λ piece. is_pair piece p b) ms i m lt ∙ ap (λ q. list_any (λ piece. is_pair piece p b) (take i ms) || is_pair q p b) (sym at))) xs

pub again_none : (p : ℕ) (asked : Bool) (xs : List Booked) → map (again [] p asked) xs ≡ xs
again_none p asked [] = refl
again_none p asked (x ∷ xs) = ap (λ l. x ∷ l) (again_none p asked xs)

-- ---- newcomers collected

-- the entries of the newcomers among the first pieces
abbrev pub fresh_of : ℕ → List Pattern → ℕ → Bool → ℕ → List Booked → List Booked
fresh_of command ms p asked number xs = map (first_booked p asked number) (filter (is_newcomer command p xs) ms)

module _ (command : ℕ) (ms : List Pattern) (i : ℕ) (m : Pattern) (p : ℕ) (asked : Bool) (number : ℕ) (xs : List Booked) (lt : i < length ms) (at : m ≡ get_or ms i m) where
  pub fresh_more : is_newcomer command p xs m ≡ true → fresh_of command (take (i + 1) ms) p asked number xs ≡ fresh_of command (take i ms) p asked number xs ++ first_booked p asked number m ∷ []
  fresh_more is =
      let passes : is_newcomer command p xs (get_or ms i m) ≡ true = subst (λ q. is_newcomer command p xs q ≡ true) at is in
      let more : filter (is_newcomer command p xs) (take (i + 1) ms) ≡ filter (is_newcomer command p xs) (take i ms) ++ get_or ms i m ∷ [] =
      filter_more (is_newcomer command p xs) ms i m lt ∙ ap (λ b. filter (is_newcomer command p xs) (take i ms) ++ (if b then get_or ms i m ∷ [] else [])) passes in
      ap (map (first_booked p asked number)) more ∙ map-append (first_booked p asked number) (filter (is_newcomer command p xs) (take i ms)) (get_or ms i m ∷ [])
      ∙ ap (λ q. fresh_of command (take i ms) p asked number xs ++ first_booked p asked number q ∷ []) (sym at)

  pub fresh_same : is_newcomer command p xs m ≡ false → fresh_of command (take (i + 1) ms) p asked number xs ≡ fresh_of command (take i ms) p asked number xs
  fresh_same isnt =
      let fails : is_newcomer command p xs (get_or ms i m) ≡ false = subst (λ q. is_newcomer command p xs q ≡ false) at isnt in
      let more : filter (is_newcomer command p xs) (take (i + 1) ms) ≡ filter (is_newcomer command p xs) (take i ms) ++ [] =
      filter_more (is_newcomer command p xs) ms i m lt ∙ ap (λ b. filter (is_newcomer command p xs) (take i ms) ++ (if b then get_or ms i m ∷ [] else [])) fails in
      ap (map (first_booked p asked number)) more ∙ map-append (first_booked p asked number) (filter (is_newcomer command p xs) (take i ms)) [] ∙ append-nil (fresh_of command (take i ms) p asked number xs)

  pub count_more : is_newcomer command p xs m ≡ true → newcomers_in command (take (i + 1) ms) p xs ≡ newcomers_in command (take i ms) p xs + 1
  count_more is = count_by_more_yes (is_newcomer command p xs) ms i m lt (subst (λ q. is_newcomer command p xs q ≡ true) at is)

  pub count_same : is_newcomer command p xs m ≡ false → newcomers_in command (take (i + 1) ms) p xs ≡ newcomers_in command (take i ms) p xs
  count_same isnt = count_by_more_no (is_newcomer command p xs) ms i m lt (subst (λ q. is_newcomer command p xs q ≡ false) at isnt)

  -- a newcomer is beside those before it within the count of all
  pub count_within : is_newcomer command p xs m ≡ true → newcomers_in command (take i ms) p xs + 1 ≤ newcomers_in command ms p xs
  count_within is =
      let whole = sum_by_more_le (λ q. if is_newcomer command p xs q then 1 else 0) ms i m lt in
      let one : ◌≡◌ {A = ℕ} (if is_newcomer command p xs (get_or ms i m) then 1 else 0) 1 = ap (λ (b : Bool). if b then 1 else 0) (subst (λ q. is_newcomer command p xs q ≡ true) at is) in
      omega (arith, whole, one)

-- ---- entries put to their places

-- of these entries some are settled already
pub record Settling (fresh entries left settled : List Booked) : Type 0 where
  pub moved : IsPermutation (fresh ++ entries) (left ++ settled)
  pub in_order : ArePairsInOrder settled
  pub unbooked : AreNew left settled

AreNew-settled : (left : List Booked) (x : Booked) (settled after : List Booked) → IsPermutation (x ∷ settled) after → AreNew (left ++ x ∷ []) settled → AreNew left after
AreNew-settled left x settled after moved new = record {
  apart = λ i j d lt within.
      let h = new.apart i j d lt (omega (arith, length-append left (x ∷ []))) in
      rw (get_or_append_left left (x ∷ []) d i (omega arith), get_or_append_left left (x ∷ []) d j within) at h;
  absent = λ k d within.
      let y = get_or left k d in
      let apart = new.apart k (length left) d within (omega (arith, length-append left (x ∷ []))) in
      let other : is_pair y.pattern y.priority x ≡ false = rw (get_or_append_left left (x ∷ []) d k within, get_or-append_seam left x [] d) at apart in
      let absent = new.absent k d (omega (arith, length-append left (x ∷ []))) in
      let before : is_booked y.pattern y.priority settled ≡ false = rw (get_or_append_left left (x ∷ []) d k within) at absent in
      sym (list_any-IsPermutation (is_pair y.pattern y.priority) (x ∷ settled) after moved) ∙ ap (λ b. b || is_booked y.pattern y.priority settled) other ∙ before;
}

pub settle_more : (fresh entries left : List Booked) (x : Booked) (before after : List Booked) → Settling fresh entries (left ++ x ∷ []) before → IsPermutation (x ∷ before) after → ArePairsInOrder after → Settling fresh entries left after
settle_more fresh entries left x before after s moved o = record {
  moved = IsPermutation-trans (fresh ++ entries) ((left ++ x ∷ []) ++ before) (left ++ after) s.moved
      (subst (λ l. IsPermutation l (left ++ after)) (sym (append_assoc left (x ∷ []) before)) (IsPermutation-append_right left (x ∷ before) after moved));
  in_order = o;
  unbooked = AreNew-settled left x before after moved s.unbooked;
}
