-- What lies at places, when the store or the list of places changes.
use Rattle.std.proofs.Common.{ℕ, ◌≡◌, ◌≢◌, ◌+◌, ◌<◌, ◌≤◌, List, [], ◌∷◌, ◌++◌, zero, suc, length, get_or, set, refl, sym, ap, subst, ◌∙◌, arith, inl, inr}
use Rattle.std.specs.List.{insert, remove}
use Rattle.std.proofs.lemmas.Bool.{cases_lt, eq-eqb, ne_eqb}
use Rattle.std.proofs.lemmas.List.{get_or-map, get_or_default, length-map, get_or-set_same, get_or-set_other, get_or_append_left}
use Rattle.flow_book.specs.declared.booked.Booked.{Booked}
use Rattle.flow_book.specs.Store.{no_pair, at_places, times, EachOnce}

-- ---- how often a place is in a list

pub times-append : (place : ℕ) (xs ys : List ℕ) → times place (xs ++ ys) ≡ times place xs + times place ys
times-append place [] ys = omega arith
times-append place (x ∷ xs) ys = (let rest = times-append place xs ys in omega (arith, rest))

pub times-insert : (place p i : ℕ) (xs : List ℕ) → times place (insert xs i p) ≡ times place (p ∷ xs)
times-insert place p zero xs = refl
times-insert place p (suc i) [] = refl
times-insert place p (suc i) (x ∷ xs) = (let rest = times-insert place p i xs in omega (arith, rest))

pub times-remove : (place i d : ℕ) (xs : List ℕ) → i < length xs → times place (get_or xs i d ∷ remove xs i) ≡ times place xs
times-remove place i d [] lt = absurd (omega arith)
times-remove place zero d (x ∷ xs) lt = refl
times-remove place (suc i) d (x ∷ xs) lt = (let rest = times-remove place i d xs (omega arith) in omega (arith, rest))

pub times_itself : (place : ℕ) (xs : List ℕ) → times place (place ∷ xs) ≡ 1 + times place xs
times_itself place xs = rw (eq-eqb place place refl) refl

pub times_other : (place p : ℕ) (xs : List ℕ) → p ≢ place → times place (p ∷ xs) ≡ times place xs
times_other place p xs apart = rw (ne_eqb p place apart) (omega arith)

pub times-at : (xs : List ℕ) (i d : ℕ) → i < length xs → 1 ≤ times (get_or xs i d) xs
times-at xs i d lt =
    let whole = times-remove (get_or xs i d) i d xs lt in
    let first = times_itself (get_or xs i d) (remove xs i) in
    omega (arith, whole, first)

none_first : (place p : ℕ) (xs : List ℕ) → times place (p ∷ xs) ≡ 0 → p ≢ place
none_first place p xs none same = (let first = times_itself place xs in let here : times place (place ∷ xs) ≡ 0 = subst (λ q. times place (q ∷ xs) ≡ 0) same none in omega (arith, first, here))

-- ---- pairs at places

pub at_places-set_other : (store : List Booked) (place : ℕ) (y : Booked) (ps : List ℕ) → times place ps ≡ 0 → at_places (set store place y) ps ≡ at_places store ps
at_places-set_other store place y [] none = refl
at_places-set_other store place y (p ∷ ps) none =
    let apart = none_first place p ps none in
    let rest = at_places-set_other store place y ps (sym (times_other place p ps apart) ∙ none) in
    rw (get_or-set_other store place p y no_pair apart, rest) refl

pub at_places-push : (store : List Booked) (y : Booked) (ps : List ℕ) → ((p : ℕ) → length store ≤ p → times p ps ≡ 0) → at_places (store ++ y ∷ []) ps ≡ at_places store ps
at_places-push store y [] beyond = refl
at_places-push store y (p ∷ ps) beyond =
    let rest = at_places-push store y ps (λ q le. (let none = beyond q le in omega (arith, none))) in
    elim (cases_lt p (length store)) [
      | inl below ↦ rw (get_or_append_left store (y ∷ []) no_pair p below, rest) refl
      | inr above ↦ absurd (none_first p p ps (beyond p above) refl)
    ]

-- a pair is changed at a place that is once in the list
pub at_places-set : (store : List Booked) (ps : List ℕ) (i place d : ℕ) (y : Booked) → i < length ps → get_or ps i d ≡ place → times place ps ≤ 1 → place < length store
    → at_places (set store place y) ps ≡ set (at_places store ps) i y
at_places-set store [] i place d y lt is once within = absurd (omega arith)
at_places-set store (p ∷ ps) zero place d y lt is once within =
    let first : times place (p ∷ ps) ≡ 1 + times place ps = subst (λ q. times place (q ∷ ps) ≡ 1 + times place ps) (sym is) (times_itself place ps) in
    let rest = at_places-set_other store place y ps (omega (arith, first, once)) in
    let here : get_or (set store place y) p no_pair ≡ y = ap (λ q. get_or (set store place y) q no_pair) is ∙ get_or-set_same store place y no_pair within in
    rw (here, rest) refl
at_places-set store (p ∷ ps) (suc i) place d y lt is once within =
    let later : 1 ≤ times place ps = subst (λ q. 1 ≤ times q ps) is (times-at ps i d (omega arith)) in
    let apart : p ≢ place = λ same. (let first = times_itself place ps in let all : times place (place ∷ ps) ≤ 1 = subst (λ q. times place (q ∷ ps) ≤ 1) same once in omega (arith, first, all, later)) in
    let rest = at_places-set store ps i place d y (omega arith) is (let other = times_other place p ps apart in omega (arith, other, once)) within in
    rw (get_or-set_other store place p y no_pair apart, rest) refl

pub at_places-insert : (store : List Booked) (ps : List ℕ) (i p : ℕ) → at_places store (insert ps i p) ≡ insert (at_places store ps) i (get_or store p no_pair)
at_places-insert store ps zero p = refl
at_places-insert store [] (suc i) p = refl
at_places-insert store (q ∷ ps) (suc i) p = ap (λ l. get_or store q no_pair ∷ l) (at_places-insert store ps i p)

pub at_places-remove : (store : List Booked) (ps : List ℕ) (i : ℕ) → at_places store (remove ps i) ≡ remove (at_places store ps) i
at_places-remove store [] zero = refl
at_places-remove store [] (suc i) = refl
at_places-remove store (q ∷ ps) zero = refl
at_places-remove store (q ∷ ps) (suc i) = ap (λ l. get_or store q no_pair ∷ l) (at_places-remove store ps i)

pub length-at_places : (store : List Booked) (ps : List ℕ) → length (at_places store ps) ≡ length ps
length-at_places store ps = length-map ps (λ place. get_or store place no_pair)

-- a pair that is read at a place, and the place at an index
pub at_places-at : (store : List Booked) (ps : List ℕ) (i p : ℕ) (x d : Booked) → i < length ps → p ≡ get_or ps i p → p < length store → x ≡ get_or store p x → get_or (at_places store ps) i d ≡ x
at_places-at store ps i p x d lt is within at =
    get_or-map (λ place. get_or store place no_pair) ps i p d lt ∙ ap (λ q. get_or store q no_pair) (sym is) ∙ get_or_default store p no_pair x within ∙ sym at

pub none_left : (xs : List ℕ) → length xs ≡ 0 → xs ≡ []
none_left [] none = refl
none_left (x ∷ xs) none = absurd (omega (arith, none))

-- ---- each place once

module _ (size : ℕ) (order free : List ℕ) (each : EachOnce size order free) where
  pub order_within : (i d : ℕ) → i < length order → get_or order i d < size
  order_within i d lt = elim (cases_lt (get_or order i d) size) [
    | inl below ↦ below
    | inr above ↦ (let some = times-at order i d lt in let none = each.beyond (get_or order i d) above in absurd (omega (arith, some, none)))
  ]

  pub order_once : (place : ℕ) → times place order ≤ 1
  order_once place = elim (cases_lt place size) [
    | inl below ↦ (let one = each.within place below in omega (arith, one))
    | inr above ↦ (let none = each.beyond place above in omega (arith, none))
  ]

  pub EachOnce-insert : (i p : ℕ) (others : List ℕ) → order ≡ p ∷ others → EachOnce size (insert others i p) free
  EachOnce-insert i p others is = record {
    within = λ place lt. (let one = each.within place lt in let moved = times-insert place p i others in let same = ap (times place) is in omega (arith, one, moved, same));
    beyond = λ place le. (let none = each.beyond place le in let moved = times-insert place p i others in let same = ap (times place) is in omega (arith, none, moved, same));
  }

  pub EachOnce-remove : (i x : ℕ) → i < length order → x ≡ get_or order i x → EachOnce size (remove order i) (free ++ x ∷ [])
  EachOnce-remove i x lt is =
      let moved : (place : ℕ) → times place (remove order i) + times place (free ++ x ∷ []) ≡ times place order + times place free = λ place. (
      let whole = times-remove place i x order lt in
      let last = times-append place free (x ∷ []) in
      let same : times place (get_or order i x ∷ remove order i) ≡ times place (x ∷ remove order i) = ap (λ q. times place (q ∷ remove order i)) (sym is) in
      omega (arith, whole, last, same)) in
      record {
        within = λ place below. moved place ∙ each.within place below;
        beyond = λ place above. moved place ∙ each.beyond place above;
      }

-- a free place, the last, is taken
module _ (size : ℕ) (order left : List ℕ) (place : ℕ) (each : EachOnce size order (left ++ place ∷ [])) where
  last_free : times place (left ++ place ∷ []) ≡ times place left + 1
  last_free = (let last = times-append place left (place ∷ []) in let one = times_itself place [] in omega (arith, last, one))

  pub free_within : place < size
  free_within = elim (cases_lt place size) [
    | inl below ↦ below
    | inr above ↦ (let none = each.beyond place above in let last = last_free in absurd (omega (arith, none, last)))
  ]

  pub free_elsewhere : times place order ≡ 0
  free_elsewhere = (let one = each.within place free_within in let last = last_free in omega (arith, one, last))

  pub EachOnce-taken : EachOnce size (place ∷ order) left
  EachOnce-taken =
      let moved : (p : ℕ) → times p (place ∷ order) + times p left ≡ times p order + times p (left ++ place ∷ []) = λ p. (let last = times-append p left (place ∷ []) in omega (arith, last)) in
      record {
        within = λ p below. moved p ∙ each.within p below;
        beyond = λ p above. moved p ∙ each.beyond p above;
      }

-- a place comes behind all others
module _ (size : ℕ) (order : List ℕ) (each : EachOnce size order []) where
  pub none_beyond : (p : ℕ) → size ≤ p → times p order ≡ 0
  none_beyond p le = (let none = each.beyond p le in omega (arith, none))

  pub EachOnce-behind : EachOnce (size + 1) (size ∷ order) []
  EachOnce-behind = record {
    within = λ p below. elim (cases_lt p size) [
      | inl before ↦ (let one = each.within p before in let other = times_other p size order (λ e. omega arith) in omega (arith, one, other))
      | inr last ↦ (
          let same : p ≡ size = omega arith in
          let one : times size (size ∷ order) + times size [] ≡ 1 = (let first = times_itself size order in let none = none_beyond size (omega arith) in omega (arith, first, none)) in
          subst (λ q. times q (size ∷ order) + times q [] ≡ 1) (sym same) one)
    ];
    beyond = λ p above. (let none = none_beyond p (omega arith) in let other = times_other p size order (λ e. omega arith) in omega (arith, none, other));
  }
