-- The treatment has the action lists of the entries that may be chosen.
use Rattle.std.proofs.Common.{◌≡◌, ◌↔◌, ◌⊎◌, ℕ, ◌<◌, leb, Bool, true, false, List, [], ◌∷◌, map, filter, zero, suc, length, get_or, refl, sym, ap, subst, inl, inr, arith}
use Rattle.std.specs.Prelude.{Contains}
use Rattle.std.specs.List.{list_any, list_all}
use Rattle.std.proofs.lemmas.Bool.{cases_Bool, both_ways, and_parts, and_from, leb-true, le-leb}
use Rattle.std.proofs.lemmas.List.Elements.{All-contains, Contains-get_or}
use Rattle.of10_model.specs.Header.{Header}
use Rattle.of10_model.specs.Pattern.{Has, has}
use Rattle.of10_model.proofs.Membership.{has_iff_Has}
use Rattle.of10_action.specs.declared.action.Action.{Action}
use Rattle.of10_flow.specs.declared.flow_entry.FlowEntry.{FlowEntry}
use Rattle.of10_flow.specs.Tables.{is_exact_entry, is_highest, having, foremost, Treatment}
use Rattle.of10_flow.specs.TableLaws.{IsNoLower, MayBeChosen}

-- ---- elements of lists

-- what a list has by recursion: the first, or one of the others
abbrev pub Among : {A : Type 0} → A → List A → Type 0
Among x [] = ⊥
Among x (y ∷ ys) = (y ≡ x) ⊎ Among x ys

at_place : {A : Type 0} (ys : List A) (y x : A) → (Contains ys x → Among x ys) → (k : ℕ) → k < length (y ∷ ys) → get_or (y ∷ ys) k x ≡ x → Among x (y ∷ ys)
at_place ys y x later zero lt is = inl is
at_place ys y x later (suc k) lt is = inr (later (k, omega arith, is))

among : {A : Type 0} (xs : List A) (x : A) → Contains xs x → Among x xs
among [] x at = (let lt = at.1 in absurd (omega arith))
among (y ∷ ys) x at = at_place ys y x (among ys x) at.0 at.1 at.2

contains : {A : Type 0} (xs : List A) (x : A) → Among x xs → Contains xs x
contains [] x none = elim none [ ]
contains (y ∷ ys) x (inl is) = (0, omega arith, is)
contains (y ∷ ys) x (inr later) = (let at = contains ys x later in (suc at.0, (let lt = at.1 in omega arith), at.2))

pub Contains-iff : {A : Type 0} (xs : List A) (x : A) → Contains xs x ↔ Among x xs
Contains-iff xs x = (among xs x, contains xs x)

first_passes : {A : Type 0} (p : A → Bool) (y : A) (ys : List A) (x : A) → (Among x (filter p ys) → Among x ys × (p x ≡ true)) → p y ≡ true → (y ≡ x) ⊎ Among x (filter p ys) → Among x (y ∷ ys) × (p x ≡ true)
first_passes p y ys x rest is (inl same) = (inl same, subst (λ z. p z ≡ true) same is)
first_passes p y ys x rest is (inr later) = (let more = rest later in (inr more.0, more.1))

pub among_filter : {A : Type 0} (p : A → Bool) (xs : List A) (x : A) → Among x (filter p xs) → Among x xs × (p x ≡ true)
among_filter p [] x none = elim none [ ]
among_filter p (y ∷ ys) x here = elim (cases_Bool (p y)) [
  | inl is ↦ first_passes p y ys x (among_filter p ys x) is (rw is at here)
  | inr isnt ↦ (let later = among_filter p ys x (rw isnt at here) in (inr later.0, later.1))
]

pub filter_among : {A : Type 0} (p : A → Bool) (xs : List A) (x : A) → Among x xs → p x ≡ true → Among x (filter p xs)
filter_among p [] x none passes = elim none [ ]
filter_among p (y ∷ ys) x (inl same) passes = (let is : p y ≡ true = subst (λ z. p z ≡ true) (sym same) passes in rw is (inl same))
filter_among p (y ∷ ys) x (inr later) passes = elim (cases_Bool (p y)) [
  | inl is ↦ rw is (inr (filter_among p ys x later passes))
  | inr isnt ↦ rw isnt (filter_among p ys x later passes)
]

pub among_map : {A B : Type 0} (f : A → B) (xs : List A) (y : B) → Among y (map f xs) → (x : A) × Among x xs × (f x ≡ y)
among_map f [] y none = elim none [ ]
among_map f (x ∷ xs) y (inl is) = (x, inl refl, is)
among_map f (x ∷ xs) y (inr later) = (let more = among_map f xs y later in (more.0, inr more.1, more.2))

pub map_among : {A B : Type 0} (f : A → B) (xs : List A) (x : A) → Among x xs → Among (f x) (map f xs)
map_among f [] x none = elim none [ ]
map_among f (y ∷ ys) x (inl is) = inl (ap f is)
map_among f (y ∷ ys) x (inr later) = inr (map_among f ys x later)

pub any_among : {A : Type 0} (p : A → Bool) (xs : List A) (x : A) → Among x xs → p x ≡ true → list_any p xs ≡ true
any_among p [] x none passes = elim none [ ]
any_among p (y ∷ ys) x (inl same) passes = (let is : p y ≡ true = subst (λ z. p z ≡ true) (sym same) passes in rw is refl)
any_among p (y ∷ ys) x (inr later) passes = elim (cases_Bool (p y)) [ inl is ↦ rw is refl | inr isnt ↦ rw isnt (any_among p ys x later passes) ]

pub among_any : {A : Type 0} (p : A → Bool) (xs : List A) → list_any p xs ≡ true → (x : A) × Among x xs × (p x ≡ true)
among_any p [] some = absurd (let no : false ≡ true = some in cc)
among_any p (y ∷ ys) some = elim (cases_Bool (p y)) [
  | inl is ↦ (y, inl refl, is)
  | inr isnt ↦ (let more = among_any p ys (rw isnt at some) in (more.0, inr more.1, more.2))
]

all_among : {A : Type 0} (p : A → Bool) (xs : List A) → list_all p xs ≡ true → (x : A) → Among x xs → p x ≡ true
all_among p [] all x none = elim none [ ]
all_among p (y ∷ ys) all x (inl same) = subst (λ z. p z ≡ true) same (and_parts (p y) (list_all p ys) all).0
all_among p (y ∷ ys) all x (inr later) = all_among p ys (and_parts (p y) (list_all p ys) all).1 x later

among_all : {A : Type 0} (p : A → Bool) (xs : List A) → ((x : A) → Among x xs → p x ≡ true) → list_all p xs ≡ true
among_all p [] each = refl
among_all p (y ∷ ys) each = and_from (p y) (list_all p ys) (each y (inl refl)) (among_all p ys (λ x later. each x (inr later)))

-- ---- the foremost of some entries

abbrev pub IsForemost : List FlowEntry → FlowEntry → Type 0
IsForemost entries e = Among e entries × ((o : FlowEntry) → Among o entries → IsNoLower e o)

is_foremost : (entries : List FlowEntry) (e : FlowEntry) → Among e (foremost entries) → IsForemost entries e
is_foremost entries e here = elim (cases_Bool (list_any is_exact_entry entries)) [
  | inl some ↦ (let kept = among_filter is_exact_entry entries e (rw some at here) in (kept.0, λ o there. inl kept.1))
  | inr none ↦
      let kept = among_filter (is_highest entries) entries e (rw none at here) in
      (kept.0, λ o there. inr (λ exact. both_ways (list_any is_exact_entry entries) none (any_among is_exact_entry entries o there exact), leb-true o.priority e.priority (all_among (λ x. leb x.priority e.priority) entries kept.1 o there)))
]

foremost_is : (entries : List FlowEntry) (e : FlowEntry) → IsForemost entries e → Among e (foremost entries)
foremost_is entries e first = elim (cases_Bool (list_any is_exact_entry entries)) [
  | inl some ↦
      let one = among_any is_exact_entry entries some in
      rw some (filter_among is_exact_entry entries e first.0 (elim (first.1 one.0 one.1) [ inl exact ↦ exact | inr lower ↦ absurd (lower.0 one.2) ]))
  | inr none ↦ rw none (filter_among (is_highest entries) entries e first.0 (among_all (λ x. leb x.priority e.priority) entries (λ o there. elim (first.1 o there) [
    | inl exact ↦ absurd (both_ways (list_any is_exact_entry entries) none (any_among is_exact_entry entries e first.0 exact))
    | inr no_lower ↦ le-leb o.priority e.priority no_lower.1
  ])))
]

-- ---- the treatment

chosen_foremost : (table : List FlowEntry) (h : Header) (e : FlowEntry) → MayBeChosen table h e ↔ IsForemost (having h table) e
chosen_foremost table h e = (
  λ c. (
    filter_among (λ x. has x.pattern h) table e (among table e c.is_there) ((has_iff_Has e.pattern h).1 c.has_header),
    λ o there. (let kept = among_filter (λ x. has x.pattern h) table o there in
        All-contains (λ x. Has x.pattern h → IsNoLower e x) table o c.is_first (contains table o kept.0) ((has_iff_Has o.pattern h).0 kept.1)),
  ),
  λ f. (let kept = among_filter (λ x. has x.pattern h) table e f.0 in
      record {
        is_there = contains table e kept.0;
        has_header = (has_iff_Has e.pattern h).0 kept.1;
        is_first = λ k d lt has_it. f.1 (get_or table k d) (filter_among (λ x. has x.pattern h) table (get_or table k d) (among table (get_or table k d) (Contains-get_or table k d lt)) ((has_iff_Has (get_or table k d).pattern h).1 has_it));
      }),
)

pub Treatment-iff : (table : List FlowEntry) (h : Header) (actions : List Action) → Contains (Treatment table h) actions ↔ ((e : FlowEntry) × MayBeChosen table h e × (e.actions ≡ actions))
Treatment-iff table h actions =
    let entries = having h table in (
      λ some. (let one = among_map (λ (e : FlowEntry). e.actions) (foremost entries) actions (among (Treatment table h) actions some) in
          (one.0, (chosen_foremost table h one.0).1 (is_foremost entries one.0 one.1), one.2)),
      λ some. (let there = map_among (λ (e : FlowEntry). e.actions) (foremost entries) some.0 (foremost_is entries some.0 ((chosen_foremost table h some.0).0 some.1)) in
          contains (Treatment table h) actions (subst (λ l. Among l (Treatment table h)) some.2 there)),
    )
