-- The places of the rules that a slice writes, and the ports from which they take packets.
use Rattle.std.proofs.Common.{◌≡◌, ℕ, ◌+◌, ◌<◌, ◌≤◌, ◌&&◌, Bool, true, false, cond, List, [], ◌∷◌, ◌++◌, length, get_or, take, map, filter, slice_get, All, IfSome, IfNone, Bor, is_some, nat_lt, Option, Some, None, refl, sym, ap, subst, ◌∙◌, arith}
use Rattle.std.proofs.lemmas.Bool.{ltb-true, ltb-false}
use Rattle.std.specs.List.{list_any}
use Rattle.std.proofs.lemmas.List.{append-nil, map-append, length-map, get_or-map}
use Rattle.std.proofs.lemmas.List.Elements.{filter_more, All-nil, All-cons, All-head, All-tail}
use Rattle.std.proofs.lemmas.List.Folds.{list_any_none}
use Rattle.std.proofs.lemmas.Option.{slice_get-get_or, slice_get_within}
use Rattle.of10_model.specs.Normal.{is_value}
use Rattle.of10_model.specs.Pattern.{meets}
use Rattle.flowspace.specs.declared.rules.Rule.{Rule}
use Rattle.flowspace.specs.Rules.{is_written_by}
use Rattle.flowspace.specs.Owners.{is_rule_at}
use Rattle.flowspace.specs.Places.{AreWritePlaces}

-- ---- places, rule by rule

-- of the first so many rules those that a slice writes stand at these places
abbrev pub ArePlacesIn : List Rule → ℕ → ℕ → List ℕ → Type 0
ArePlacesIn rules slot i places = map (slice_get rules) places ≡ map Some (filter (is_written_by slot) (take i rules))

kept_rule : (rules : List Rule) (slot i : ℕ) (rule : Rule) (b : Bool) → i < length rules → rule ≡ get_or rules i rule → is_written_by slot rule ≡ b
    → map Some (filter (is_written_by slot) (take (i + 1) rules)) ≡ map Some (filter (is_written_by slot) (take i rules)) ++ map Some (cond b (rule ∷ []) [])
kept_rule rules slot i rule b lt at written =
    ap (map Some) (filter_more (is_written_by slot) rules i rule lt
    ∙ ap (λ r. filter (is_written_by slot) (take i rules) ++ cond (is_written_by slot r) (r ∷ []) []) (sym at)
    ∙ ap (λ t. filter (is_written_by slot) (take i rules) ++ cond t (rule ∷ []) []) written)
    ∙ map-append Some (filter (is_written_by slot) (take i rules)) (cond b (rule ∷ []) [])

pub places_more : (rules : List Rule) (slot i : ℕ) (rule : Rule) (places : List ℕ) → i < length rules → rule ≡ get_or rules i rule → is_written_by slot rule ≡ true
    → ArePlacesIn rules slot i places → ArePlacesIn rules slot (i + 1) (places ++ i ∷ [])
places_more rules slot i rule places lt at written so_far =
    map-append (slice_get rules) places (i ∷ [])
    ∙ ap (λ o. map (slice_get rules) places ++ o ∷ []) (slice_get-get_or rules i rule lt ∙ ap Some (sym at))
    ∙ ap (λ os. os ++ Some rule ∷ []) so_far
    ∙ sym (kept_rule rules slot i rule true lt at written)

pub places_same : (rules : List Rule) (slot i : ℕ) (rule : Rule) (places : List ℕ) → i < length rules → rule ≡ get_or rules i rule → is_written_by slot rule ≡ false
    → ArePlacesIn rules slot i places → ArePlacesIn rules slot (i + 1) places
places_same rules slot i rule places lt at written so_far =
    so_far ∙ sym (append-nil (map Some (filter (is_written_by slot) (take i rules)))) ∙ sym (kept_rule rules slot i rule false lt at written)

-- ---- slots that aren't there

not_written : (slot n : ℕ) (o : Option ℕ) → n ≤ slot → IfSome o (λ w. w < n) → is_value slot o ≡ false
not_written slot n None le known = refl
not_written slot n (Some w) le known = grind arith

pub none_written : (rules : List Rule) (slot n : ℕ) → n ≤ slot → All (λ r. IfSome r.writer (λ w. w < n)) rules → All (λ r. is_written_by slot r ≡ false) rules
none_written rules slot n le known k d lt = not_written slot n (get_or rules k d).writer le (known k d lt)

no_filter : {A : Type 0} (p : A → Bool) (xs : List A) → All (λ x. p x ≡ false) xs → filter p xs ≡ []
no_filter p [] none = refl
no_filter p (x ∷ xs) none = rw (All-head (λ y. p y ≡ false) x xs none) (no_filter p xs (All-tail (λ y. p y ≡ false) x xs none))

pub no_places : (rules : List Rule) (slot : ℕ) → All (λ r. is_written_by slot r ≡ false) rules → AreWritePlaces rules slot []
no_places rules slot none = ap (map Some) (sym (no_filter (is_written_by slot) rules none))

pub no_ports : (rules : List Rule) (slot port : ℕ) → All (λ r. is_written_by slot r ≡ false) rules → list_any (is_rule_at slot port) rules ≡ false
no_ports rules slot port none = list_any_none (is_rule_at slot port) rules (λ k d lt. ap (λ b. b && meets (get_or rules k d).pattern.in_port port) (none k d lt))

-- ---- what is kept for a slot

-- nothing is kept past the end
pub none_past : {A : Type 0} (r : Option A) (i n : ℕ) (P : Type 0) → is_some r ≡ nat_lt i n → (n ≤ i → P) → IfNone r P
none_past None i n P e past = past (ltb-false i n (sym e))
none_past (Some x) i n P e past = tt

-- and what is kept before it is that of the slot
pub some_at : {A : Type 0} (r : Option (Bor A)) (xs : List A) (i : ℕ) (P : A → Type 0) → is_some r ≡ nat_lt i (length xs) → IfSome r (λ x. x.now ≡ get_or xs i x.now)
    → ((d : A) → i < length xs → P (get_or xs i d)) → IfSome r (λ x. P x.now)
some_at None xs i P within at each = tt
some_at (Some x) xs i P within at each = subst P (sym at) (each x.now (ltb-true i (length xs) (sym within)))

-- ---- what the places say of the rules that a slice writes

-- there are as many places as such rules
pub places_length : (rules : List Rule) (slot : ℕ) (places : List ℕ) → AreWritePlaces rules slot places → length places ≡ length (filter (is_written_by slot) rules)
places_length rules slot places at_places = sym (length-map places (slice_get rules)) ∙ ap length at_places ∙ length-map (filter (is_written_by slot) rules) Some

-- and the rule at each is the one in its turn
pub rule_at_place : (rules : List Rule) (slot : ℕ) (places : List ℕ) (i place : ℕ) (rule : Rule) → AreWritePlaces rules slot places → i < length places → place ≡ get_or places i place
    → slice_get rules place ≡ Some (get_or (filter (is_written_by slot) rules) i rule)
rule_at_place rules slot places i place rule at_places lt at =
    let same = places_length rules slot places at_places in
    let within : i < length (filter (is_written_by slot) rules) = omega arith in
    ap (slice_get rules) at
    ∙ sym (get_or-map (slice_get rules) places i place None lt)
    ∙ ap (λ os. get_or os i None) at_places
    ∙ get_or-map Some (filter (is_written_by slot) rules) i rule None within

-- the places are within the rules
some_within : {A : Type 0} (xs ys : List A) (places : List ℕ) → map (slice_get xs) places ≡ map Some ys → All (λ place. place < length xs) places
some_within xs ys [] e = All-nil (λ place. place < length xs)
some_within xs [] (place ∷ places) e = absurd (cc)
some_within xs (y ∷ ys) (place ∷ places) e =
    let first : slice_get xs place ≡ Some y = cc in
    let others : map (slice_get xs) places ≡ map Some ys = cc in
    All-cons (λ p. p < length xs) place places (slice_get_within xs place y first) (some_within xs ys places others)

pub places_within : (rules : List Rule) (slot : ℕ) (places : List ℕ) → AreWritePlaces rules slot places → All (λ place. place < length rules) places
places_within rules slot places at_places = some_within rules (filter (is_written_by slot) rules) places at_places
