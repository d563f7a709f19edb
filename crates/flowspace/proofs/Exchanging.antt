-- Numbers that are exchanged are exchanged back.
use Rattle.std.proofs.Common.{◌≡◌, ◌≢◌, ℕ, zero, suc, ◌<◌, ◌==◌, ◌&&◌, ◌||◌, Bool, true, false, if◌then◌else◌, List, [], ◌∷◌, length, get_or, map, filter, All, AllPairs, refl, sym, ◌∙◌, arith, inl, inr, eqb-true, eq-eqb, ne_eqb}
use Rattle.std.proofs.lemmas.Bool.{cases_Bool, and_from, true≢false}
use Rattle.std.proofs.lemmas.List.Elements.{All-head, All-tail, All-map, All-filter, filter_passes}
use Rattle.std.proofs.lemmas.List.Kept.{AllPairs-filter}
use Rattle.flowspace.specs.declared.swaps.Swap.{Swap}
use Rattle.flowspace.specs.Rules.{have_switch}
use Rattle.flowspace.specs.Swaps.{holds_swap, swaps_on, is_swap_of, Pairs, numbers_of, pairs_of, swapped, names_number, share_number, AreSwaps}
use Rattle.flowspace.proofs.Parts.{have_switch-names}

-- ---- pairs

-- a pair doesn't name a number
abbrev IsFree : ℕ → ℕ × ℕ → Type 0
IsFree port pair = (pair.0 ≢ port) × (pair.1 ≢ port)

-- no number is named by two pairs
abbrev AreApart : Pairs → Type 0
AreApart [] = Unit {0}
AreApart (pair ∷ others) = All (IsFree pair.0) others × All (IsFree pair.1) others × AreApart others

-- a number that no pair names isn't what another is exchanged for
elsewhere : (others : Pairs) (n port : ℕ) → All (IsFree n) others → port ≢ n → swapped others port ≢ n
elsewhere [] n port free other = other
elsewhere (pair ∷ others) n port free other = elim (cases_Bool (port == pair.0)) [
  | inl is ↦ rw is (All-head (IsFree n) pair others free).1
  | inr isnt ↦ elim (cases_Bool (port == pair.1)) [
    | inl is ↦ rw (isnt, is) (All-head (IsFree n) pair others free).0
    | inr also ↦ rw (isnt, also) (elsewhere others n port (All-tail (IsFree n) pair others free) other)
  ]
]

not_same : (a b : ℕ) → (a == b) ≡ false → a ≢ b
not_same a b isnt is = absurd (let clash : true ≡ false = sym (eq-eqb a b is) ∙ isnt in cc)

swapped_back : (pairs : Pairs) (port : ℕ) → AreApart pairs → swapped pairs (swapped pairs port) ≡ port
swapped_back [] port apart = refl
swapped_back (pair ∷ others) port apart = elim (cases_Bool (port == pair.0)) [
  | inl is ↦ rw is (first pair.0 pair.1 others port (eqb-true port pair.0 is))
  | inr isnt ↦ elim (cases_Bool (port == pair.1)) [
    | inl is ↦ rw (isnt, is, eq-eqb pair.0 pair.0 refl) (sym (eqb-true port pair.1 is))
    | inr also ↦
        let p = swapped others port in
        let one = ne_eqb p pair.0 (elsewhere others pair.0 port apart.0 (not_same port pair.0 isnt)) in
        let two = ne_eqb p pair.1 (elsewhere others pair.1 port apart.1 (not_same port pair.1 also)) in
        rw (isnt, also, one, two) (swapped_back others port apart.2)
  ]
]
  where
    first : (a b : ℕ) (others : Pairs) (port : ℕ) → port ≡ a → (if b == a then b else if b == b then a else swapped others b) ≡ port
    first a b others port is = elim (cases_Bool (b == a)) [
      | inl same ↦ rw same (eqb-true b a same ∙ sym is)
      | inr other ↦ rw (other, eq-eqb b b refl) (sym is)
    ]

-- ---- swaps of one slice on one switch

abbrev ShareNone : Swap → Swap → Type 0
ShareNone earlier later = share_number earlier later ≡ false

pub either_false : (a b : Bool) → (a || b) ≡ false → (a ≡ false) × (b ≡ false)
either_false false b e = (refl, e)
either_false true b e = absurd (true≢false e)

both_false : (a b : Bool) → a ≡ true → (a && b) ≡ false → b ≡ false
both_false a b is e = rw is at e

-- two of them that share no number
free : (slot datapath : ℕ) (a b : Swap) → is_swap_of slot a ≡ true → is_swap_of slot b ≡ true → holds_swap datapath a ≡ true → holds_swap datapath b ≡ true → ShareNone a b
    → IsFree a.shown (numbers_of b) × IsFree a.physical (numbers_of b)
free slot datapath a b of_a of_b on_a on_b none =
    let same : (a.slice == b.slice) ≡ true = eq-eqb a.slice b.slice (eqb-true a.slice slot of_a ∙ sym (eqb-true b.slice slot of_b)) in
    let together : have_switch a.switch b.switch ≡ true = have_switch-names datapath a.switch b.switch on_a on_b in
    let apart = both_false (a.slice == b.slice && have_switch a.switch b.switch) (names_number b.shown a || names_number b.physical a) (and_from _ _ same together) none in
    let names = either_false (names_number b.shown a) (names_number b.physical a) apart in
    let shown = either_false (a.shown == b.shown) (a.physical == b.shown) names.0 in
    let physical = either_false (a.shown == b.physical) (a.physical == b.physical) names.1 in
    ((λ e. not_same _ _ shown.0 (sym e), λ e. not_same _ _ physical.0 (sym e)), (λ e. not_same _ _ shown.1 (sym e), λ e. not_same _ _ physical.1 (sym e)))

apart_pairs : (slot datapath : ℕ) (ws : List Swap) → All (λ w. is_swap_of slot w ≡ true) ws → All (λ w. holds_swap datapath w ≡ true) ws → AllPairs ShareNone ws → AreApart (map numbers_of ws)
apart_pairs slot datapath [] of_slot on pairs = tt
apart_pairs slot datapath (w ∷ ws) of_slot on pairs =
    let each : (k : ℕ) (d : Swap) → k < length ws → IsFree w.shown (numbers_of (get_or ws k d)) × IsFree w.physical (numbers_of (get_or ws k d)) =
    λ k d lt. free slot datapath w (get_or ws k d) (of_slot zero w (omega arith)) (of_slot (suc k) d (omega arith)) (on zero w (omega arith)) (on (suc k) d (omega arith)) (pairs zero (suc k) d (omega arith) (omega arith)) in (
      All-map (IsFree w.shown) numbers_of ws (λ k d lt. (each k d lt).0),
      All-map (IsFree w.physical) numbers_of ws (λ k d lt. (each k d lt).1),
      apart_pairs slot datapath ws (All-tail (λ v. is_swap_of slot v ≡ true) w ws of_slot) (All-tail (λ v. holds_swap datapath v ≡ true) w ws on) (λ i j d lt long. pairs (suc i) (suc j) d (omega arith) (omega arith)),
    )

-- what is exchanged twice is as it was
pub exchanged_back : (slots : ℕ) (ws : List Swap) → AreSwaps slots ws → (datapath slot port : ℕ) → swapped (pairs_of (swaps_on datapath ws) slot) (swapped (pairs_of (swaps_on datapath ws) slot) port) ≡ port
exchanged_back slots ws h datapath slot port =
    let held = swaps_on datapath ws in
    let own = filter (is_swap_of slot) held in
    swapped_back (pairs_of held slot) port (apart_pairs slot datapath own (filter_passes (is_swap_of slot) held)
    (All-filter (is_swap_of slot) (λ w. holds_swap datapath w ≡ true) held (filter_passes (holds_swap datapath) ws))
    (AllPairs-filter ShareNone (is_swap_of slot) held (AllPairs-filter ShareNone (holds_swap datapath) ws h.apart)))
