-- Which swaps have no fault, and that numbers which are exchanged are exchanged back.
use Rattle.std.proofs.Common.{◌≡◌, ℕ, ◌-◌, suc, ◌<◌, ◌≤◌, ◌==◌, not, nat_lt, true, false, if◌then◌else◌, List, [], ◌∷◌, length, get_or, take, drop, filter, All, AllPairs, Option, Some, None, Result, Ok, Err, refl, sym, ap, ap₂, ◌∙◌, arith, inl, inr, ne_eqb}
use Rattle.std.specs.Option.{option_or}
use Rattle.std.proofs.Math.Seq.{drop-cons}
use Rattle.std.proofs.lemmas.Bool.{cases_Bool, cond-true, cond-false, false_from_ne_true, lt-ltb, ltb-true}
use Rattle.std.proofs.lemmas.List.{get_or-take, get_or_default, length-take-le}
use Rattle.std.proofs.lemmas.List.Elements.{All-head, All-tail, All-filter}
use Rattle.std.proofs.lemmas.List.Filters.{length-filter_both}
use Rattle.std.proofs.lemmas.List.Folds.{list_any_at, list_any_none}
use Rattle.std.proofs.lemmas.List.Kept.{AllPairs-filter}
use Rattle.flowspace.specs.declared.fault.What.TheVariants.{Swaps}
use Rattle.flowspace.specs.declared.fault.PolicyFault.{PolicyFault}
use Rattle.flowspace.specs.declared.slices.Slice.{Slice}
use Rattle.flowspace.specs.declared.rules.Rule.{Rule}
use Rattle.flowspace.specs.declared.swaps.Swap.{Swap}
use Rattle.flowspace.specs.Policies.{PolicyView}
use Rattle.flowspace.specs.Options.{first_some}
use Rattle.flowspace.specs.Loading.{first_along, excess, fault_of, load_of, swap_slot_fault, twice_fault, fault_of_swaps, load_ports_of}
use Rattle.flowspace.specs.Swaps.{IsPlainSwap, holds_swap, swaps_on, is_swap_of, Pairs, pairs_of, swapped, share_number, AreSwaps}
use Rattle.flowspace.proofs.Along.{none_along, along_none}
use Rattle.flowspace.proofs.Accepting.{excess-None, None-excess}

-- ---- without a fault

-- what holds of swaps that have no fault
record IsFaultless (slots : ℕ) (ws : List Swap) : Type 0 where
  slices_known : All (λ w. w.slice < slots) ws
  few : length ws ≤ 1024
  apart : AllPairs (λ earlier later. share_number earlier later ≡ false) ws

pub slots_known : (slots : ℕ) (ws : List Swap) → first_along (swap_slot_fault slots) [] ws ≡ None → All (λ w. w.slice < slots) ws
slots_known slots ws e = λ k d lt.
    let none : swap_slot_fault slots (take k ws) (get_or ws k d) ≡ None = none_along (swap_slot_fault slots) [] ws e k d lt in
    elim (cases_Bool (nat_lt (get_or ws k d).slice slots)) [
      | inl known ↦ ltb-true (get_or ws k d).slice slots known
      | inr unknown ↦ let clash = sym (cond-false _ _ _ unknown) ∙ none in absurd (cc)
    ]

no_slot_fault : (slots : ℕ) (ws : List Swap) → All (λ w. w.slice < slots) ws → first_along (swap_slot_fault slots) [] ws ≡ None
no_slot_fault slots ws known = along_none (swap_slot_fault slots) [] ws (λ k d lt. cond-true _ _ _ (lt-ltb (get_or ws k d).slice slots (known k d lt)))

pub numbers_apart : (ws : List Swap) → first_along twice_fault [] ws ≡ None → AllPairs (λ earlier later. share_number earlier later ≡ false) ws
numbers_apart ws e = λ i j d lt long.
    let none : twice_fault (take j ws) (get_or ws j d) ≡ None = none_along twice_fault [] ws e j d long in
    let len : length (take j ws) ≡ j = length-take-le j ws (omega arith) in
    false_from_ne_true _ (λ t.
    let at_i : get_or (take j ws) i d ≡ get_or ws i d = get_or-take j ws i d lt in
    let shares : share_number (get_or (take j ws) i d) (get_or ws j d) ≡ true = ap (λ w. share_number w (get_or ws j d)) at_i ∙ t in
    let found = list_any_at (λ earlier. share_number earlier (get_or ws j d)) (take j ws) i d (omega arith) shares in
    let clash = sym (cond-true _ _ _ found) ∙ none in absurd (cc))

none_twice : (ws : List Swap) → AllPairs (λ earlier later. share_number earlier later ≡ false) ws → first_along twice_fault [] ws ≡ None
none_twice ws apart =
    along_none twice_fault [] ws (λ j d long.
    cond-false _ _ _ (list_any_none (λ earlier. share_number earlier (get_or ws j d)) (take j ws) (λ i e lt.
    let len : length (take j ws) ≡ j = length-take-le j ws (omega arith) in
    let before : i < j = omega arith in
    let at_i : get_or (take j ws) i e ≡ get_or ws i e = get_or-take j ws i e before in
    ap (λ w. share_number w (get_or ws j d)) at_i ∙ ap (λ w. share_number (get_or ws i e) w) (get_or_default ws j d e long) ∙ apart i j e before long)))

three_None : (a b c : Option PolicyFault) → first_some (a ∷ b ∷ c ∷ []) ≡ None → (a ≡ None) × (b ≡ None) × (c ≡ None)
three_None None None None e = (refl, refl, refl)
three_None (Some x) b c e = absurd (cc)
three_None None (Some x) c e = absurd (cc)
three_None None None (Some x) e = absurd (cc)

pub AreSwaps-fault_of_swaps : (slots : ℕ) (ws : List Swap) → All IsPlainSwap ws → fault_of_swaps slots ws ≡ None → AreSwaps slots ws
unfolding fault_of_swaps
AreSwaps-fault_of_swaps slots ws plain e =
    let none = three_None (first_along (swap_slot_fault slots) [] ws) (excess Swaps 1024 (length ws)) (first_along twice_fault [] ws) e in
    record {
      plain = plain;
      few = excess-None Swaps 1024 (length ws) none.1;
      slices_known = slots_known slots ws none.0;
      apart = numbers_apart ws none.2;
    }

pub fault_of_swaps-AreSwaps : (slots : ℕ) (ws : List Swap) → AreSwaps slots ws → fault_of_swaps slots ws ≡ None
unfolding fault_of_swaps
fault_of_swaps-AreSwaps slots ws h =
    rw (no_slot_fault slots ws h.slices_known, None-excess Swaps 1024 (length ws) h.few, none_twice ws h.apart) refl

-- ---- the whole

-- no swaps have no fault
none_of_none : (slots : ℕ) → fault_of_swaps slots [] ≡ None
unfolding fault_of_swaps
none_of_none slots = refl

or_none : (o : Option PolicyFault) → option_or o None ≡ o
or_none None = refl
or_none (Some x) = refl

-- a policy without swaps is what its slices and rules make
pub without_swaps : (ss : List Slice) (rs : List Rule) → load_ports_of ss rs [] ≡ load_of ss rs
without_swaps ss rs =
    let given : Option PolicyFault → Result PolicyView PolicyFault = λ o. elim o [ None ↦ Ok (record { slices = ss; rules = rs; swaps = [] }) | Some fault ↦ Err fault ] in
    ap given (ap (option_or (fault_of ss rs)) (none_of_none (length ss)) ∙ or_none (fault_of ss rs))

-- ---- on one switch

pub AreSwaps-swaps_on : (slots datapath : ℕ) (ws : List Swap) → AreSwaps slots ws → AreSwaps slots (swaps_on datapath ws)
AreSwaps-swaps_on slots datapath ws h = record {
  plain = All-filter (holds_swap datapath) IsPlainSwap ws h.plain;
  few = omega (arith, h.few, length-filter_both (holds_swap datapath) (λ w. not (holds_swap datapath w)) (λ _. refl) ws);
  slices_known = All-filter (holds_swap datapath) (λ w. w.slice < slots) ws h.slices_known;
  apart = AllPairs-filter (λ earlier later. share_number earlier later ≡ false) (holds_swap datapath) ws h.apart;
}

-- ---- found by their numbers

-- a pair in front of those from a place on
pub swapped_front : (pairs : Pairs) (left port : ℕ) (pair : ℕ × ℕ) → 1 ≤ left → left ≤ length pairs → pair ≡ get_or pairs (left - 1) pair
    → swapped (drop (left - 1) pairs) port ≡ (if port == pair.0 then pair.1 else if port == pair.1 then pair.0 else swapped (drop left pairs) port)
swapped_front pairs left port pair some within is =
    let next : suc (left - 1) ≡ left = omega arith in
    let front : drop (left - 1) pairs ≡ pair ∷ drop left pairs = drop-cons pairs (left - 1) pair (omega arith) ∙ ap₂ (λ x xs. x ∷ xs) (sym is) (ap (λ n. drop n pairs) next) in
    ap (λ l. swapped l port) front

-- a slot behind all slices has no swap
none_own : (slot : ℕ) (ws : List Swap) → All (λ w. w.slice < slot) ws → filter (is_swap_of slot) ws ≡ []
none_own slot [] below = refl
none_own slot (w ∷ ws) below =
    let lt = All-head (λ v. v.slice < slot) w ws below in
    rw (ne_eqb w.slice slot (λ e. omega (arith, lt, e))) (none_own slot ws (All-tail (λ v. v.slice < slot) w ws below))

pub beyond_stays : (slots slot port : ℕ) (ws : List Swap) → AreSwaps slots ws → slots ≤ slot → port ≡ swapped (pairs_of ws slot) port
beyond_stays slots slot port ws h le =
    rw (none_own slot ws (λ k d lt. let known = h.slices_known k d lt in omega (arith, known, le))) refl
