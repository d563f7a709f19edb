-- What is loaded with swaps, and for which fault they are refused, in words of the swaps.
use Rattle.std.proofs.Common.{◌≡◌, ◌↔◌, ◌⊎◌, ℕ, ◌≤◌, nat_lt, IsTrue, List, [], ◌∷◌, length, take, All, Any, Option, Some, None, Result, Ok, Err, refl, sym, ◌∙◌, arith, inl, inr}
use Rattle.std.specs.List.{list_any}
use Rattle.std.proofs.lemmas.Bool.{cases_Bool, cond-true, cond-false, ltb-false}
use Rattle.std.proofs.lemmas.List.{length-take-le}
use Rattle.std.proofs.lemmas.List.Folds.{Any-from_list_any}
use Rattle.flowspace.specs.declared.fault.What.TheVariants.{Swaps}
use Rattle.flowspace.specs.declared.fault.PolicyFault.{PolicyFault}
use Rattle.flowspace.specs.declared.fault.PolicyFault.TheVariants.{UnknownPortSlice, PortTwice}
use Rattle.flowspace.specs.declared.slices.Slice.{Slice}
use Rattle.flowspace.specs.declared.rules.Rule.{Rule}
use Rattle.flowspace.specs.declared.swaps.Swap.{Swap}
use Rattle.flowspace.specs.Slices.{IsPlainSlice}
use Rattle.flowspace.specs.Rules.{IsPlainRule}
use Rattle.flowspace.specs.Policies.{PolicyView, IsPolicy, AreNormal}
use Rattle.flowspace.specs.Faults.{IsFirstPolicyFault}
use Rattle.flowspace.specs.Options.{first_some}
use Rattle.flowspace.specs.Loading.{first_along, excess, fault_of, load_of, swap_slot_fault, twice_fault, fault_of_swaps, load_ports_of}
use Rattle.flowspace.specs.Swaps.{IsPlainSwap, share_number, AreSwaps, IsFirstUnknownSwap, IsFirstTwice, IsFirstSwapFault}
use Rattle.flowspace.proofs.Along.{some_along}
use Rattle.flowspace.proofs.Accepting.{excess-None, IsPolicy-fault_of, fault_of-IsPolicy}
use Rattle.flowspace.proofs.Faulty.{excess-Some, fine_before, there, IsFirstFault-load_of}
use Rattle.flowspace.proofs.Swapping.{slots_known, numbers_apart, AreSwaps-fault_of_swaps, fault_of_swaps-AreSwaps}

-- ---- what is loaded

by_faults : (ss : List Slice) (rs : List Rule) (ws : List Swap) (a b : Option PolicyFault) → fault_of ss rs ≡ a → fault_of_swaps (length ss) ws ≡ b
    → (load_ports_of ss rs ws ≡ Ok (record { slices = ss; rules = rs; swaps = ws })) ↔ ((a ≡ None) × (b ≡ None))
by_faults ss rs ws None None e f = (λ h. (refl, refl), λ h. rw (e, f, load_ports_of) refl)
by_faults ss rs ws None (Some fault) e f =
    (λ h. let clash : Err fault ≡ Ok (record { slices = ss; rules = rs; swaps = ws }) = rw (e, f, load_ports_of) at h in absurd (cc), λ h. absurd (let never = h.1 in cc))
by_faults ss rs ws (Some fault) b e f =
    (λ h. let clash : Err fault ≡ Ok (record { slices = ss; rules = rs; swaps = ws }) = rw (e, load_ports_of) at h in absurd (cc), λ h. absurd (let never = h.0 in cc))

pub load_ports_of-iff : (ss : List Slice) (rs : List Rule) (ws : List Swap) → 1 ≤ length ss → All IsPlainSlice ss → All IsPlainRule rs → AreNormal rs → All IsPlainSwap ws
    → (load_ports_of ss rs ws ≡ Ok (record { slices = ss; rules = rs; swaps = ws })) ↔ (IsPolicy ss rs × AreSwaps (length ss) ws)
load_ports_of-iff ss rs ws some plain_slices plain_rules normal plain_swaps =
    let iff = by_faults ss rs ws (fault_of ss rs) (fault_of_swaps (length ss) ws) refl refl in (
      λ h. (IsPolicy-fault_of ss rs some plain_slices plain_rules (iff.0 h).0, AreSwaps-fault_of_swaps (length ss) ws plain_swaps (iff.0 h).1),
      λ h. iff.1 (fault_of-IsPolicy ss rs (λ k d lt. (normal k d lt).0) h.0, fault_of_swaps-AreSwaps (length ss) ws h.1),
    )

-- ---- the first fault of swaps

swap_slot_fault-Some : (slots : ℕ) (before : List Swap) (w : Swap) (fault : PolicyFault) → swap_slot_fault slots before w ≡ Some fault → (slots ≤ w.slice) × (UnknownPortSlice (length before) ≡ fault)
swap_slot_fault-Some slots before w fault e =
    elim (cases_Bool (nat_lt w.slice slots)) [
      | inl known ↦ let clash = sym (cond-true _ _ _ known) ∙ e in absurd (cc)
      | inr unknown ↦ let same : Some (UnknownPortSlice (length before)) ≡ Some fault = sym (cond-false _ _ _ unknown) ∙ e in (ltb-false w.slice slots unknown, cc)
    ]

twice_fault-Some : (before : List Swap) (w : Swap) (fault : PolicyFault) → twice_fault before w ≡ Some fault → Any (λ earlier. IsTrue (share_number earlier w)) before × (PortTwice (length before) ≡ fault)
twice_fault-Some before w fault e =
    elim (cases_Bool (list_any (λ earlier. share_number earlier w) before)) [
      | inl twice ↦ let same : Some (PortTwice (length before)) ≡ Some fault = sym (cond-true _ _ _ twice) ∙ e in (Any-from_list_any (λ earlier. share_number earlier w) before twice, cc)
      | inr once ↦ let clash = sym (cond-false _ _ _ once) ∙ e in absurd (cc)
    ]

first_unknown : (slots : ℕ) (ws : List Swap) (fault : PolicyFault) → first_along (swap_slot_fault slots) [] ws ≡ Some fault → (place : ℕ) × IsFirstUnknownSwap slots ws place × (UnknownPortSlice place ≡ fault)
first_unknown slots ws fault e =
    let at_fault = some_along (swap_slot_fault slots) [] ws fault e in
    let within : at_fault.place ≤ length ws = let lt = at_fault.within in omega arith in
    let found = swap_slot_fault-Some slots (take at_fault.place ws) at_fault.element fault at_fault.has_fault in (
      at_fault.place,
      record {
        swap = at_fault.element;
        is_there = there ws at_fault.place at_fault.element at_fault.within at_fault.is_there;
        unknown = found.0;
        is_first = slots_known slots (take at_fault.place ws) (fine_before (swap_slot_fault slots) ws at_fault.place within at_fault.is_first);
      },
      rw (length-take-le at_fault.place ws within) at found.1,
    )

first_twice : (ws : List Swap) (fault : PolicyFault) → first_along twice_fault [] ws ≡ Some fault → (place : ℕ) × IsFirstTwice ws place × (PortTwice place ≡ fault)
first_twice ws fault e =
    let at_fault = some_along twice_fault [] ws fault e in
    let within : at_fault.place ≤ length ws = let lt = at_fault.within in omega arith in
    let found = twice_fault-Some (take at_fault.place ws) at_fault.element fault at_fault.has_fault in (
      at_fault.place,
      record {
        swap = at_fault.element;
        is_there = there ws at_fault.place at_fault.element at_fault.within at_fault.is_there;
        twice = found.0;
        is_first = numbers_apart (take at_fault.place ws) (fine_before twice_fault ws at_fault.place within at_fault.is_first);
      },
      rw (length-take-le at_fault.place ws within) at found.1,
    )

-- one of three finds it, and none of those before it finds any
abbrev FirstOfThree : (a b c : Option PolicyFault) → PolicyFault → Type 0
FirstOfThree a b c fault = (a ≡ Some fault) ⊎ ((a ≡ None) × ((b ≡ Some fault) ⊎ ((b ≡ None) × (c ≡ Some fault))))

three_Some : (a b c : Option PolicyFault) (fault : PolicyFault) → first_some (a ∷ b ∷ c ∷ []) ≡ Some fault → FirstOfThree a b c fault
three_Some (Some x) b c fault h = inl h
three_Some None (Some x) c fault h = inr (refl, inl h)
three_Some None None (Some x) fault h = inr (refl, inr (refl, h))
three_Some None None None fault h = absurd (cc)

first_of_swaps : (slots : ℕ) (ws : List Swap) (fault : PolicyFault) → fault_of_swaps slots ws ≡ Some fault → IsFirstSwapFault slots ws fault
unfolding fault_of_swaps
first_of_swaps slots ws fault e =
    elim (three_Some (first_along (swap_slot_fault slots) [] ws) (excess Swaps 1024 (length ws)) (first_along twice_fault [] ws) fault e) [
      | inl a ↦ let found = first_unknown slots ws fault a in rw (← found.2) found.1
      | inr after_a ↦
          let known = slots_known slots ws after_a.0 in
          elim after_a.1 [
            | inl b ↦ let found = excess-Some Swaps 1024 (length ws) fault b in rw (← found.1) (known, refl, found.0)
            | inr after_b ↦ let found = first_twice ws fault after_b.1 in rw (← found.2) (known, excess-None Swaps 1024 (length ws) after_b.0, found.1)
          ]
    ]

-- ---- all together

refused_by : (ss : List Slice) (rs : List Rule) (ws : List Swap) (fault : PolicyFault) (a b : Option PolicyFault) → fault_of ss rs ≡ a → fault_of_swaps (length ss) ws ≡ b → load_ports_of ss rs ws ≡ Err fault
    → (load_of ss rs ≡ Err fault) ⊎ ((load_of ss rs ≡ Ok (record { slices = ss; rules = rs; swaps = [] })) × (fault_of_swaps (length ss) ws ≡ Some fault))
refused_by ss rs ws fault None None e f h =
    let loaded : Result PolicyView PolicyFault = Ok (record { slices = ss; rules = rs; swaps = ws }) in let clash : loaded ≡ Err fault = rw (e, f, load_ports_of) at h in absurd (cc)
refused_by ss rs ws fault None (Some x) e f h =
    let refused : Result PolicyView PolicyFault = Err x in
    let same : refused ≡ Err fault = rw (e, f, load_ports_of) at h in
    inr (rw (e, load_of) refl, f ∙ (let is : x ≡ fault = cc in rw is refl))
refused_by ss rs ws fault (Some x) b e f h =
    let refused : Result PolicyView PolicyFault = Err x in
    let same : refused ≡ Err fault = rw (e, load_ports_of) at h in
    inl (rw (e, load_of) same)

pub first_with_swaps : (ss : List Slice) (rs : List Rule) (ws : List Swap) (fault : PolicyFault) → AreNormal rs → load_ports_of ss rs ws ≡ Err fault
    → IsFirstPolicyFault ss rs fault ⊎ ((load_of ss rs ≡ Ok (record { slices = ss; rules = rs; swaps = [] })) × IsFirstSwapFault (length ss) ws fault)
first_with_swaps ss rs ws fault normal h =
    elim (refused_by ss rs ws fault (fault_of ss rs) (fault_of_swaps (length ss) ws) refl refl h) [
      | inl own ↦ inl (IsFirstFault-load_of ss rs fault normal own)
      | inr of_swaps ↦ inr (of_swaps.0, first_of_swaps (length ss) ws fault of_swaps.1)
    ]
