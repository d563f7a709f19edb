-- Which slices a rule's readers are.
use Rattle.std.proofs.Common.{◌≡◌, ◌↔◌, ◌⊎◌, inl, inr, ℕ, zero, suc, ◌+◌, ◌-◌, ◌/◌, ◌^◌, ◌<◌, ◌||◌, Bool, true, false, cond, true≢false, nat_eq, eqb-true, List, [], ◌∷◌, Option, Some, None, Ok, refl, sym, ap, ◌∙◌, arith}
use Rattle.std.specs.List.{Any, list_any}
use Rattle.std.proofs.Math.Nat.{add-div_right, add-mul-div_right, add-mul-mod_self_right, div-eq_of_lt, pow-suc}
use Rattle.std.proofs.lemmas.Bool.{cases_lt, or_cases}
use Rattle.std.proofs.lemmas.Bool.Decides.{nat_tests}
use Rattle.std.proofs.lemmas.Nat.{pow-add, pow_pos}
use Rattle.std.proofs.lemmas.Option.{same_Some}
use Rattle.of10_model.specs.Normal.{bit}
use Rattle.of10_model.proofs.Results.{bind_ok, ok_is}
use Rattle.flowspace.specs.declared.rules.Rule.{Rule}
use Rattle.flowspace.specs.declared.slices.Slice.{Slice}
use Rattle.policy_laws.specs.Readers.{IsNamedSlot}
use Rattle.policy_text.specs.Rules.{known_slot, slots_of, bits_below, RuleText, rule_from}
use Rattle.flowspace.specs.Slices.{slot_named}
use Rattle.policy_text.proofs.Sound.{rule_from_parts}

-- ---- bits

step_below : (b : Bool) (low n : ℕ) → low < 2 ^ n → cond b (low + 2 ^ n) low < 2 ^ suc n
step_below true low n lt = let twice = pow-suc 2 n in omega (arith, lt, twice)
step_below false low n lt = let twice = pow-suc 2 n in omega (arith, lt, twice)

pub bits_below_limit : (n : ℕ) (slots : List ℕ) → bits_below n slots < 2 ^ n
bits_below_limit zero slots = omega arith
bits_below_limit (suc n) slots = step_below (list_any (nat_eq n) slots) (bits_below n slots) n (bits_below_limit n slots)

bit_below : (low m k : ℕ) → bit (low + 2 ^ (suc m + k)) k ≡ bit low k
bit_below low m k = rw (pow-add 2 (suc m) k, add-mul-div_right low (2 ^ suc m) (pow_pos k), pow-suc 2 m, add-mul-mod_self_right (low / 2 ^ k) (2 ^ m) 2) refl

step_same : (b : Bool) (low n k : ℕ) → k < n → bit (cond b (low + 2 ^ n) low) k ≡ bit low k
step_same true low n k lt =
    let same : n ≡ suc (n - suc k) + k = omega (arith, lt) in
    ap (λ j. bit (low + 2 ^ j) k) same ∙ bit_below low (n - suc k) k
step_same false low n k lt = refl

own_bit : (b : Bool) (low n : ℕ) → low < 2 ^ n → bit (cond b (low + 2 ^ n) low) n ≡ b
own_bit true low n lt = rw (add-div_right low (pow_pos n), div-eq_of_lt lt) refl
own_bit false low n lt = rw (div-eq_of_lt lt) refl

pub bits_are : (n k : ℕ) (slots : List ℕ) → k < n → bit (bits_below n slots) k ≡ list_any (nat_eq k) slots
bits_are zero k slots lt = absurd (omega (arith, lt))
bits_are (suc n) k slots lt =
    elim (cases_lt k n) [
      | inl less ↦ step_same (list_any (nat_eq n) slots) (bits_below n slots) n k less ∙ bits_are n k slots less
      | inr from ↦
          let same : k ≡ n = omega (arith, lt, from) in
          rw same (own_bit (list_any (nat_eq n) slots) (bits_below n slots) n (bits_below_limit n slots))
    ]

-- ---- names

pub named_is : (index : ℕ) (o : Option ℕ) (slot : ℕ) → known_slot index o ≡ Ok slot → o ≡ Some slot
named_is index None slot e = absurd cc
named_is index (Some x) slot e = ap Some (ok_is x slot e)

either_true : (a b : Bool) → (a ≡ true) ⊎ (b ≡ true) → (a || b) ≡ true
either_true true b h = refl
either_true false b (inl h) = absurd (true≢false (sym h))
either_true false b (inr h) = h

pub is_itself : (k slot : ℕ) → slot ≡ k → nat_eq k slot ≡ true
is_itself k slot e = grind (arith, nat_tests)

pub later : {X : Type 0} (P : X → Type 0) (x : X) (xs : List X) → Any P xs → Any P (x ∷ xs)
later P x xs h = (suc h.0, h.1, omega (arith, h.2), h.3, h.4)

first_or_later : {X : Type 0} (P : X → Type 0) (x : X) (xs : List X) → Any P (x ∷ xs) → P x ⊎ Any P xs
first_or_later P x xs (zero, y, lt, at, p) = inl (rw at p)
first_or_later P x xs (suc k, y, lt, at, p) = inr (k, y, omega (arith, lt), at, p)

slots_named : (slices : List Slice) (index : ℕ) (names : List (List ℕ)) (slots : List ℕ) (k : ℕ) → slots_of slices index names ≡ Ok slots → (list_any (nat_eq k) slots ≡ true) ↔ IsNamedSlot slices names k
slots_named slices index [] slots k e =
    let none = ok_is [] slots e in
    (λ h. absurd (true≢false (sym h ∙ ap (list_any (nat_eq k)) (sym none))), λ h. absurd (omega (arith, h.2)))
slots_named slices index (name ∷ names) slots k e =
    let a = bind_ok (known_slot index (slot_named slices name)) _ slots e in
    let b = bind_ok (slots_of slices index names) _ slots a.2 in
    let made = ok_is (a.0 ∷ b.0) slots b.2 in
    let first = named_is index (slot_named slices name) a.0 a.1 in
    let more = slots_named slices index names b.0 k b.1 in (
      λ h. elim (or_cases (nat_eq k a.0) (list_any (nat_eq k) b.0) (ap (list_any (nat_eq k)) made ∙ h)) [
        | inl here ↦ (0, name, omega arith, refl, first ∙ ap Some (sym (eqb-true k a.0 here)))
        | inr there ↦ later (λ other. slot_named slices other ≡ Some k) name names (more.0 there)
      ],
      λ h. ap (list_any (nat_eq k)) (sym made) ∙ either_true (nat_eq k a.0) (list_any (nat_eq k) b.0) (elim (first_or_later (λ other. slot_named slices other ≡ Some k) name names h) [
        | inl here ↦ inl (is_itself k a.0 (same_Some a.0 k (sym first ∙ here)))
        | inr there ↦ inr (more.1 there)
      ]),
    )

pub readers_named : (slices : List Slice) (index : ℕ) (t : RuleText) (r : Rule) (k : ℕ) → rule_from slices index t ≡ Ok r → k < 32 → (bit r.readers k ≡ true) ↔ IsNamedSlot slices t.read k
readers_named slices index t r k e lt =
    let parts = rule_from_parts slices index t r e in
    let same : bit r.readers k ≡ list_any (nat_eq k) parts.1 = ap (λ (rule : Rule). bit rule.readers k) (sym parts.4) ∙ bits_are 32 k parts.1 lt in
    let both = slots_named slices index t.read parts.1 k parts.2 in
    (λ h. both.0 (sym same ∙ h), λ h. same ∙ both.1 h)
