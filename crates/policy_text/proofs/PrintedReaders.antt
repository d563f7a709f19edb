-- The slices that a printed rule names are found again.
use Rattle.std.proofs.Common.{◌≡◌, ◌≢◌, ℕ, zero, suc, ◌+◌, ◌*◌, ◌/◌, ◌%◌, ◌^◌, ◌<◌, ◌≤◌, ◌==◌, Bool, true, false, cond, nat_eq, lt-ltb, eq-eqb, eqb-true, List, [], ◌∷◌, length, get_or, drop, AllPairs, Some, position, bytes_eq, Ok, refl, sym, ap, subst, ◌∙◌, inl, inr, arith}
use Rattle.std.specs.Cmp.Lexicographic.{bytes_decides}
use Rattle.std.specs.List.{list_any}
use Rattle.std.proofs.Math.Nat.{div-div-eq-div-mul, zero-div, pow-succ'}
use Rattle.std.proofs.Math.Pow.{pow_mono}
use Rattle.std.proofs.Math.Seq.{drop-cons}
use Rattle.std.proofs.lemmas.Grind.{pow_more}
use Rattle.std.proofs.lemmas.Bool.{cases_Bool}
use Rattle.std.proofs.lemmas.Bool.Decides.{nat_tests}
use Rattle.std.proofs.lemmas.List.Sums.{position_or_len_is}
use Rattle.std.proofs.lemmas.Nat.{mod-pow-add}
use Rattle.flowspace.specs.declared.slices.Slice.{Slice}
use Rattle.policy_text.specs.Rules.{known_slot, slots_of, are_different, bits_below}
use Rattle.flowspace.specs.Slices.{slot_named}
use Rattle.policy_text.specs.Printing.{slice_name, names_in}
use Rattle.of10_model.specs.Normal.{bit}
use Rattle.of10_model.proofs.Results.{bind_is}

-- ---- names

bytes_eq-itself : (a : List ℕ) → bytes_eq a a ≡ true
bytes_eq-itself [] = refl
bytes_eq-itself (x ∷ xs) = rw (eq-eqb x x refl, bytes_eq-itself xs) refl

bytes_eq-apart : (a b : List ℕ) → a ≢ b → bytes_eq a b ≡ false
bytes_eq-apart a b differ =
    elim (cases_Bool (bytes_eq a b)) [
      | inl same ↦ absurd (differ ((bytes_decides a b).0 same))
      | inr other ↦ other
    ]

position_at : {A : Type 0} (p : A → Bool) (xs : List A) (i : ℕ) (d : A) → i < length xs → ((k : ℕ) → k < i → p (get_or xs k d) ≡ false) → p (get_or xs i d) ≡ true → position p xs ≡ Some i
position_at p xs i d within before here =
    let at = position_or_len_is p xs i d (omega (arith, within)) before (λ _. here) in
    rw (at, lt-ltb i (length xs) within) refl

-- a name is found at its slot
pub slot_back : (slices : List Slice) (i : ℕ) (d : Slice) → AllPairs (λ s t. s.name ≢ t.name) slices → i < length slices → slot_named slices (get_or slices i d).name ≡ Some i
slot_back slices i d differ within =
    let name = (get_or slices i d).name in
    position_at (λ s. bytes_eq s.name name) slices i d within
    (λ k before. bytes_eq-apart (get_or slices k d).name name (differ k i d before within))
    (bytes_eq-itself name)

pub name_at_back : (slices : List Slice) (i : ℕ) (d : Slice) → i < length slices → slice_name slices i ≡ Some (get_or slices i d).name
name_at_back [] i d within = absurd (omega (arith, within))
name_at_back (s ∷ slices) zero d within = refl
name_at_back (s ∷ slices) (suc i) d within = name_at_back slices i d (omega (arith, within))

-- ---- readers

-- the slots from one on whose bits are set
slots_in : ℕ → ℕ → List Slice → List ℕ
slots_in slot bits [] = []
slots_in slot bits (s ∷ rest) = cond (bits % 2 == 1) (slot ∷ slots_in (suc slot) (bits / 2) rest) (slots_in (suc slot) (bits / 2) rest)

-- the last slices stand where they stand
abbrev StandAt : List Slice → ℕ → List Slice → Type 0
StandAt slices slot rest = (j : ℕ) (d : Slice) → j < length rest → slot_named slices (get_or rest j d).name ≡ Some (slot + j)

slots_back : (slices : List Slice) (index slot bits : ℕ) (rest : List Slice) → StandAt slices slot rest → slots_of slices index (names_in bits rest) ≡ Ok (slots_in slot bits rest)
unfolding slots_in
slots_back slices index slot bits [] stand = refl
slots_back slices index slot bits (s ∷ rest) stand =
    let here : slot_named slices s.name ≡ Some slot = stand 0 s (omega arith) ∙ ap Some (let same : slot + 0 ≡ slot = omega arith in same) in
    let later : StandAt slices (suc slot) rest = λ j d lt. stand (suc j) d (omega (arith, lt)) ∙ ap Some (let same : slot + suc j ≡ suc slot + j = omega arith in same) in
    let others = slots_back slices index (suc slot) (bits / 2) rest later in
    elim (cases_Bool (bits % 2 == 1)) [
      | inl set ↦ rw set (bind_is (known_slot index (slot_named slices s.name)) _ slot _ (ap (known_slot index) here) (bind_is (slots_of slices index (names_in (bits / 2) rest)) _ (slots_in (suc slot) (bits / 2) rest) _ others refl))
      | inr clear ↦ rw clear others
    ]

-- no slot before the first is there
none_before : (j slot bits : ℕ) (rest : List Slice) → j < slot → list_any (nat_eq j) (slots_in slot bits rest) ≡ false
unfolding slots_in
none_before j slot bits [] lt = refl
none_before j slot bits (s ∷ rest) lt =
    let later = none_before j (suc slot) (bits / 2) rest (omega (arith, lt)) in
    let other : nat_eq j slot ≡ false = grind (arith, nat_tests) in
    elim (cases_Bool (bits % 2 == 1)) [
      | inl set ↦ rw (set, other) later
      | inr clear ↦ rw clear later
    ]

different_back : (slot bits : ℕ) (rest : List Slice) → are_different (slots_in slot bits rest) ≡ true
unfolding slots_in
different_back slot bits [] = refl
different_back slot bits (s ∷ rest) =
    let later = different_back (suc slot) (bits / 2) rest in
    elim (cases_Bool (bits % 2 == 1)) [
      | inl set ↦ rw (set, none_before slot (suc slot) (bits / 2) rest (omega arith)) later
      | inr clear ↦ rw clear later
    ]

-- a slot is there where its bit is set
has_slot : (j slot bits : ℕ) (rest : List Slice) → bits < 2 ^ length rest → list_any (nat_eq (slot + j)) (slots_in slot bits rest) ≡ (bits / 2 ^ j % 2 == 1)
unfolding slots_in
has_slot j slot bits [] lt =
    let none : bits ≡ 0 = omega (arith, lt) in
    rw (none, zero-div (2 ^ j)) refl
has_slot zero slot bits (s ∷ rest) lt =
    let first : slot + 0 ≡ slot = omega arith in
    let all : bits / 1 ≡ bits = omega arith in
    elim (cases_Bool (bits % 2 == 1)) [
      | inl set ↦ rw (all, set, first, eq-eqb slot slot refl) refl
      | inr clear ↦ rw (all, clear, first) (none_before slot (suc slot) (bits / 2) rest (omega arith))
    ]
has_slot (suc j) slot bits (s ∷ rest) lt =
    let twice : 2 ^ (length rest + 1) ≡ 2 ^ length rest * 2 = pow_more 2 (length rest) in
    let more : suc (length rest) ≡ length rest + 1 = omega arith in
    let half : bits / 2 < 2 ^ length rest = omega (arith, rw more at lt, twice) in
    let next : slot + suc j ≡ suc slot + j = omega arith in
    let other : nat_eq (suc slot + j) slot ≡ false = grind (arith, nat_tests) in
    let power : 2 ^ suc j ≡ 2 * 2 ^ j = pow-succ' 2 j in
    let moved : bits / 2 ^ suc j ≡ bits / 2 / 2 ^ j = ap (λ p. bits / p) power ∙ sym (div-div-eq-div-mul bits 2 (2 ^ j)) in
    let later = has_slot j (suc slot) (bits / 2) rest half in
    subst (λ x. list_any (nat_eq x) (slots_in slot bits (s ∷ rest)) ≡ (bits / 2 ^ suc j % 2 == 1)) (sym next)
    (elim (cases_Bool (bits % 2 == 1)) [
      | inl set ↦ rw (set, moved, other) later
      | inr clear ↦ rw (clear, moved) later
    ])

-- the bits below a place
low_bits : (m bits : ℕ) (slots : List ℕ) → ((j : ℕ) → list_any (nat_eq j) slots ≡ (bits / 2 ^ j % 2 == 1)) → bits_below m slots ≡ bits % 2 ^ m
low_bits zero bits slots has = let none : 0 ≡ bits % 1 = omega arith in none
low_bits (suc k) bits slots has =
    let rest = low_bits k bits slots has in
    let parts : bits % 2 ^ (1 + k) ≡ bits / 2 ^ k % 2 * 2 ^ k + bits % 2 ^ k = mod-pow-add bits 1 k in
    let same : suc k ≡ 1 + k = omega arith in
    elim (cases_Bool (bits / 2 ^ k % 2 == 1)) [
      | inl set ↦
          let one : bits / 2 ^ k % 2 ≡ 1 = eqb-true _ _ set in
          rw (has k, set, rest, same, parts, one) (omega arith)
      | inr clear ↦
          let none : bits / 2 ^ k % 2 ≡ 0 = grind (arith, nat_tests) in
          rw (has k, clear, rest, same, parts, none) (omega arith)
    ]

-- what a rule's readers are
pub record ReadersBack (slices : List Slice) (index bits : ℕ) : Type 0 where
  pub slots : List ℕ
  pub found : slots_of slices index (names_in bits slices) ≡ Ok slots
  pub different : are_different slots ≡ true
  pub whole : bits_below 32 slots ≡ bits

pub readers_back : (slices : List Slice) (index bits : ℕ) → AllPairs (λ s t. s.name ≢ t.name) slices → length slices ≤ 32 → bits < 2 ^ length slices → ReadersBack slices index bits
readers_back slices index bits differ few lt =
    let slots = slots_in 0 bits slices in
    let stand : StandAt slices 0 slices = λ j d within. slot_back slices j d differ within ∙ ap Some (let same : j ≡ 0 + j = omega arith in same) in
    let has : (j : ℕ) → list_any (nat_eq j) slots ≡ (bits / 2 ^ j % 2 == 1) = λ j. (let same : 0 + j ≡ j = omega arith in subst (λ x. list_any (nat_eq x) slots ≡ (bits / 2 ^ j % 2 == 1)) same (has_slot j 0 bits slices lt)) in
    let most : 2 ^ length slices ≤ 2 ^ 32 = pow_mono few in
    let small : bits % 2 ^ 32 ≡ bits = omega (arith, lt, most) in
    record { slots = slots; found = slots_back slices index 0 bits slices stand; different = different_back 0 bits slices; whole = low_bits 32 bits slots has ∙ small }

-- the names of the slices from a slot on are those from the next slot on, behind its own where its bit is set
pub names_step : (bits slot : ℕ) (slices : List Slice) (d : Slice) → slot < length slices → names_in (bits / 2 ^ slot) (drop slot slices) ≡ cond (bit bits slot) ((get_or slices slot d).name ∷ names_in (bits / 2 ^ (slot + 1)) (drop (slot + 1) slices)) (names_in (bits / 2 ^ (slot + 1)) (drop (slot + 1) slices))
names_step bits slot slices d lt =
    let next : slot + 1 ≡ suc slot = omega arith in
    let half : bits / 2 ^ (slot + 1) ≡ bits / 2 ^ slot / 2 = ap (λ p. bits / p) (pow_more 2 slot) ∙ sym (div-div-eq-div-mul bits (2 ^ slot) 2) in
    rw (drop-cons slices slot d lt, half, next) refl
