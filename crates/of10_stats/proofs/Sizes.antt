-- The entry that begins the bytes.
use Rattle.std.proofs.Common.{◌≡◌, ℕ, ◌<◌, ◌≤◌, ◌==◌, leb, Bool, true, false, List, length, take, refl, sym, ap, ◌∙◌, arith, inl, inr, if◌then◌else◌}
use Rattle.std.specs.Prelude.{Option, Some, None, IfSome, IfNone}
use Rattle.std.proofs.lemmas.Bool.{leb-true, le-leb, lt-leb}
use Rattle.std.proofs.lemmas.List.{length-take-le}
use Rattle.byteorder.specs.Numbers.{big_from-take}
use Rattle.of10_model.specs.Normal.{number_at}
use Rattle.of10_model.proofs.Results.{either}
use Rattle.of10_stats.specs.Replies.{flow_length, fixed_length, length_of, IsEntry, IsPortEntry, within_room, entry_size_of}

-- no entry is shorter than 24 bytes
abbrev IsLong : Option ℕ → Type 0
IsLong o = IfSome o (λ n. 24 ≤ n)

long_size : (size : ℕ) (b : Bool) → leb 88 size ≡ b → IsLong (if b then Some size else None)
long_size size true e = let h = leb-true 88 size e in omega (arith, h)
long_size size false e = tt

long_flow : (bytes : List ℕ) → IsLong (flow_length bytes)
long_flow bytes = long_size (number_at bytes 0 2) (leb 88 (number_at bytes 0 2)) refl

long : (kind : ℕ) (bytes : List ℕ) → IsLong (length_of kind bytes)
unfolding length_of
long kind bytes =
    either IsLong (kind == 1) (flow_length bytes) (fixed_length kind) (long_flow bytes)
    (either IsLong (kind == 0) _ _ (omega arith) (either IsLong (kind == 2) _ _ (omega arith) (either IsLong (kind == 3) _ _ (omega arith) (either IsLong (kind == 4) _ _ (omega arith) (either IsLong (kind == 5) _ _ (omega arith) tt)))))

long_some : (o : Option ℕ) (n : ℕ) → IsLong o → o ≡ Some n → 24 ≤ n
long_some None n h e = absurd cc
long_some (Some m) n h e = let same : m ≡ n = cc in omega (arith, h, same)

-- the first two bytes say the length
same_length : (kind n : ℕ) (bytes : List ℕ) → 2 ≤ n → length_of kind (take n bytes) ≡ length_of kind bytes
unfolding length_of
same_length kind n bytes h =
    ap (λ (size : ℕ). if kind == 1 then (if leb 88 size then Some size else None) else fixed_length kind) (big_from-take 0 2 n bytes h)

-- ---- a size that is there

within_some : (room n : ℕ) (o : Option ℕ) → within_room room o ≡ Some n → (o ≡ Some n) × (n ≤ room)
within_some room n None e = absurd cc
within_some room n (Some size) e = held (leb size room) refl e
  where
    held : (b : Bool) → leb size room ≡ b → (if b then Some size else None) ≡ Some n → (Some size ≡ Some n) × (n ≤ room)
    held true t e = let h = leb-true size room t in let same : size ≡ n = cc in (e, omega (arith, h, same))
    held false t e = absurd cc

some_within : (room n : ℕ) (o : Option ℕ) → o ≡ Some n → n ≤ room → within_room room o ≡ Some n
some_within room n o e h = ap (within_room room) e ∙ held
  where
    held : within_room room (Some n) ≡ Some n
    held = rw (le-leb n room h) refl

-- the size is that of the one well-formed entry
pub entry_there : (kind n : ℕ) (rest : List ℕ) → entry_size_of kind rest ≡ Some n → (n ≤ length rest) × IsEntry kind (take n rest)
entry_there kind n rest e =
    let there = within_some (length rest) n (length_of kind rest) e in
    let least = long_some (length_of kind rest) n (long kind rest) there.0 in
    (there.1, same_length kind n rest (omega arith) ∙ there.0 ∙ ap (λ (k : ℕ). Some k) (sym (length-take-le n rest there.1)))

pub there_entry : (kind n : ℕ) (rest : List ℕ) → n ≤ length rest → IsEntry kind (take n rest) → entry_size_of kind rest ≡ Some n
there_entry kind n rest h entry =
    let size = length-take-le n rest h in
    let is : length_of kind (take n rest) ≡ Some n = entry ∙ ap (λ (k : ℕ). Some k) size in
    let least = long_some (length_of kind (take n rest)) n (long kind (take n rest)) is in
    some_within (length rest) n (length_of kind rest) (sym (same_length kind n rest (omega arith)) ∙ is) h

-- ---- for the calls

pub none_shorter : (kind : ℕ) (rest : List ℕ) → length rest < 24 → entry_size_of kind rest ≡ None
none_shorter kind rest h = none (length_of kind rest) (long kind rest)
  where
    none : (o : Option ℕ) → IsLong o → within_room (length rest) o ≡ None
    none None g = refl
    none (Some n) g = rw (lt-leb n (length rest) (omega arith)) refl

pub flow_is_long : (entry : List ℕ) → IsEntry 1 entry → 88 ≤ length entry
unfolding length_of
flow_is_long entry h = held (leb 88 (number_at entry 0 2)) refl h
  where
    held : (b : Bool) → leb 88 (number_at entry 0 2) ≡ b → (if b then Some (number_at entry 0 2) else None) ≡ Some (length entry) → 88 ≤ length entry
    held true t e = let h = leb-true 88 (number_at entry 0 2) t in let same : number_at entry 0 2 ≡ length entry = cc in omega (arith, h, same)
    held false t e = absurd cc

pub port_is_long : (entry : List ℕ) → IsPortEntry entry → 2 ≤ length entry
port_is_long entry (inl h) = let least = long_some (length_of 4 entry) (length entry) (long 4 entry) h in omega (arith, least)
port_is_long entry (inr h) = let least = long_some (length_of 5 entry) (length entry) (long 5 entry) h in omega (arith, least)

pub some_long : (kind : ℕ) (rest : List ℕ) (o : Option ℕ) → o ≡ entry_size_of kind rest → IfSome o (λ n. 0 < n)
some_long kind rest None e = tt
some_long kind rest (Some n) e = let least = long_some (length_of kind rest) n (long kind rest) (within_some (length rest) n (length_of kind rest) (sym e)).0 in omega (arith, least)

pub some_inside : (kind : ℕ) (rest : List ℕ) (o : Option ℕ) → o ≡ entry_size_of kind rest → IfSome o (λ n. n ≤ length rest)
some_inside kind rest None e = tt
some_inside kind rest (Some n) e = (entry_there kind n rest (sym e)).0

pub some_entry : (kind : ℕ) (rest : List ℕ) (o : Option ℕ) → o ≡ entry_size_of kind rest → IfSome o (λ n. IsEntry kind (take n rest))
some_entry kind rest None e = tt
some_entry kind rest (Some n) e = (entry_there kind n rest (sym e)).1

pub none_there : (kind : ℕ) (rest : List ℕ) (o : Option ℕ) → o ≡ entry_size_of kind rest → IfNone o ((n : ℕ) → n ≤ length rest → IsEntry kind (take n rest) → ⊥)
none_there kind rest None e = λ n h entry. let there : None ≡ Some n = e ∙ there_entry kind n rest h entry in absurd cc
none_there kind rest (Some n) e = tt
