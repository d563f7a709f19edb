-- A file that is read piece by piece.
use Rattle.std.proofs.Common.{◌≡◌, ℕ, List, [], ◌++◌, take, drop, length, refl, sym, ◌∙◌, ap, append_assoc, append-nil}
use Rattle.std.specs.Prelude.{Option, Some, None, IfSome}
use Rattle.std.proofs.lemmas.List.{take-append-drop, take_at, drop_at, length-take-le}
use Rattle.fv_base.specs.Told.{IsBeginning, GivesBytes}

-- no bytes are the beginning of every file
pub begins : (told : Option (List ℕ)) (items : List ℕ) → items ≡ [] → IfSome told (λ bytes. IsBeginning items bytes)
begins None items e = tt
begins (Some bytes) items e = (bytes, rw e refl)

-- where nothing is left, what was read is the file
pub ends : (told : Option (List ℕ)) (items before after : List ℕ) (from n : ℕ) → from ≡ length items → n ≡ 0 → IfSome told (λ bytes. IsBeginning items bytes) → IfSome told (λ bytes. GivesBytes (drop from bytes) before n after) → IfSome told (λ bytes. items ≡ bytes)
ends None items before after from n e z b g = tt
ends (Some bytes) items before after from n e z b g =
    let left : drop from bytes ≡ b.0 = rw (← b.1) (drop_at items b.0 from (sym e)) in
    let none : b.0 ≡ [] = sym left ∙ g.at_end z in
    sym (append-nil items) ∙ ap (λ r. items ++ r) (sym none) ∙ b.1

-- the next piece was read
pub goes_on : (told : Option (List ℕ)) (items before after : List ℕ) (from n : ℕ) → from ≡ length items → IfSome told (λ bytes. IsBeginning items bytes) → IfSome told (λ bytes. GivesBytes (drop from bytes) before n after) → IfSome told (λ bytes. IsBeginning (items ++ take n after) bytes)
goes_on None items before after from n e b g = tt
goes_on (Some bytes) items before after from n e b g =
    let left : drop from bytes ≡ b.0 = rw (← b.1) (drop_at items b.0 from (sym e)) in
    let whole : items ++ drop from bytes ≡ bytes = rw left b.1 in
    let piece : take n after ≡ take n (drop from bytes) = rw g.buffer (take_at (take n (drop from bytes)) (drop n before) n (length-take-le n (drop from bytes) g.some_left)) in
    (drop n (drop from bytes), rw (append_assoc, piece, take-append-drop) whole)
