-- Cutting a list back to what stood in front.
use Rattle.std.proofs.Common.{◌≡◌, ◌≤◌, ◌++◌, ◌∙◌, ℕ, List, length, take, sym, ap, arith}
use Rattle.std.proofs.lemmas.List.{take-take, length-append}
use Rattle.std.proofs.Math.Seq.{take-append_seam}

-- what stood in front of the bytes that are kept stands there again once those behind it are cut off
pub cut_back : (n : ℕ) (after old more out : List ℕ) → n ≡ length old → out ≡ old ++ more → take (length out) after ≡ out → take n after ≡ old
cut_back n after old more out n_is is kept =
    let shorter : length old ≤ length out = rw is (omega (arith, length-append old more)) in
    rw n_is (sym (take-take (length old) (length out) after shorter) ∙ ap (take (length old)) (kept ∙ is) ∙ take-append_seam old more)
