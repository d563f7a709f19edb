-- Fields that are written one behind the other make up the whole.
use Rattle.std.proofs.Common.{◌≡◌, ℕ, List, ◌++◌, take, refl, sym, ◌∙◌}

pub written : (o1 o2 o3 o4 o5 o6 o7 o8 o9 o10 o11 o12 o13 o14 out b0 b1 b2 b3 b4 b5 b6 b7 b8 b9 b10 b11 b12 b13 b14 : List ℕ)
    → take 4 o1 ≡ b0 → take 6 o2 ≡ take 4 o1 ++ b1 → take 12 o3 ≡ take 6 o2 ++ b2 → take 18 o4 ≡ take 12 o3 ++ b3 → take 20 o5 ≡ take 18 o4 ++ b4
    → take 21 o6 ≡ take 20 o5 ++ b5 → take 22 o7 ≡ take 21 o6 ++ b6 → take 24 o8 ≡ take 22 o7 ++ b7 → take 25 o9 ≡ take 24 o8 ++ b8 → take 26 o10 ≡ take 25 o9 ++ b9
    → take 28 o11 ≡ take 26 o10 ++ b10 → take 32 o12 ≡ take 28 o11 ++ b11 → take 36 o13 ≡ take 32 o12 ++ b12 → take 38 o14 ≡ take 36 o13 ++ b13 → take 40 out ≡ take 38 o14 ++ b14
    → take 40 out ≡ out
    → out ≡ b0 ++ b1 ++ b2 ++ b3 ++ b4 ++ b5 ++ b6 ++ b7 ++ b8 ++ b9 ++ b10 ++ b11 ++ b12 ++ b13 ++ b14
written o1 o2 o3 o4 o5 o6 o7 o8 o9 o10 o11 o12 o13 o14 out b0 b1 b2 b3 b4 b5 b6 b7 b8 b9 b10 b11 b12 b13 b14 h0 h1 h2 h3 h4 h5 h6 h7 h8 h9 h10 h11 h12 h13 h14 whole =
    sym whole ∙ rw (h14, h13, h12, h11, h10, h9, h8, h7, h6, h5, h4, h3, h2, h1, h0) refl
