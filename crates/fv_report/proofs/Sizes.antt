-- How many bytes a line has behind its place.
use Rattle.std.proofs.Common.{ℕ, List, ◌≡◌, ◌*◌, ◌+◌, ◌++◌, length, codes, arith}
use Rattle.std.proofs.lemmas.List.{length-append}
use Rattle.hex.specs.Hex.{encode_lower, lower_digits}
use Rattle.hex.proofs.HexLemmas.{length-encode_with}
use Rattle.desk_words.specs.Reports.{saying_text, Lane, To}

pub lane_size : (message : List ℕ) → length (saying_text (Lane message)) ≡ length message * 2 + 5
lane_size message =
    let digits = length-encode_with lower_digits message in
    let all = length-append (codes "lane ") (encode_lower message) in
    omega (arith, digits, all)

pub to_size : (slot : ℕ) (name message : List ℕ) → length (saying_text (To slot name message)) ≡ length message * 2 + length name + 4
to_size slot name message =
    let digits = length-encode_with lower_digits message in
    let named = length-append name (codes " ") in
    let all = length-append (name ++ codes " ") (encode_lower message) in
    omega (arith, digits, named, all)
