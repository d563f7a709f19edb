-- What stands for a port, and a number within a piece.
use Rattle.std.proofs.Common.{◌≡◌, ℕ, ◌+◌, ◌-◌, ◌≤◌, ◌<◌, ◌^◌, List, take, drop, sym, ap, ◌∙◌, arith}
use Rattle.std.proofs.lemmas.List.{drop-take}
use Rattle.byteorder.specs.Endian.{big_number}
use Rattle.byteorder.specs.Numbers.{big_from-take}
use Rattle.of10_model.specs.Normal.{number_at}
use Rattle.flowspace.specs.Swaps.{Pairs}
use Rattle.port_turns.specs.Turns.{written}

-- what stands for a port has two bytes
pub written_small : (pairs : Pairs) (port : ℕ) → written pairs port < 2 ^ 16
written_small pairs port = omega arith

pub number_take : (size : ℕ) (bytes : List ℕ) (place n : ℕ) → place + n ≤ size → number_at (take size bytes) place n ≡ number_at bytes place n
number_take size bytes place n le =
    let whole : place + (size - place) ≡ size = omega (arith, le) in
    ap (λ k. big_number n (drop place (take k bytes))) (sym whole)
    ∙ ap (big_number n) (drop-take place (size - place) bytes)
    ∙ big_from-take 0 n (size - place) (drop place bytes) (omega (arith, le))
