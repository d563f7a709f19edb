-- A message for a slice is as long with the port numbers that the slice is shown as it was.
use Rattle.std.proofs.Common.{◌≡◌, ℕ, zero, suc, ◌+◌, ◌-◌, ◌*◌, ◌/◌, ◌%◌, ◌≤◌, ◌==◌, ◌&&◌, not, nat_lt, List, [], ◌∷◌, ◌++◌, length, take, drop, refl, sym, ap, subst, ◌∙◌, arith}
use Rattle.std.specs.List.{All}
use Rattle.std.specs.Simd.{first_chunks}
use Rattle.std.specs.Prelude.{IsTrue}
use Rattle.std.proofs.lemmas.Bool.{and_parts, eqb-true}
use Rattle.std.proofs.lemmas.List.{length-append, length-take-le, length-drop}
use Rattle.std.proofs.lemmas.List.Sorted.{All-permutation}
use Rattle.of10_port.specs.Ports.{IsPort, port_bytes, ports_in}
use Rattle.of10_port.specs.Features.{has_whole_ports}
use Rattle.of10_port.proofs.Pieces.{length-port_bytes, IsPort-ports_in}
use Rattle.flowspace.specs.Swaps.{Pairs}
use Rattle.flowspace.proofs.Ranking.{IsPermutation-ranked}
use Rattle.port_turns.specs.declared.places.Places.{Places}
use Rattle.port_turns.specs.declared.places.Places.TheVariants as at
use Rattle.port_turns.specs.Sent.{AreWithin, descent, in_number_order, ports_sorted, places_of, sorted_at, turned_numbers, turn_out}
use Rattle.port_turns.proofs.Ordered.{in_number_order-length}
use Rattle.port_turns.proofs.SentLengths.{numbers_length, places_within}

chunks_length : (k : ℕ) (bytes : List ℕ) → length (first_chunks 48 k bytes) ≡ k
chunks_length zero bytes = refl
chunks_length (suc k) bytes = ap (λ n. suc n) (chunks_length k (drop 48 bytes))

ports_length : (bytes : List ℕ) → length (ports_in bytes) ≡ length bytes / 48
unfolding ports_in
ports_length bytes = chunks_length (length bytes / 48) bytes

sorted_length : (f : List ℕ) → 32 ≤ length f → IsTrue (has_whole_ports f) → length (ports_sorted f) ≡ length f
sorted_length f long whole =
    let ports = ports_in (drop 32 f) in
    let are = All-permutation IsPort ports (in_number_order ports) (IsPermutation-ranked descent ports) (IsPort-ports_in (drop 32 f)) in
    let size = length-port_bytes (in_number_order ports) are in
    let same = in_number_order-length ports in
    let count = ports_length (drop 32 f) in
    let rest = eqb-true ((length f - 32) % 48) 0 (and_parts (not (nat_lt (length f) 32)) ((length f - 32) % 48 == 0) whole).1 in
    let behind = length-drop 32 f in
    let front = length-take-le 32 f long in
    length-append (take 32 f) (port_bytes (in_number_order ports)) ∙ omega (arith, size, same, count, rest, behind, front, long)

-- whether ports are whole depends on the length alone
whole_still : (f g : List ℕ) → length g ≡ length f → IsTrue (has_whole_ports f) → IsTrue (has_whole_ports g)
whole_still f g same whole = subst (λ n. IsTrue (not (nat_lt n 32) && (n - 32) % 48 == 0)) (sym same) whole

at_sorted : (places : Places) (f g : List ℕ) → length g ≡ length f → AreWithin f places → length (sorted_at places g) ≡ length g
at_sorted at.Ports f g same within = sorted_length g (subst (λ n. 32 ≤ n) (sym same) within.0) (whole_still f g same within.1)
at_sorted (at.Port place) f g same within = refl
at_sorted (at.Match place) f g same within = refl
at_sorted (at.Entries kind) f g same within = refl
at_sorted at.Nowhere f g same within = refl

pub out_length : (pairs : Pairs) (f : List ℕ) → length (turn_out pairs f) ≡ length f
unfolding turn_out
out_length [] f = refl
out_length (pair ∷ others) f =
    let numbers = numbers_length (pair ∷ others) f in
    at_sorted (places_of f) f (turned_numbers (pair ∷ others) f) numbers (places_within f) ∙ numbers
