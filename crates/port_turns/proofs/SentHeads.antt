-- A message for a slice keeps its head once its numbers are exchanged.
use Rattle.std.proofs.Common.{◌≡◌, ℕ, ◌+◌, ◌≤◌, nat_lt, List, [], ◌∷◌, ◌++◌, length, take, drop, refl, sym, ap, ◌∙◌, arith}
use Rattle.std.proofs.lemmas.List.{length-take-le, take-append-le, take-take}
use Rattle.of10_model.specs.Normal.{number_at}
use Rattle.of10_model.specs.Padding.{AlikeBut}
use Rattle.of10_model.proofs.Padding.{piece_before}
use Rattle.of10_ctl.specs.Frames.{IsFrame}
use Rattle.of10_ctl.specs.Kinds.{IsOf}
use Rattle.of10_ctl.proofs.Patched.{with_alike}
use Rattle.of10_port.specs.Ports.{port_bytes, ports_in}
use Rattle.flowspace.specs.Swaps.{Pairs}
use Rattle.port_turns.specs.declared.places.Piece.TheVariants as piece
use Rattle.port_turns.specs.declared.places.Places.{Places}
use Rattle.port_turns.specs.declared.places.Places.TheVariants as at
use Rattle.port_turns.specs.Turns.{written, turn_port, turn_match}
use Rattle.port_turns.specs.Sent.{turn_all, turn_at, places_of, sorted_at, in_number_order, turned_numbers, turn_out, AreWithin}
use Rattle.port_turns.proofs.Matches.{turn_match_alike}
use Rattle.port_turns.proofs.ByKind.{same_byte, same_length}
use Rattle.port_turns.proofs.SentLengths.{numbers_length, places_within}

-- what stands in front of two bytes that may differ
alike_head : (place : ℕ) (f turned : List ℕ) → 8 ≤ place → AlikeBut place (place + 2) f turned → take 8 turned ≡ take 8 f
alike_head place f turned le alike = sym (piece_before place (place + 2) f turned alike 0 8 (omega (arith, le)))

-- and in front of all that is behind a place
front_head : (place : ℕ) (f rest : List ℕ) → 8 ≤ place → place ≤ length f → take 8 (take place f ++ rest) ≡ take 8 f
front_head place f rest le fits = take-append-le 8 (take place f) rest (let long = length-take-le place f fits in omega (arith, long, le)) ∙ take-take 8 place f le

at_head : (pairs : Pairs) (places : Places) (f : List ℕ) → AreWithin f places → take 8 (turn_at pairs places f) ≡ take 8 f
at_head pairs (at.Port place) f within = alike_head place f (turn_port pairs place f) within.0 (with_alike place (written pairs (number_at f place 2)) f within.1)
at_head pairs (at.Match place) f within = alike_head (place + 4) f (turn_match pairs place f) (let le = within.0 in omega (arith, le)) (turn_match_alike pairs place f within.1)
at_head pairs (at.Entries kind) f within = front_head 12 f (turn_all pairs (piece.Entry kind) (drop 12 f)) (omega arith) within
at_head pairs at.Ports f within = front_head 32 f (turn_all pairs piece.Port (drop 32 f)) (omega arith) within.0
at_head pairs at.Nowhere f within = refl

numbers_head : (pairs : Pairs) (f : List ℕ) → take 8 (turned_numbers pairs f) ≡ take 8 f
unfolding turned_numbers
numbers_head [] f = refl
numbers_head (pair ∷ others) f = at_head (pair ∷ others) (places_of f) f (places_within f)

sorted_head : (places : Places) (f turned : List ℕ) → AreWithin f places → length turned ≡ length f → take 8 (sorted_at places turned) ≡ take 8 turned
sorted_head (at.Port place) f turned within size = refl
sorted_head (at.Match place) f turned within size = refl
sorted_head (at.Entries kind) f turned within size = refl
sorted_head at.Ports f turned within size = front_head 32 turned (port_bytes (in_number_order (ports_in (drop 32 turned)))) (omega arith) (let le = within.0 in omega (arith, le, size))
sorted_head at.Nowhere f turned within size = refl

pub out_head : (pairs : Pairs) (f : List ℕ) → take 8 (turn_out pairs f) ≡ take 8 f
unfolding turn_out
out_head [] f = refl
out_head (pair ∷ others) f = sorted_head (places_of f) f (turned_numbers (pair ∷ others) f) (places_within f) (numbers_length (pair ∷ others) f) ∙ numbers_head (pair ∷ others) f

-- so it is of the same type
pub out_kind : (kind : ℕ) (pairs : Pairs) (f : List ℕ) → IsFrame (turn_out pairs f) → IsOf kind f → IsOf kind (turn_out pairs f)
out_kind kind pairs f frame is =
    let head = out_head pairs f in (
      frame,
      same_byte f (turn_out pairs f) head 0 (omega arith) ∙ is.1,
      same_byte f (turn_out pairs f) head 1 (omega arith) ∙ is.2,
      ap (λ n. nat_lt n 8) (same_length f (turn_out pairs f) head) ∙ is.3,
    )
