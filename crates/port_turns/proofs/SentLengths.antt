-- A message for a slice keeps its length once its numbers are exchanged.
use Rattle.std.proofs.Common.{◌≡◌, ℕ, zero, suc, ◌+◌, ◌≤◌, ◌==◌, ◌||◌, ◌&&◌, not, eqb, leb, nat_lt, Bool, true, false, if◌then◌else◌, List, [], ◌∷◌, ◌++◌, length, take, drop, refl, sym, ◌∙◌, inl, inr, true≢false, arith}
use Rattle.std.specs.Prelude.{is_ok}
use Rattle.std.proofs.lemmas.Bool.{cases_Bool, and_parts, eqb-true, eqb-false, leb-true, ltb-false}
use Rattle.std.proofs.lemmas.List.{length-append, length-take-le, length-drop}
use Rattle.of10_model.specs.Normal.{number_at}
use Rattle.of10_action.specs.Reading.{read_all}
use Rattle.of10_ctl.specs.Frames.{is_bad}
use Rattle.of10_ctl.proofs.Patched.{with_length}
use Rattle.of10_message.specs.Heads.{version_of, message_kind}
use Rattle.of10_port.specs.Features.{has_whole_ports}
use Rattle.flowspace.specs.Swaps.{Pairs}
use Rattle.port_turns.specs.declared.places.Piece.{Piece}
use Rattle.port_turns.specs.declared.places.Piece.TheVariants as piece
use Rattle.port_turns.specs.declared.places.Places.{Places}
use Rattle.port_turns.specs.declared.places.Places.TheVariants as at
use Rattle.port_turns.specs.Turns.{written, turn_port, turn_match}
use Rattle.port_turns.specs.Sent.{port_size, piece_size, turn_right, turn_flow, turn_entry, turn_piece, turn_pieces, turn_at, places_by, places_of, turned_numbers, AreWithin}
use Rattle.port_turns.proofs.ActionTurns.{turn_actions_length}
use Rattle.port_turns.proofs.Matches.{turn_match_alike}
use Rattle.port_turns.proofs.Pieces.{port_there, piece_fits, flow_long, entry_two}

port_length : (pairs : Pairs) (place : ℕ) (f : List ℕ) → place + 2 ≤ length f → length (turn_port pairs place f) ≡ length f
port_length pairs place f le = with_length place (written pairs (number_at f place 2)) f le

match_length : (pairs : Pairs) (place : ℕ) (f : List ℕ) → place + 40 ≤ length f → length (turn_match pairs place f) ≡ length f
match_length pairs place f le = sym (turn_match_alike pairs place f le).size

right_length : (pairs : Pairs) (list : List ℕ) → length (turn_right pairs list) ≡ length list
right_length pairs list = elim (cases_Bool (is_ok (read_all list))) [
  | inl right ↦ rw right (turn_actions_length pairs (length list) list)
  | inr wrong ↦ rw wrong refl
]

flow_length : (pairs : Pairs) (own : List ℕ) → 88 ≤ length own → length (turn_flow pairs own) ≡ length own
flow_length pairs own long =
    let head = length-take-le 88 own long in
    let front = match_length pairs 4 (take 88 own) (omega (arith, head)) in
    let list = right_length pairs (drop 88 own) in
    let behind = length-drop 88 own in
    length-append (turn_match pairs 4 (take 88 own)) (turn_right pairs (drop 88 own)) ∙ omega (arith, head, front, list, behind, long)

entry_length : (pairs : Pairs) (kind : ℕ) (own : List ℕ) → ((kind == 1) ≡ true → 88 ≤ length own) → ((kind == 4 || kind == 5) ≡ true → 2 ≤ length own) → length (turn_entry pairs kind own) ≡ length own
entry_length pairs kind own flow port = elim (cases_Bool (kind == 1)) [
  | inl is ↦ rw is (flow_length pairs own (flow is))
  | inr other ↦ elim (cases_Bool (kind == 4 || kind == 5)) [
    | inl names ↦ rw (other, names) (let two = port names in port_length pairs 0 own (omega (arith, two)))
    | inr none ↦ rw (other, none) refl
  ]
]

port_two : (size : ℕ) (bytes : List ℕ) → 1 ≤ size → size ≡ port_size bytes → 2 ≤ size
port_two size bytes some is = let there = (port_there size bytes some is).0 in omega (arith, there)

-- a piece that is there keeps its length
piece_length : (pairs : Pairs) (one : Piece) (size : ℕ) (bytes : List ℕ) → 1 ≤ size → size ≡ piece_size one bytes → length (turn_piece pairs one (take size bytes)) ≡ size
piece_length pairs piece.Port size bytes some is =
    let fits = piece_fits piece.Port size bytes some is in
    let own = length-take-le size bytes fits in
    let two : 2 ≤ size = port_two size bytes some is in
    port_length pairs 0 (take size bytes) (omega (arith, own, two)) ∙ own
piece_length pairs (piece.Entry kind) size bytes some is =
    let fits = piece_fits (piece.Entry kind) size bytes some is in
    let own = length-take-le size bytes fits in
    entry_length pairs kind (take size bytes)
    (λ flow. let long = flow_long kind size bytes (eqb-true kind 1 flow) some is in omega (arith, long, own))
    (λ names. let two = (entry_two kind size bytes names some is).0 in omega (arith, two, own))
    ∙ own

pieces_length : (pairs : Pairs) (one : Piece) (n : ℕ) (bytes : List ℕ) → length (turn_pieces pairs one n bytes) ≡ length bytes
unfolding turn_pieces
pieces_length pairs one zero bytes = refl
pieces_length pairs one (suc n) bytes = elim (cases_Bool (eqb (piece_size one bytes) 0)) [
  | inl ends ↦ rw ends refl
  | inr more ↦
      let size = piece_size one bytes in
      let not_none = eqb-false size 0 more in
      let some : 1 ≤ piece_size one bytes = omega (arith, not_none) in
      let front = piece_length pairs one (piece_size one bytes) bytes some refl in
      let fits = piece_fits one (piece_size one bytes) bytes some refl in
      let later = pieces_length pairs one n (drop (piece_size one bytes) bytes) in
      let behind = length-drop (piece_size one bytes) bytes in
      rw more (length-append (turn_piece pairs one (take (piece_size one bytes) bytes)) (turn_pieces pairs one n (drop (piece_size one bytes) bytes)) ∙ omega (arith, front, fits, later, behind))
]

behind_length : (pairs : Pairs) (one : Piece) (place : ℕ) (f : List ℕ) → place ≤ length f → length (take place f ++ turn_pieces pairs one (length (drop place f)) (drop place f)) ≡ length f
behind_length pairs one place f le =
    let front = length-take-le place f le in
    let later = pieces_length pairs one (length (drop place f)) (drop place f) in
    let behind = length-drop place f in
    length-append (take place f) (turn_pieces pairs one (length (drop place f)) (drop place f)) ∙ omega (arith, front, later, behind, le)

at_length : (pairs : Pairs) (places : Places) (f : List ℕ) → AreWithin f places → length (turn_at pairs places f) ≡ length f
at_length pairs (at.Port place) f within = port_length pairs place f within.1
at_length pairs (at.Match place) f within = match_length pairs place f within.1
at_length pairs (at.Entries kind) f within = behind_length pairs (piece.Entry kind) 12 f within
at_length pairs at.Ports f within = behind_length pairs piece.Port 32 f within.0
at_length pairs at.Nowhere f within = refl

-- ---- where numbers stand, they stand within the message

pub ports_long : (f : List ℕ) → has_whole_ports f ≡ true → 32 ≤ length f
ports_long f whole = elim (cases_Bool (nat_lt (length f) 32)) [
  | inl short ↦ absurd (true≢false (sym whole ∙ rw short refl))
  | inr long ↦ ltb-false (length f) 32 long
]

either : (f : List ℕ) (b : Bool) (one other : Places) → (b ≡ true → AreWithin f one) → AreWithin f other → AreWithin f (if b then one else other)
either f true one other here there = here refl
either f false one other here there = there

by_within : (kind : ℕ) (f : List ℕ) → AreWithin f (places_by kind f)
by_within kind f =
    either f (kind == 10 && leb 18 (length f)) (at.Port 14) _ (λ e. let long = leb-true 18 (length f) (and_parts (kind == 10) (leb 18 (length f)) e).1 in (omega arith, omega (arith, long)))
    (either f (kind == 11 && length f == 88) (at.Match 8) _ (λ e. let long = eqb-true (length f) 88 (and_parts (kind == 11) (length f == 88) e).1 in (omega arith, omega (arith, long)))
    (either f (kind == 12 && length f == 64) (at.Port 16) _ (λ e. let long = eqb-true (length f) 64 (and_parts (kind == 12) (length f == 64) e).1 in (omega arith, omega (arith, long)))
    (either f (kind == 21 && leb 16 (length f)) (at.Port 8) _ (λ e. let long = leb-true 16 (length f) (and_parts (kind == 21) (leb 16 (length f)) e).1 in (omega arith, omega (arith, long)))
    (either f (kind == 17 && leb 12 (length f)) (at.Entries (number_at f 8 2)) _ (λ e. leb-true 12 (length f) (and_parts (kind == 17) (leb 12 (length f)) e).1)
    (either f (kind == 6 && has_whole_ports f) at.Ports at.Nowhere (λ e. let whole = (and_parts (kind == 6) (has_whole_ports f) e).1 in (ports_long f whole, whole)) tt)))))

pub places_within : (f : List ℕ) → AreWithin f (places_of f)
unfolding places_of
places_within f = either f (version_of f == 1 && not (is_bad f)) (places_by (message_kind f) f) at.Nowhere (λ e. by_within (message_kind f) f) tt

pub numbers_length : (pairs : Pairs) (f : List ℕ) → length (turned_numbers pairs f) ≡ length f
unfolding turned_numbers
numbers_length [] f = refl
numbers_length (pair ∷ others) f = at_length (pair ∷ others) (places_of f) f (places_within f)
