-- Pieces exchanged one after another, where they stand.
use Rattle.std.proofs.Common.{◌≡◌, ℕ, zero, suc, ◌+◌, ◌-◌, ◌≤◌, eqb, leb, true, false, if◌then◌else◌, List, [], ◌∷◌, ◌++◌, length, take, drop, refl, sym, ap, ap₂, subst, ◌∙◌, inl, inr, append_assoc, arith, Option, Some, None, ◌==◌, ◌||◌}
use Rattle.std.specs.Prelude.{is_ok, unwrap_or}
use Rattle.std.proofs.lemmas.Bool.{cases_Bool, eqb-true, eqb-false, eq-eqb, leb-true}
use Rattle.std.proofs.lemmas.List.{length-append, length-take-le, length-drop, take-append-drop, take_all, take_at, drop_at, drop-drop}
use Rattle.of10_stats.specs.Replies.{entry_size_of, IsEntry}
use Rattle.of10_stats.proofs.Sizes.{entry_there, flow_is_long, port_is_long}
use Rattle.of10_action.specs.Reading.{read_all}
use Rattle.flowspace.specs.Swaps.{Pairs}
use Rattle.port_turns.specs.declared.places.Piece.{Piece}
use Rattle.port_turns.specs.declared.places.Piece.TheVariants as piece
use Rattle.port_turns.specs.Turns.{turn_port, turn_match, turn_list}
use Rattle.port_turns.specs.Sent.{port_size, entry_bytes, piece_size, turn_flow, turn_entry, turn_piece, turn_pieces, turn_all, turned_part}
use Rattle.port_turns.proofs.Matches.{turn_match_alike}
use Rattle.port_turns.proofs.Parts.{part_is, parts_of, port_within, match_within}

-- ---- how long a piece is

some_of : (found : Option ℕ) → 1 ≤ unwrap_or found 0 → found ≡ Some (unwrap_or found 0)
some_of None some = absurd (omega (arith, some))
some_of (Some n) some = refl

-- an entry that is there is well formed
pub entry_is : (kind size : ℕ) (bytes : List ℕ) → 1 ≤ size → size ≡ entry_bytes kind bytes → (size ≤ length bytes) × IsEntry kind (take size bytes)
entry_is kind size bytes some is =
    let P : ℕ → Type 0 = λ n. (n ≤ length bytes) × IsEntry kind (take n bytes) in
    subst P (sym is) (entry_there kind (entry_bytes kind bytes) bytes (some_of (entry_size_of kind bytes) (subst (λ n. 1 ≤ n) is some)))

pub port_there : (size : ℕ) (bytes : List ℕ) → 1 ≤ size → size ≡ port_size bytes → (size ≡ 48) × (48 ≤ length bytes)
port_there size bytes some is = elim (cases_Bool (leb 48 (length bytes))) [
  | inl fits ↦ (is ∙ rw fits refl, leb-true 48 (length bytes) fits)
  | inr short ↦ absurd (let none : size ≡ 0 = is ∙ rw short refl in omega (arith, some, none))
]

pub piece_fits : (one : Piece) (size : ℕ) (bytes : List ℕ) → 1 ≤ size → size ≡ piece_size one bytes → size ≤ length bytes
piece_fits piece.Port size bytes some is = let p = port_there size bytes some is in let fits = p.1 in let same = p.0 in omega (arith, fits, same)
piece_fits (piece.Entry kind) size bytes some is = (entry_is kind size bytes some is).0

-- a piece that is there lies within the bytes
lies : (size place : ℕ) (bytes : List ℕ) → 1 ≤ size → size ≤ length (drop place bytes) → place ≤ length bytes
lies size place bytes some fits = let behind = length-drop place bytes in omega (arith, some, fits, behind)

pub port_lies : (size place : ℕ) (bytes : List ℕ) → 1 ≤ size → size ≡ port_size (drop place bytes) → place ≤ length bytes
port_lies size place bytes some is = lies size place bytes some (piece_fits piece.Port size (drop place bytes) some is)

pub entry_lies : (kind size place : ℕ) (bytes : List ℕ) → 1 ≤ size → size ≡ entry_bytes kind (drop place bytes) → place ≤ length bytes
entry_lies kind size place bytes some is = lies size place bytes some (piece_fits (piece.Entry kind) size (drop place bytes) some is)

-- ---- one piece

module _ (pairs : Pairs) (bytes : List ℕ) (place size : ℕ) (within : place + size ≤ length bytes) where
  abbrev front : List ℕ
  front = take place bytes

  abbrev own : List ℕ
  own = take size (drop place bytes)

  abbrev rest : List ℕ
  rest = drop (place + size) bytes

  here : length front ≡ place
  here = length-take-le place bytes (omega (arith, within))

  long : length own ≡ size
  long = let behind = length-drop place bytes in length-take-le size (drop place bytes) (omega (arith, within, behind))

  pub port_part : 2 ≤ size → turn_port pairs place bytes ≡ turned_part (turn_port pairs 0) place size bytes
  port_part two =
      let l = long in
      let at_front : place ≡ length front + 0 = let h = here in omega (arith, h) in
      ap (turn_port pairs place) (sym (parts_of place size bytes))
      ∙ ap (λ n. turn_port pairs n (front ++ (own ++ rest))) at_front
      ∙ port_within pairs front own rest 0 (omega (arith, two, l))

  -- ---- a flow entry

  module _ (eighty : 88 ≤ size) where
    abbrev head : List ℕ
    head = take 88 own

    abbrev list : List ℕ
    list = drop 88 own

    abbrev turned : List ℕ
    turned = turn_match pairs 4 head

    head_long : length head ≡ 88
    head_long = let l = long in length-take-le 88 own (omega (arith, l, eighty))

    turned_long : length turned ≡ 88
    turned_long = let l = head_long in sym (turn_match_alike pairs 4 head (omega (arith, l))).size ∙ head_long

    split : bytes ≡ front ++ (head ++ (list ++ rest))
    split = sym (parts_of place size bytes) ∙ ap (λ (l : List ℕ). front ++ (l ++ rest)) (sym (take-append-drop 88 own)) ∙ ap (λ (l : List ℕ). front ++ l) (append_assoc head list rest)

    matched : turn_match pairs (place + 4) bytes ≡ front ++ (turned ++ (list ++ rest))
    matched =
        let l = head_long in
        ap (turn_match pairs (place + 4)) split
        ∙ ap (λ n. turn_match pairs (n + 4) (front ++ (head ++ (list ++ rest)))) (sym here)
        ∙ match_within pairs front head (list ++ rest) 4 (omega (arith, l))

    list_long : length list ≡ place + size - (place + 88)
    list_long = let l = long in length-drop 88 own ∙ omega (arith, l)

    list_in : (f x : List ℕ) → length x ≡ 88 → f ≡ front ++ (x ++ (list ++ rest)) → take (place + size - (place + 88)) (drop (place + 88) f) ≡ list
    list_in f x size_x is =
        ap (λ (l : List ℕ). take (place + size - (place + 88)) (drop (place + 88) l)) is
        ∙ ap (λ (l : List ℕ). take (place + size - (place + 88)) l) (sym (drop-drop 88 place (front ++ (x ++ (list ++ rest)))) ∙ ap (drop 88) (drop_at front (x ++ (list ++ rest)) place here) ∙ drop_at x (list ++ rest) 88 size_x)
        ∙ take_at list rest (place + size - (place + 88)) list_long

    pub list_before : take (place + size - (place + 88)) (drop (place + 88) bytes) ≡ list
    list_before = list_in bytes head head_long split

    pub list_after : take (place + size - (place + 88)) (drop (place + 88) (turn_match pairs (place + 4) bytes)) ≡ list
    list_after = list_in (turn_match pairs (place + 4) bytes) turned turned_long matched

    pub flow_right : is_ok (read_all list) ≡ true
        → turned_part (turn_list pairs) (place + 88) (place + size - (place + 88)) (turn_match pairs (place + 4) bytes) ≡ turned_part (turn_flow pairs) place size bytes
    flow_right right =
        let both : length (front ++ turned) ≡ place + 88 = length-append front turned ∙ (let h = here in let l = turned_long in omega (arith, h, l)) in
        ap (turned_part (turn_list pairs) (place + 88) (place + size - (place + 88))) (matched ∙ sym (append_assoc front turned (list ++ rest)))
        ∙ part_is (turn_list pairs) (place + 88) (place + size - (place + 88)) (front ++ turned) list rest both list_long
        ∙ append_assoc front turned (turn_list pairs list ++ rest)
        ∙ ap (λ (l : List ℕ). front ++ l) (sym (append_assoc turned (turn_list pairs list) rest))
        ∙ ap (λ b. front ++ ((turned ++ (if b then turn_list pairs list else list)) ++ rest)) (sym right)

    pub flow_other : is_ok (read_all list) ≡ false → turn_match pairs (place + 4) bytes ≡ turned_part (turn_flow pairs) place size bytes
    flow_other wrong =
        matched
        ∙ ap (λ (l : List ℕ). front ++ l) (sym (append_assoc turned list rest))
        ∙ ap (λ b. front ++ ((turned ++ (if b then turn_list pairs list else list)) ++ rest)) (sym wrong)

-- ---- an entry, and a port of a switch

pub flow_long : (kind size : ℕ) (bytes : List ℕ) → kind ≡ 1 → 1 ≤ size → size ≡ entry_bytes kind bytes → 88 ≤ size
flow_long kind size bytes flow some is =
    let there = entry_is kind size bytes some is in
    let fits = there.0 in
    let own : IsEntry 1 (take size bytes) = subst (λ k. IsEntry k (take size bytes)) flow there.1 in
    let least = flow_is_long (take size bytes) own in
    let size_is = length-take-le size bytes there.0 in
    omega (arith, least, size_is)

pub entry_two : (kind size : ℕ) (bytes : List ℕ) → (kind == 4 || kind == 5) ≡ true → 1 ≤ size → size ≡ entry_bytes kind bytes → (2 ≤ size) × (size ≤ length bytes)
entry_two kind size bytes names some is =
    let there = entry_is kind size bytes some is in
    let size_is = length-take-le size bytes there.0 in
    let two : 2 ≤ length (take size bytes) = elim (cases_Bool (kind == 4)) [
      | inl port ↦ port_is_long (take size bytes) (inl (subst (λ k. IsEntry k (take size bytes)) (eqb-true kind 4 port) there.1))
      | inr other ↦ port_is_long (take size bytes) (inr (subst (λ k. IsEntry k (take size bytes)) (eqb-true kind 5 ((rw other at names))) there.1))
    ] in
    (omega (arith, two, size_is), there.0)

pub entry_port_part : (pairs : Pairs) (kind size place : ℕ) (bytes : List ℕ) → place ≤ length bytes → (kind == 1) ≡ false → (kind == 4 || kind == 5) ≡ true → 1 ≤ size → size ≡ entry_bytes kind (drop place bytes)
    → turn_port pairs place bytes ≡ turned_part (turn_entry pairs kind) place size bytes
entry_port_part pairs kind size place bytes le other names some is =
    let fits = entry_two kind size (drop place bytes) names some is in
    let two = fits.0 in
    let most = fits.1 in
    let behind = length-drop place bytes in
    rw (other, names) (port_part pairs bytes place size (omega (arith, le, most, behind)) two)

pub entry_other_part : (pairs : Pairs) (kind size place : ℕ) (bytes : List ℕ) → (kind == 1) ≡ false → (kind == 4 || kind == 5) ≡ false → bytes ≡ turned_part (turn_entry pairs kind) place size bytes
entry_other_part pairs kind size place bytes other none = rw (other, none) (sym (parts_of place size bytes))

pub described_part : (pairs : Pairs) (size place : ℕ) (bytes : List ℕ) → place ≤ length bytes → 1 ≤ size → size ≡ port_size (drop place bytes) → turn_port pairs place bytes ≡ turned_part (turn_port pairs 0) place size bytes
described_part pairs size place bytes le some is =
    let there = port_there size (drop place bytes) some is in
    let same = there.0 in
    let fits = there.1 in
    let behind = length-drop place bytes in
    port_part pairs bytes place size (omega (arith, le, same, fits, behind)) (omega (arith, same))

-- ---- one count or another

no_bytes : (one : Piece) → piece_size one [] ≡ 0
no_bytes one = elim (cases_Bool (eqb (piece_size one []) 0)) [
  | inl none ↦ eqb-true (piece_size one []) 0 none
  | inr some ↦
      let not_none = eqb-false (piece_size one []) 0 some in
      absurd (let fits = piece_fits one (piece_size one []) [] (omega (arith, not_none)) refl in omega (arith, fits, not_none))
]

pieces_none : (pairs : Pairs) (one : Piece) (n : ℕ) → turn_pieces pairs one n [] ≡ []
unfolding turn_pieces
pieces_none pairs one zero = refl
pieces_none pairs one (suc n) = rw (eq-eqb (piece_size one []) 0 (no_bytes one)) refl

pieces_by : (pairs : Pairs) (one : Piece) (n m : ℕ) (bytes : List ℕ) → length bytes ≤ n + 1 → length bytes ≤ m + 1 → ((l : List ℕ) → length l ≤ n → length l ≤ m → turn_pieces pairs one n l ≡ turn_pieces pairs one m l)
    → (if eqb (piece_size one bytes) 0 then bytes else turn_piece pairs one (take (piece_size one bytes) bytes) ++ turn_pieces pairs one n (drop (piece_size one bytes) bytes))
    ≡ (if eqb (piece_size one bytes) 0 then bytes else turn_piece pairs one (take (piece_size one bytes) bytes) ++ turn_pieces pairs one m (drop (piece_size one bytes) bytes))
pieces_by pairs one n m bytes le1 le2 later = elim (cases_Bool (eqb (piece_size one bytes) 0)) [
  | inl none ↦ rw none refl
  | inr some ↦
      let not_none = eqb-false (piece_size one bytes) 0 some in
      let rest = length-drop (piece_size one bytes) bytes in
      rw some (ap (λ (l : List ℕ). turn_piece pairs one (take (piece_size one bytes) bytes) ++ l) (later (drop (piece_size one bytes) bytes) (omega (arith, not_none, rest, le1)) (omega (arith, not_none, rest, le2))))
]

pieces_count : (pairs : Pairs) (one : Piece) (n m : ℕ) (bytes : List ℕ) → length bytes ≤ n → length bytes ≤ m → turn_pieces pairs one n bytes ≡ turn_pieces pairs one m bytes
unfolding turn_pieces
pieces_count pairs one n m [] le1 le2 = pieces_none pairs one n ∙ sym (pieces_none pairs one m)
pieces_count pairs one zero m (b ∷ bytes) le1 le2 = absurd (omega arith)
pieces_count pairs one (suc n) zero (b ∷ bytes) le1 le2 = absurd (omega arith)
pieces_count pairs one (suc n) (suc m) (b ∷ bytes) le1 le2 = pieces_by pairs one n m (b ∷ bytes) (omega (arith, le1)) (omega (arith, le2)) (pieces_count pairs one n m)

-- ---- all pieces

all_step : (pairs : Pairs) (one : Piece) (n : ℕ) (left : List ℕ) → length left ≡ n + 1 → 1 ≤ piece_size one left
    → (if eqb (piece_size one left) 0 then left else turn_piece pairs one (take (piece_size one left) left) ++ turn_pieces pairs one n (drop (piece_size one left) left))
    ≡ turn_piece pairs one (take (piece_size one left) left) ++ turn_all pairs one (drop (piece_size one left) left)
all_step pairs one n left count some = elim (cases_Bool (eqb (piece_size one left) 0)) [
  | inl none ↦ absurd (let is = eqb-true (piece_size one left) 0 none in omega (arith, is, some))
  | inr there ↦
      let rest = length-drop (piece_size one left) left in
      rw there (ap (λ (l : List ℕ). turn_piece pairs one (take (piece_size one left) left) ++ l) (pieces_count pairs one n (length (drop (piece_size one left) left)) (drop (piece_size one left) left) (omega (arith, some, rest, count)) (omega arith)))
]

pub all_steps : (pairs : Pairs) (one : Piece) (left : List ℕ) → 1 ≤ piece_size one left
    → turn_all pairs one left ≡ turn_piece pairs one (take (piece_size one left) left) ++ turn_all pairs one (drop (piece_size one left) left)
unfolding turn_pieces
all_steps pairs one [] some = absurd (let none = no_bytes one in omega (arith, none, some))
all_steps pairs one (b ∷ l) some = all_step pairs one (length l) (b ∷ l) (omega arith) some

pub all_ends : (pairs : Pairs) (one : Piece) (left : List ℕ) → piece_size one left ≡ 0 → turn_all pairs one left ≡ left
unfolding turn_pieces
all_ends pairs one [] none = refl
all_ends pairs one (b ∷ l) none = rw (eq-eqb (piece_size one (b ∷ l)) 0 none) refl

-- once no piece is left, the bytes are those that are wanted
pub pieces_end : (pairs : Pairs) (one : Piece) (bytes : List ℕ) (place : ℕ) → piece_size one (drop place bytes) ≡ 0 → take place bytes ++ turn_all pairs one (drop place bytes) ≡ bytes
pieces_end pairs one bytes place none = ap (λ (l : List ℕ). take place bytes ++ l) (all_ends pairs one (drop place bytes) none) ∙ take-append-drop place bytes

-- a piece is turned
pub pieces_step : (pairs : Pairs) (one : Piece) (bytes next : List ℕ) (place size : ℕ) → place ≤ length bytes → 1 ≤ size → size ≡ piece_size one (drop place bytes)
    → next ≡ turned_part (turn_piece pairs one) place size bytes → length next ≡ length bytes
    → take (place + size) next ++ turn_all pairs one (drop (place + size) next) ≡ take place bytes ++ turn_all pairs one (drop place bytes)
pieces_step pairs one bytes next place size le some is made same =
    let left = drop place bytes in
    let front = take place bytes in
    let turned = turn_piece pairs one (take size left) in
    let more = drop (place + size) bytes in
    let fits = piece_fits one size left some is in
    let behind = length-drop place bytes in
    let here = length-take-le place bytes le in
    let last = length-drop (place + size) bytes in
    let all = ap length made ∙ length-append front (turned ++ more) in
    let parts = length-append turned more in
    let both : length (front ++ turned) ≡ place + size = length-append front turned ∙ omega (arith, all, parts, here, last, same, fits, behind) in
    let split : next ≡ (front ++ turned) ++ more = made ∙ sym (append_assoc front turned more) in
    let size_some : 1 ≤ piece_size one left = subst (λ n. 1 ≤ n) is some in
    let step : turn_all pairs one left ≡ turned ++ turn_all pairs one more =
    all_steps pairs one left size_some
    ∙ ap (λ n. turn_piece pairs one (take n left) ++ turn_all pairs one (drop n left)) (sym is)
    ∙ ap (λ (l : List ℕ). turned ++ turn_all pairs one l) (drop-drop size place bytes) in
    ap₂ (λ (a b : List ℕ). a ++ turn_all pairs one b)
    (ap (take (place + size)) split ∙ take_at (front ++ turned) more (place + size) both)
    (ap (drop (place + size)) split ∙ drop_at (front ++ turned) more (place + size) both)
    ∙ append_assoc front turned (turn_all pairs one more)
    ∙ ap (λ (l : List ℕ). front ++ l) (sym step)

-- all bytes behind a place, as a part that ends with them
pub rest_here : (place : ℕ) (bytes : List ℕ) → take (length bytes - place) (drop place bytes) ≡ drop place bytes
rest_here place bytes = take_all (length bytes - place) (drop place bytes) (let behind = length-drop place bytes in omega (arith, behind))
