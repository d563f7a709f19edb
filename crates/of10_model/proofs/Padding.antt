-- What is read beside padding is read alike.
use Rattle.std.proofs.Common.{◌≡◌, ℕ, ◌+◌, ◌≤◌, ◌<◌, List, take, drop, slice_index, refl, sym, ap, ◌∙◌, arith}
use Rattle.std.proofs.lemmas.List.{take-take, drop-drop, drop-take, get_or-take}
use Rattle.byteorder.specs.Endian.{big_number}
use Rattle.byteorder.specs.Numbers.{big_from-take}
use Rattle.of10_model.specs.Normal.{number_at, spelled, applied, Norm}
use Rattle.of10_model.specs.Padding.{AlikeBut}

-- ---- in front of the padding

piece_of_front : (from place n : ℕ) (bytes : List ℕ) → place + n ≤ from → take n (drop place bytes) ≡ drop place (take (place + n) (take from bytes))
piece_of_front from place n bytes le = sym (ap (drop place) (take-take (place + n) from bytes le) ∙ drop-take place n bytes)

pub piece_before : (from to : ℕ) (a b : List ℕ) → AlikeBut from to a b → (place n : ℕ) → place + n ≤ from → take n (drop place a) ≡ take n (drop place b)
piece_before from to a b h place n le =
    piece_of_front from place n a le ∙ ap (λ (l : List ℕ). drop place (take (place + n) l)) h.front ∙ sym (piece_of_front from place n b le)

pub number_before : (from to : ℕ) (a b : List ℕ) → AlikeBut from to a b → (place n : ℕ) → place + n ≤ from → number_at a place n ≡ number_at b place n
number_before from to a b h place n le =
    sym (big_from-take 0 n n (drop place a) (omega arith))
    ∙ ap (big_number n) (piece_before from to a b h place n le)
    ∙ big_from-take 0 n n (drop place b) (omega arith)

pub byte_before : (from to : ℕ) (a b : List ℕ) → AlikeBut from to a b → (place : ℕ) → place < from → slice_index a place ≡ slice_index b place
byte_before from to a b h place lt =
    sym (get_or-take from a place 0 lt) ∙ ap (λ (l : List ℕ). slice_index l place) h.front ∙ get_or-take from b place 0 lt

-- ---- behind the padding

pub rest_behind : (from to : ℕ) (a b : List ℕ) → AlikeBut from to a b → (more : ℕ) → drop (to + more) a ≡ drop (to + more) b
rest_behind from to a b h more = sym (drop-drop more to a) ∙ ap (drop more) h.rest ∙ drop-drop more to b

pub number_behind : (from to : ℕ) (a b : List ℕ) → AlikeBut from to a b → (more n : ℕ) → number_at a (to + more) n ≡ number_at b (to + more) n
number_behind from to a b h more n = ap (big_number n) (rest_behind from to a b h more)

-- ---- the padding of a match

spelled_alike_priority : (a b : List ℕ) → AlikeBut 21 22 a b → spelled a ≡ spelled b
unfolding spelled
spelled_alike_priority a b h =
    rw (
      number_before 21 22 a b h 0 4 (omega arith),
      number_before 21 22 a b h 4 2 (omega arith),
      number_before 21 22 a b h 6 6 (omega arith),
      number_before 21 22 a b h 12 6 (omega arith),
      number_before 21 22 a b h 18 2 (omega arith),
      number_before 21 22 a b h 20 1 (omega arith),
      number_behind 21 22 a b h 0 2,
      number_behind 21 22 a b h 2 1,
      number_behind 21 22 a b h 3 1,
      number_behind 21 22 a b h 6 4,
      number_behind 21 22 a b h 10 4,
      number_behind 21 22 a b h 14 2,
      number_behind 21 22 a b h 16 2,
    ) refl

pub alike_priority : (a b : List ℕ) → AlikeBut 21 22 a b → Norm a ≡ Norm b
alike_priority a b h = ap applied (spelled_alike_priority a b h)

spelled_alike_protocol : (a b : List ℕ) → AlikeBut 26 28 a b → spelled a ≡ spelled b
unfolding spelled
spelled_alike_protocol a b h =
    rw (
      number_before 26 28 a b h 0 4 (omega arith),
      number_before 26 28 a b h 4 2 (omega arith),
      number_before 26 28 a b h 6 6 (omega arith),
      number_before 26 28 a b h 12 6 (omega arith),
      number_before 26 28 a b h 18 2 (omega arith),
      number_before 26 28 a b h 20 1 (omega arith),
      number_before 26 28 a b h 22 2 (omega arith),
      number_before 26 28 a b h 24 1 (omega arith),
      number_before 26 28 a b h 25 1 (omega arith),
      number_behind 26 28 a b h 0 4,
      number_behind 26 28 a b h 4 4,
      number_behind 26 28 a b h 8 2,
      number_behind 26 28 a b h 10 2,
    ) refl

pub alike_protocol : (a b : List ℕ) → AlikeBut 26 28 a b → Norm a ≡ Norm b
alike_protocol a b h = ap applied (spelled_alike_protocol a b h)
