-- A book has each pair at most once.
use Rattle.std.proofs.Common.{ℕ, ◌≡◌, ◌<◌, ◌==◌, ◌&&◌, not, List, [], ◌∷◌, ◌++◌, zero, suc, length, get_or, map, Bool, refl, sym, ◌∙◌, arith, false, inl, inr}
use Rattle.std.specs.Prelude.{filter, find, All, AllPairs}
use Rattle.std.specs.List.{list_any}
use Rattle.std.proofs.lemmas.Bool.{cases_Bool, both_ways, or_parts}
use Rattle.std.proofs.lemmas.List.{get_or-map, length-map}
use Rattle.std.proofs.lemmas.List.Elements.{All-head, All-tail, All-cons, All-nil, All-map, All-filter, All-append}
use Rattle.std.proofs.lemmas.List.Kept.{AllPairs-cons, AllPairs-filter}
use Rattle.of10_model.specs.declared.pattern.Pattern.{Pattern}
use Rattle.of10_model.specs.Normal.{IsNormal}
use Rattle.flow_book.specs.declared.booked.Booked.{Booked}
use Rattle.flow_book.specs.Books.{BookCall, Added, Removed, Failed, is_pair, is_booked, is_newcomer, first_booked, booked_again, is_first, without, book}
use Rattle.flow_book.specs.Adding.{AreNew}
use Rattle.flow_book.specs.Pairs.{ArePieces, HasPieces, IsSamePair}
use Rattle.flow_book.proofs.SamePairs.{pair_from}
use Rattle.flow_book.proofs.Steps.{fresh_of}
use Rattle.flow_book.proofs.Standing.{fresh_new}

-- no pair is another
abbrev pub Apart : List Booked → Type 0
Apart xs = AllPairs (λ a b. IsSamePair a b → ⊥) xs

not_same : (a b : Booked) → is_pair a.pattern a.priority b ≡ false → IsSamePair a b → ⊥
not_same a b other same = both_ways (is_pair a.pattern a.priority b) other (pair_from a.pattern a.priority b (sym same.1) (sym same.0))

-- a pair that is booked nowhere is another than each
unbooked_apart : (x : Booked) (ys : List Booked) → is_booked x.pattern x.priority ys ≡ false → All (λ y. IsSamePair x y → ⊥) ys
unbooked_apart x [] out = All-nil (λ y. IsSamePair x y → ⊥)
unbooked_apart x (y ∷ ys) out =
    let p = or_parts (is_pair x.pattern x.priority y) (is_booked x.pattern x.priority ys) out in
    All-cons (λ y. IsSamePair x y → ⊥) y ys (not_same x y p.0) (unbooked_apart x ys p.1)

-- new pairs come to pairs that are apart
pub new_apart : (fresh booked : List Booked) → AreNew fresh booked → Apart booked → Apart (fresh ++ booked)
new_apart [] booked new apart = apart
new_apart (x ∷ xs) booked new apart =
    let rest : AreNew xs booked = record {
      apart = λ i j d lt within. new.apart (suc i) (suc j) d (omega arith) (omega arith);
      absent = All-tail (λ b. is_booked b.pattern b.priority booked ≡ false) x xs new.absent;
    } in
    AllPairs-cons (λ a b. IsSamePair a b → ⊥) x (xs ++ booked)
    (All-append (λ y. IsSamePair x y → ⊥) xs booked
    (λ k d lt. not_same x (get_or xs k d) (new.apart zero (suc k) d (omega arith) (omega arith)))
    (unbooked_apart x booked (All-head (λ b. is_booked b.pattern b.priority booked ≡ false) x xs new.absent)))
    (new_apart xs booked rest apart)

-- a flow-mod leaves each booked pair its match and priority
again_keeps : (command : ℕ) (ms : List Pattern) (p : ℕ) (asked : Bool) (b : Booked)
    → ((booked_again command ms p asked b).pattern ≡ b.pattern) × ((booked_again command ms p asked b).priority ≡ b.priority)
again_keeps command ms p asked b = elim (cases_Bool (command == 0 && list_any (λ piece. is_pair piece p b) ms)) [
  | inl again ↦ rw again (refl, refl)
  | inr not_again ↦ rw not_again (refl, refl)
]

again_apart : (command : ℕ) (ms : List Pattern) (p : ℕ) (asked : Bool) (xs : List Booked) → Apart xs → Apart (map (booked_again command ms p asked) xs)
again_apart command ms p asked xs apart i j d lt within =
    let f = booked_again command ms p asked in
    let within' : j < length xs = rw (length-map xs f) at within in
    let ki = again_keeps command ms p asked (get_or xs i d) in
    let kj = again_keeps command ms p asked (get_or xs j d) in
    rw (get_or-map f xs i d d (omega arith), get_or-map f xs j d d within')
    (λ same. apart i j d lt within' (sym ki.0 ∙ same.0 ∙ kj.0, sym ki.1 ∙ same.1 ∙ kj.1))

fresh_normal : (command : ℕ) (ms : List Pattern) (p : ℕ) (asked : Bool) (number : ℕ) (xs : List Booked) → All IsNormal ms → All (λ b. IsNormal b.pattern) (fresh_of command ms p asked number xs)
fresh_normal command ms p asked number xs normal =
    All-map (λ b. IsNormal b.pattern) (first_booked p asked number) (filter (is_newcomer command p xs) ms) (All-filter (is_newcomer command p xs) IsNormal ms normal)

without_apart : (m : Pattern) (p : ℕ) (xs : List Booked) → Apart xs → Apart (without m p xs)
without_apart m p xs apart = AllPairs-filter (λ a b. IsSamePair a b → ⊥) (λ b. not (is_pair m p b)) xs apart

pub once : (calls : List BookCall) → All HasPieces calls → Apart (book calls)
unfolding book
once [] pieces = λ i j d lt within. absurd (omega (arith, within))
once (Added command ms p asked number ∷ earlier) pieces =
    let here : ArePieces ms = All-head HasPieces (Added command ms p asked number) earlier pieces in
    let before = once earlier (All-tail HasPieces (Added command ms p asked number) earlier pieces) in
    new_apart (fresh_of command ms p asked number (book earlier)) (map (booked_again command ms p asked) (book earlier))
    (fresh_new command ms p asked number (book earlier) here.distinct (fresh_normal command ms p asked number (book earlier) here.normal))
    (again_apart command ms p asked (book earlier) before)
once (Removed m p ∷ earlier) pieces = without_apart m p (book earlier) (once earlier (All-tail HasPieces (Removed m p) earlier pieces))
once (Failed number m p ∷ earlier) pieces =
    let before = once earlier (All-tail HasPieces (Failed number m p) earlier pieces) in
    elim (cases_Bool (is_first number (find (is_pair m p) (book earlier)))) [
      | inl first ↦ rw first (without_apart m p (book earlier) before)
      | inr not_first ↦ rw not_first before
    ]
