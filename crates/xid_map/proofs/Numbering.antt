-- Requests stand under consecutive numbers, so one is found by its number alone.
use Rattle.std.proofs.Common.{◌≡◌, ◌≢◌, ℕ, ◌+◌, ◌-◌, ◌/◌, ◌%◌, ◌<◌, ◌≤◌, true, false, List, [], ◌∷◌, zero, suc, length, get_or, take, map, refl, ap, sym, ◌∙◌, inl, inr, arith, if◌then◌else◌}
use Rattle.std.specs.Prelude.{◌==◌, find, AllPairs, nat_lt, slice_get, slice_set, Some, None}
use Rattle.std.proofs.lemmas.Bool.{cases_Bool, eq-eqb, ne_eqb, ltb-true, ltb-false}
use Rattle.std.proofs.lemmas.List.{length-take, take-map}
use Rattle.std.proofs.lemmas.Bool.Decides.{eqb_tells}
use Rattle.xid_map.specs.declared.asked.Asked.{Asked}
use Rattle.xid_map.specs.declared.asked.Issued.{Issued}
use Rattle.xid_map.specs.Requests.{RequestCall, Issue, MarkError, MarkDone, Forget, issued, with_mark, with_error, with_reply, requests, remembered, physical_of, found, Requests, RequestsStand}

-- of these requests the newest has the number before `next`, and each other the number before
abbrev pub Numbered : ℕ → List Issued → Type 0
Numbered next [] = Unit {0}
Numbered next (request ∷ earlier) = (request.number + 1 ≡ next) × Numbered request.number earlier

Numbered-take : (n next : ℕ) (xs : List Issued) → Numbered next xs → Numbered next (take n xs)
Numbered-take zero next xs h = tt
Numbered-take (suc n) next [] h = tt
Numbered-take (suc n) next (x ∷ xs) h = (h.0, Numbered-take n x.number xs h.1)

-- a mark on a request leaves its number
abbrev KeepsNumber : (Issued → Issued) → Type 0
KeepsNumber mark = (x : Issued) → (mark x).number ≡ x.number

marked_number : (mark : Issued → Issued) → KeepsNumber mark → (number : ℕ) (x : Issued) → (with_mark mark number x).number ≡ x.number
marked_number mark keeps number x =
    elim (x.number == number) as (λ b. (if b then mark x else x).number ≡ x.number) [ true ↦ keeps x | false ↦ refl ]

Numbered-marked : (mark : Issued → Issued) → KeepsNumber mark → (number next : ℕ) (xs : List Issued) → Numbered next xs → Numbered next (map (with_mark mark number) xs)
Numbered-marked mark keeps number next [] h = tt
Numbered-marked mark keeps number next (x ∷ xs) h =
    let same = marked_number mark keeps number x in
    (rw same h.0, rw same (Numbered-marked mark keeps number x.number xs h.1))

Numbered-requests : (calls : List RequestCall) → Numbered (issued calls) (requests calls)
unfolding requests
Numbered-requests [] = tt
Numbered-requests (Issue asked ∷ earlier) = (refl, Numbered-requests earlier)
Numbered-requests (MarkError number ∷ earlier) = Numbered-marked with_error (λ x. refl) number _ _ (Numbered-requests earlier)
Numbered-requests (MarkDone number ∷ earlier) = Numbered-marked with_reply (λ x. refl) number _ _ (Numbered-requests earlier)
Numbered-requests (Forget ∷ earlier) = tt

Numbered-remembered : (calls : List RequestCall) → Numbered (issued calls) (remembered calls)
unfolding remembered
Numbered-remembered calls = Numbered-take 4096 (issued calls) (requests calls) (Numbered-requests calls)

-- a mark on a request that is not there changes none
unmarked : (mark : Issued → Issued) (number next : ℕ) (xs : List Issued) → Numbered next xs → next ≤ number → map (with_mark mark number) xs ≡ xs
unmarked mark number next [] h past = refl
unmarked mark number next (x ∷ xs) h past =
    let other : (x.number == number) ≡ false = ne_eqb x.number number (λ e. omega (arith, h.0)) in
    rw other (ap (λ rest. x ∷ rest) (unmarked mark number x.number xs h.1 (omega (arith, h.0))))

-- the request of a number stands behind the newer ones
pub marked_here : (mark : Issued → Issued) (number next k : ℕ) (xs : List Issued) (y : Issued) → Numbered next xs → number + suc k ≡ next
    → slice_get xs k ≡ Some y → map (with_mark mark number) xs ≡ slice_set xs k (mark y)
marked_here mark number next k [] y h place at = cc
marked_here mark number next zero (x ∷ xs) y h place at =
    let this : (x.number == number) ≡ true = eq-eqb x.number number (omega (arith, h.0)) in
    let same : x ≡ y = cc in
    let rest : map (with_mark mark number) xs ≡ xs = unmarked mark number x.number xs h.1 (omega (arith, h.0)) in
    rw (this, rest, same) refl
marked_here mark number next (suc k) (x ∷ xs) y h place at =
    let other : (x.number == number) ≡ false = ne_eqb x.number number (λ e. omega (arith, h.0)) in
    rw other (ap (λ rest. x ∷ rest) (marked_here mark number x.number k xs y h.1 (omega (arith, h.0)) at))

-- where nothing stands there, no request has the number
pub marked_nowhere : (mark : Issued → Issued) (number next k : ℕ) (xs : List Issued) → Numbered next xs → number + suc k ≡ next
    → slice_get xs k ≡ None → map (with_mark mark number) xs ≡ xs
marked_nowhere mark number next k [] h place at = refl
marked_nowhere mark number next zero (x ∷ xs) h place at = cc
marked_nowhere mark number next (suc k) (x ∷ xs) h place at =
    let other : (x.number == number) ≡ false = ne_eqb x.number number (λ e. omega (arith, h.0)) in
    rw other (ap (λ rest. x ∷ rest) (marked_nowhere mark number x.number k xs h.1 (omega (arith, h.0)) at))

-- how many requests are newer than the newest whose number has these low 24 bits
abbrev pub behind : ℕ → ℕ → ℕ
behind next low = (next % 16777216 + 16777215 - low) % 16777216

behind_here : (n low : ℕ) → n % 16777216 ≡ low → behind (n + 1) low ≡ 0
behind_here n low e = omega arith

behind_more : (n low : ℕ) → low < 16777216 → n % 16777216 ≢ low → behind (n + 1) low ≡ suc (behind n low)
behind_more n low fits e = omega arith

-- the first request with these low bits stands behind the newer ones
pub find_low : (low next : ℕ) (xs : List Issued) → low < 16777216 → Numbered next xs
    → find (λ request. request.number % 16777216 == low) xs ≡ slice_get xs (behind next low)
find_low low next [] fits h = refl
find_low low next (x ∷ xs) fits h = elim (eqb_tells (x.number % 16777216) low) [
  | inl this ↦ let e : behind next low ≡ 0 = rw (← h.0) (behind_here x.number low this.1) in rw (e, this.0) refl
  | inr other ↦ let e : behind next low ≡ suc (behind x.number low) = rw (← h.0) (behind_more x.number low fits other.1) in
      rw (e, other.0) (find_low low x.number xs fits h.1)
]

-- the same by the whole transaction id, whose top byte is the slot
find_physical : (slot physical : ℕ) (xs : List Issued) → physical / 16777216 ≡ slot
    → find (λ request. physical_of slot request.number == physical) xs ≡ find (λ request. request.number % 16777216 == physical % 16777216) xs
find_physical slot physical [] e = refl
find_physical slot physical (x ∷ xs) e = elim (eqb_tells (x.number % 16777216) (physical % 16777216)) [
  | inl this ↦ let whole : (physical_of slot x.number == physical) ≡ true = eq-eqb _ _ (omega (arith, this.1)) in
      rw (this.0, whole) refl
  | inr other ↦ let whole : (physical_of slot x.number == physical) ≡ false = ne_eqb _ _ (λ same. other.1 (omega arith)) in
      rw (other.0, whole) (find_physical slot physical xs e)
]

-- with another top byte none is found
find_elsewhere : (slot physical : ℕ) (xs : List Issued) → physical / 16777216 ≢ slot
    → find (λ request. physical_of slot request.number == physical) xs ≡ None
find_elsewhere slot physical [] e = refl
find_elsewhere slot physical (x ∷ xs) e =
    let other : (physical_of slot x.number == physical) ≡ false = ne_eqb _ _ (λ same. e (omega arith)) in
    rw other (find_elsewhere slot physical xs e)

take_shorter : (n : ℕ) (xs : List Issued) → take n (take (suc n) xs) ≡ take n xs
take_shorter zero xs = refl
take_shorter (suc n) [] = refl
take_shorter (suc n) (x ∷ xs) = ap (λ rest. x ∷ rest) (take_shorter n xs)

-- what is pushed in front of the last of a list stands before the last of it
take_pushed : (n : ℕ) (x : Issued) (xs : List Issued) → take n (x ∷ take n xs) ≡ take n (x ∷ xs)
take_pushed zero x xs = refl
take_pushed (suc n) x xs = ap (λ rest. x ∷ rest) (take_shorter n xs)

-- a request more
pub RequestsStand-issue : (m : Requests) (slot : ℕ) (calls : List RequestCall) (asked : Asked) (number capacity : ℕ) (pushed : List Issued) → RequestsStand slot calls m
    → number ≡ m.issued → capacity ≡ 4096
    → pushed ≡ take capacity (record { number = number; asked = asked; failed = false; done = false } ∷ m.remembered)
    → RequestsStand slot (Issue asked ∷ calls) (record { slot = m.slot; issued = m.issued + 1; remembered = pushed })
unfolding requests remembered
RequestsStand-issue m slot calls asked number capacity pushed s next full is = record {
  same_slot = s.same_slot;
  same_issued = rw s.same_issued refl;
  same_remembered = rw (is, full, next, s.same_issued, s.same_remembered) (take_pushed 4096 _ (requests calls));
}

-- where a request stands by its number
place_of : (place number issued : ℕ) → Some place ≡ (if nat_lt number issued then Some (issued - 1 - number) else None) → number + suc place ≡ issued
place_of place number issued e = elim (cases_Bool (nat_lt number issued)) [
  | inl within ↦ let lt = ltb-true number issued within in
      let at : Some place ≡ Some (issued - 1 - number) = rw within at e in
      let same : place ≡ issued - 1 - number = cc in omega arith
  | inr past ↦ let none : Some place ≡ None = rw past at e in cc
]

no_place : (number issued : ℕ) → None ≡ (if nat_lt number issued then Some (issued - 1 - number) else None) → issued ≤ number
no_place number issued e = elim (cases_Bool (nat_lt number issued)) [
  | inl within ↦ let some : None ≡ Some (issued - 1 - number) = rw within at e in cc
  | inr past ↦ ltb-false number issued past
]

-- the call sets the mark on the request of the number
abbrev pub Sets : RequestCall → (Issued → Issued) → ℕ → List RequestCall → Type 0
Sets call mark number calls = (issued (call ∷ calls) ≡ issued calls) × (requests (call ∷ calls) ≡ map (with_mark mark number) (requests calls))

stands_marked : (m : Requests) (slot : ℕ) (calls : List RequestCall) (call : RequestCall) (mark : Issued → Issued) (number : ℕ) (kept : List Issued) → Sets call mark number calls
    → RequestsStand slot calls m → map (with_mark mark number) m.remembered ≡ kept → RequestsStand slot (call ∷ calls) (record m { remembered = kept })
unfolding remembered
stands_marked m slot calls call mark number kept sets s is = record {
  same_slot = s.same_slot;
  same_issued = s.same_issued ∙ sym sets.0;
  same_remembered = sym is ∙ rw (s.same_remembered, sets.1) (sym (take-map (with_mark mark number) 4096 (requests calls)));
}

Numbered-stands : (m : Requests) (slot : ℕ) (calls : List RequestCall) → RequestsStand slot calls m → Numbered m.issued m.remembered
Numbered-stands m slot calls s = rw (s.same_issued, s.same_remembered) (Numbered-remembered calls)

-- a mark, in the three cases of the code
pub mark_set : (m : Requests) (slot : ℕ) (calls : List RequestCall) (call : RequestCall) (mark : Issued → Issued) (number place : ℕ) (y : Issued) → Sets call mark number calls
    → RequestsStand slot calls m → Some place ≡ (if nat_lt number m.issued then Some (m.issued - 1 - number) else None) → Some y ≡ slice_get m.remembered place
    → RequestsStand slot (call ∷ calls) (record m { remembered = slice_set m.remembered place (mark y) })
mark_set m slot calls call mark number place y sets s at found =
    stands_marked m slot calls call mark number _ sets s
    (marked_here mark number m.issued place m.remembered y (Numbered-stands m slot calls s) (place_of place number m.issued at) (sym found))

pub mark_missing : (m : Requests) (slot : ℕ) (calls : List RequestCall) (call : RequestCall) (mark : Issued → Issued) (number place : ℕ) → Sets call mark number calls
    → RequestsStand slot calls m → Some place ≡ (if nat_lt number m.issued then Some (m.issued - 1 - number) else None) → None ≡ slice_get m.remembered place
    → RequestsStand slot (call ∷ calls) m
mark_missing m slot calls call mark number place sets s at found =
    stands_marked m slot calls call mark number _ sets s
    (marked_nowhere mark number m.issued place m.remembered (Numbered-stands m slot calls s) (place_of place number m.issued at) (sym found))

pub mark_later : (m : Requests) (slot : ℕ) (calls : List RequestCall) (call : RequestCall) (mark : Issued → Issued) (number : ℕ) → Sets call mark number calls
    → RequestsStand slot calls m → None ≡ (if nat_lt number m.issued then Some (m.issued - 1 - number) else None)
    → RequestsStand slot (call ∷ calls) m
mark_later m slot calls call mark number sets s at =
    stands_marked m slot calls call mark number _ sets s (unmarked mark number m.issued m.remembered (Numbered-stands m slot calls s) (no_place number m.issued at))

-- what is found by a transaction id
pub found-get : (slot physical : ℕ) (calls : List RequestCall) → physical / 16777216 ≡ slot
    → found slot physical calls ≡ slice_get (remembered calls) (behind (issued calls) (physical % 16777216))
unfolding found
found-get slot physical calls here =
    find_physical slot physical (remembered calls) here
    ∙ find_low (physical % 16777216) (issued calls) (remembered calls) (omega arith) (Numbered-remembered calls)

pub found-elsewhere : (slot physical : ℕ) (calls : List RequestCall) → physical / 16777216 ≢ slot → found slot physical calls ≡ None
unfolding found
found-elsewhere slot physical calls elsewhere = find_elsewhere slot physical (remembered calls) elsewhere

pub RequestsStand-found : (m : Requests) (slot : ℕ) (calls : List RequestCall) (physical : ℕ) → RequestsStand slot calls m → physical / 16777216 ≡ m.slot
    → slice_get m.remembered (behind m.issued (physical % 16777216)) ≡ found slot physical calls
RequestsStand-found m slot calls physical s here =
    rw (s.same_issued, s.same_remembered) (sym (found-get slot physical calls (here ∙ s.same_slot)))

pub RequestsStand-elsewhere : (m : Requests) (slot : ℕ) (calls : List RequestCall) (physical : ℕ) → RequestsStand slot calls m → (physical / 16777216 ≡ m.slot → ⊥)
    → None ≡ found slot physical calls
RequestsStand-elsewhere m slot calls physical s elsewhere =
    sym (found-elsewhere slot physical calls (λ e. elsewhere (e ∙ sym s.same_slot)))

-- the k-th newest request has the k-th number before `next`
number_before : (next k : ℕ) (xs : List Issued) (d : Issued) → Numbered next xs → k < length xs → (get_or xs k d).number + suc k ≡ next
number_before next k [] d h within = absurd (omega arith)
number_before next zero (x ∷ xs) d h within = omega (arith, h.0)
number_before next (suc k) (x ∷ xs) d h within = omega (arith, h.0, number_before x.number k xs d h.1 (omega arith))

-- so no two of the remembered have one transaction id
pub remembered-differ : (slot : ℕ) (calls : List RequestCall)
    → AllPairs (λ one other. physical_of slot one.number ≢ physical_of slot other.number) (remembered calls)
unfolding remembered
remembered-differ slot calls i j d before within same =
    let few : length (remembered calls) ≤ 4096 = omega (arith, length-take 4096 (requests calls)) in
    let one = number_before (issued calls) i (remembered calls) d (Numbered-remembered calls) (omega arith) in
    let other = number_before (issued calls) j (remembered calls) d (Numbered-remembered calls) within in
    omega arith
