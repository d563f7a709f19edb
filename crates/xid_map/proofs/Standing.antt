-- The collections stand for one call more.
use Rattle.std.proofs.Common.{◌≡◌, ◌≢◌, ℕ, ◌++◌, not, true, false, List, [], ◌∷◌, zero, suc, take, drop, map, get_or, refl, ap, sym, ◌∙◌, inl, inr, if◌then◌else◌}
use Rattle.std.specs.Prelude.{◌==◌, find, filter, slice_set, Some, None, option_map}
use Rattle.std.proofs.lemmas.Bool.{cases_Bool, both_ways, eq-eqb, ne_eqb, or_parts, or_left, or_right}
use Rattle.std.proofs.lemmas.Bool.Decides.{eqb_tells}
use Rattle.std.proofs.lemmas.List.{take-map}
use Rattle.xid_map.specs.Collections.{CollectionCall, Start, Add, Sum, Finish, EndAll, is_among, collecting, begins, Gathered, gathered, collection_of, Collected, CollectionsStand}
use Rattle.xid_map.proofs.Places.{StandsAt, Nowhere, find_here, find_nowhere}
use Rattle.xid_map.proofs.Gathering.{gathered-number, gathered-begin, gathered-start, gathered-finish, gathered-add_other, gathered-sum_other, gathered-add, gathered-sum, with_entry, with_sums}

-- ---- the requests that collect differ

abbrev Distinct : List ℕ → Type 0
Distinct [] = Unit {0}
Distinct (n ∷ ns) = (is_among n ns ≡ false) × Distinct ns

is_among-take : (count n : ℕ) (ns : List ℕ) → is_among n ns ≡ false → is_among n (take count ns) ≡ false
is_among-take zero n ns out = refl
is_among-take (suc count) n [] out = refl
is_among-take (suc count) n (m ∷ ms) out =
    let p = or_parts (m == n) (is_among n ms) out in rw (p.0, is_among-take count n ms p.1) refl

Distinct-take : (count : ℕ) (ns : List ℕ) → Distinct ns → Distinct (take count ns)
Distinct-take zero ns h = tt
Distinct-take (suc count) [] h = tt
Distinct-take (suc count) (m ∷ ms) h = (is_among-take count m ms h.0, Distinct-take count ms h.1)

is_among-filter : (number n : ℕ) (ns : List ℕ) → is_among n ns ≡ false → is_among n (filter (λ other. not (other == number)) ns) ≡ false
is_among-filter number n [] out = refl
is_among-filter number n (m ∷ ms) out =
    let p = or_parts (m == n) (is_among n ms) out in
    let rest = is_among-filter number n ms p.1 in
    elim (cases_Bool (m == number)) [ inl is ↦ rw is rest | inr isnt ↦ rw (isnt, p.0, rest) refl ]

Distinct-filter : (number : ℕ) (ns : List ℕ) → Distinct ns → Distinct (filter (λ other. not (other == number)) ns)
Distinct-filter number [] h = tt
Distinct-filter number (m ∷ ms) h =
    let rest = Distinct-filter number ms h.1 in
    elim (cases_Bool (m == number)) [ inl is ↦ rw is rest | inr isnt ↦ rw isnt (is_among-filter number m ms h.0, rest) ]

Distinct-collecting : (calls : List CollectionCall) → Distinct (collecting calls)
unfolding collecting
Distinct-collecting [] = tt
Distinct-collecting (Start number ∷ earlier) = elim (cases_Bool (is_among number (collecting earlier))) [
  | inl within ↦ rw within (Distinct-collecting earlier)
  | inr out ↦ rw out (Distinct-take 8 (number ∷ collecting earlier) (out, Distinct-collecting earlier))
]
Distinct-collecting (Add number entry ∷ earlier) = Distinct-collecting earlier
Distinct-collecting (Sum number packets bytes ∷ earlier) = Distinct-collecting earlier
Distinct-collecting (Finish number ∷ earlier) = Distinct-filter number (collecting earlier) (Distinct-collecting earlier)
Distinct-collecting (EndAll ∷ earlier) = tt

-- ---- collections of some requests

abbrev all_gathered : List CollectionCall → List ℕ → List Gathered
all_gathered calls ns = map (λ number. gathered number calls) ns

abbrev parts : List Collected → List Gathered
parts xs = map (λ c. c.gathered) xs

-- a request that collects is found with what it has collected
is_among-at : (number k : ℕ) (xs : List Collected) (calls : List CollectionCall) (ns : List ℕ) → parts xs ≡ all_gathered calls ns → StandsAt number k xs
    → is_among number ns ≡ true
is_among-at number k [] calls ns same at = absurd at
is_among-at number zero (x ∷ xs) calls [] same at = cc
is_among-at number zero (x ∷ xs) calls (m ∷ ms) same at =
    let this : x.gathered ≡ gathered m calls = cc in
    or_left _ _ (eq-eqb m number (sym (gathered-number m calls) ∙ ap (λ g. g.number) (sym this) ∙ at))
is_among-at number (suc k) (x ∷ xs) calls [] same at = cc
is_among-at number (suc k) (x ∷ xs) calls (m ∷ ms) same at = or_right _ _ (is_among-at number k xs calls ms (cc) at.1)

is_among-nowhere : (number : ℕ) (xs : List Collected) (calls : List CollectionCall) (ns : List ℕ) → parts xs ≡ all_gathered calls ns → Nowhere number xs
    → is_among number ns ≡ false
is_among-nowhere number [] calls [] same out = refl
is_among-nowhere number [] calls (m ∷ ms) same out = cc
is_among-nowhere number (x ∷ xs) calls [] same out = cc
is_among-nowhere number (x ∷ xs) calls (m ∷ ms) same out =
    let this : x.gathered ≡ gathered m calls = cc in
    let other : (m == number) ≡ false = ne_eqb m number (λ e. out.0 (ap (λ g. g.number) this ∙ gathered-number m calls ∙ e)) in
    rw (other, is_among-nowhere number xs calls ms (cc) out.1) refl

pub collects_nowhere : (number : ℕ) (xs : List Collected) (calls : List CollectionCall) → CollectionsStand calls xs → Nowhere number xs → is_among number (collecting calls) ≡ true → ⊥
collects_nowhere number xs calls s out within =
    both_ways (is_among number (collecting calls)) (is_among-nowhere number xs calls (collecting calls) s.same out) within

gathered-at : (number k : ℕ) (xs : List Collected) (z : Collected) (calls : List CollectionCall) (ns : List ℕ) → parts xs ≡ all_gathered calls ns
    → StandsAt number k xs → z ≡ get_or xs k z → z.gathered ≡ gathered number calls
gathered-at number k [] z calls ns same at is = absurd at
gathered-at number zero (x ∷ xs) z calls [] same at is = cc
gathered-at number zero (x ∷ xs) z calls (m ∷ ms) same at is =
    let this : x.gathered ≡ gathered m calls = cc in
    let own : m ≡ number = sym (gathered-number m calls) ∙ ap (λ g. g.number) (sym this) ∙ at in
    rw (is, this, own) refl
gathered-at number (suc k) (x ∷ xs) z calls [] same at is = cc
gathered-at number (suc k) (x ∷ xs) z calls (m ∷ ms) same at is = gathered-at number k xs z calls ms (cc) at.1 is

-- where a call changes one request alone, the others' collections stay
unchanged : (number : ℕ) (before after : List CollectionCall) (ns : List ℕ) → ((n : ℕ) → n ≢ number → gathered n after ≡ gathered n before)
    → is_among number ns ≡ false → all_gathered before ns ≡ all_gathered after ns
unchanged number before after [] others out = refl
unchanged number before after (m ∷ ms) others out =
    let p = or_parts (m == number) (is_among number ms) out in
    elim (eqb_tells m number) [
      | inl own ↦ cc
      | inr apart ↦ rw (others m apart.1, unchanged number before after ms others p.1) refl
    ]

-- and its own is the one that was changed
changed : (number k : ℕ) (xs : List Collected) (y : Collected) (before after : List CollectionCall) (ns : List ℕ)
    → ((n : ℕ) → n ≢ number → gathered n after ≡ gathered n before) → Distinct ns → parts xs ≡ all_gathered before ns → StandsAt number k xs
    → y.gathered ≡ gathered number after → parts (slice_set xs k y) ≡ all_gathered after ns
changed number k [] y before after ns others apart same at is = absurd at
changed number zero (x ∷ xs) y before after [] others apart same at is = cc
changed number zero (x ∷ xs) y before after (m ∷ ms) others apart same at is =
    let this : x.gathered ≡ gathered m before = cc in
    let rest : parts xs ≡ all_gathered before ms = cc in
    let own : m ≡ number = sym (gathered-number m before) ∙ ap (λ g. g.number) (sym this) ∙ at in
    let out : is_among number ms ≡ false = rw own at apart.0 in
    rw (is, own, rest, unchanged number before after ms others out) refl
changed number (suc k) (x ∷ xs) y before after [] others apart same at is = cc
changed number (suc k) (x ∷ xs) y before after (m ∷ ms) others apart same at is =
    let this : x.gathered ≡ gathered m before = cc in
    let other : m ≢ number = λ e. at.0 (ap (λ g. g.number) this ∙ gathered-number m before ∙ e) in
    rw (this, others m other, changed number k xs y before after ms others apart.1 (cc) at.1 is) refl

all_same : (before after : List CollectionCall) (ns : List ℕ) → ((n : ℕ) → gathered n after ≡ gathered n before) → all_gathered before ns ≡ all_gathered after ns
all_same before after [] each = refl
all_same before after (m ∷ ms) each = rw (each m, all_same before after ms each) refl

-- a request that doesn't collect is not left out
filter_without : (number : ℕ) (ns : List ℕ) → is_among number ns ≡ false → filter (λ other. not (other == number)) ns ≡ ns
filter_without number [] out = refl
filter_without number (m ∷ ms) out =
    let p = or_parts (m == number) (is_among number ms) out in rw (p.0, filter_without number ms p.1) refl

removed : (number k : ℕ) (xs : List Collected) (calls : List CollectionCall) (ns : List ℕ) → Distinct ns → parts xs ≡ all_gathered calls ns → StandsAt number k xs
    → parts (take k xs ++ drop (suc k) xs) ≡ all_gathered calls (filter (λ other. not (other == number)) ns)
removed number k [] calls ns apart same at = absurd at
removed number zero (x ∷ xs) calls [] apart same at = cc
removed number zero (x ∷ xs) calls (m ∷ ms) apart same at =
    let this : x.gathered ≡ gathered m calls = cc in
    let own : m ≡ number = sym (gathered-number m calls) ∙ ap (λ g. g.number) (sym this) ∙ at in
    let out : is_among number ms ≡ false = rw own at apart.0 in
    let is : (m == number) ≡ true = eq-eqb m number own in
    rw (is, filter_without number ms out) (cc)
removed number (suc k) (x ∷ xs) calls [] apart same at = cc
removed number (suc k) (x ∷ xs) calls (m ∷ ms) apart same at =
    let this : x.gathered ≡ gathered m calls = cc in
    let isnt : (m == number) ≡ false = ne_eqb m number (λ e. at.0 (ap (λ g. g.number) this ∙ gathered-number m calls ∙ e)) in
    rw (isnt, this, removed number k xs calls ms apart.1 (cc) at.1) refl

-- ---- look-ups

found_gathered : (number : ℕ) (xs : List Collected) (calls : List CollectionCall) (ns : List ℕ) → parts xs ≡ all_gathered calls ns
    → option_map (λ c. c.gathered) (find (λ c. c.gathered.number == number) xs) ≡ (if is_among number ns then Some (gathered number calls) else None)
unfolding gathered
found_gathered number [] calls [] same = refl
found_gathered number [] calls (m ∷ ms) same = cc
found_gathered number (x ∷ xs) calls [] same = cc
found_gathered number (x ∷ xs) calls (m ∷ ms) same =
    let this : x.gathered ≡ gathered m calls = cc in
    let test : x.gathered.number ≡ m = ap (λ g. g.number) this ∙ gathered-number m calls in
    elim (eqb_tells m number) [
      | inl own ↦ rw (test, own.0, this, own.1) refl
      | inr other ↦ rw (test, other.0) (found_gathered number xs calls ms (cc))
    ]

pub collection_of-find : (number : ℕ) (xs : List Collected) (calls : List CollectionCall) → CollectionsStand calls xs
    → option_map (λ c. c.gathered) (find (λ c. c.gathered.number == number) xs) ≡ collection_of number calls
unfolding collection_of
collection_of-find number xs calls s = found_gathered number xs calls (collecting calls) s.same

pub collection_of-at : (number k : ℕ) (xs : List Collected) (z : Collected) (calls : List CollectionCall) → CollectionsStand calls xs
    → StandsAt number k xs → z ≡ get_or xs k z → collection_of number calls ≡ Some z.gathered
collection_of-at number k xs z calls s at is = sym (collection_of-find number xs calls s) ∙ ap (option_map (λ c. c.gathered)) (find_here number k xs z at is)

pub collection_of-nowhere : (number : ℕ) (xs : List Collected) (calls : List CollectionCall) → CollectionsStand calls xs
    → Nowhere number xs → collection_of number calls ≡ None
collection_of-nowhere number xs calls s out = sym (collection_of-find number xs calls s) ∙ ap (option_map (λ c. c.gathered)) (find_nowhere number xs out)

-- ---- calls

-- calls that change one request alone: its collection is changed where it stands, and nothing where it doesn't
changed_there : (number k : ℕ) (xs : List Collected) (z y : Collected) (before after : List CollectionCall) → collecting after ≡ collecting before
    → ((n : ℕ) → n ≢ number → gathered n after ≡ gathered n before) → CollectionsStand before xs
    → StandsAt number k xs → z ≡ get_or xs k z → (z.gathered ≡ gathered number before → y.gathered ≡ gathered number after) → CollectionsStand after (slice_set xs k y)
changed_there number k xs z y before after alike others s at is new = record {
  same = rw alike (changed number k xs y before after (collecting before) others (Distinct-collecting before) s.same at
      (new (gathered-at number k xs z before (collecting before) s.same at is)));
}

changed_nowhere : (number : ℕ) (xs : List Collected) (before after : List CollectionCall) → collecting after ≡ collecting before
    → ((n : ℕ) → n ≢ number → gathered n after ≡ gathered n before) → CollectionsStand before xs → Nowhere number xs → CollectionsStand after xs
changed_nowhere number xs before after alike others s out = record {
  same = rw alike (s.same ∙ unchanged number before after (collecting before) others (is_among-nowhere number xs before (collecting before) s.same out));
}

-- memory for more changes nothing that is collected
pub CollectionsStand-reserve : (number k : ℕ) (xs : List Collected) (z y : Collected) (calls : List CollectionCall) → CollectionsStand calls xs
    → StandsAt number k xs → z ≡ get_or xs k z → y.gathered ≡ z.gathered → CollectionsStand calls (slice_set xs k y)
CollectionsStand-reserve number k xs z y calls s at is same =
    changed_there number k xs z y calls calls refl (λ n apart. refl) s at is (λ own. same ∙ own)

pub CollectionsStand-add : (number : ℕ) (entry : List ℕ) (k : ℕ) (xs : List Collected) (z y : Collected) (calls : List CollectionCall) → CollectionsStand calls xs
    → StandsAt number k xs → z ≡ get_or xs k z → y.gathered ≡ with_entry entry z.gathered → CollectionsStand (Add number entry ∷ calls) (slice_set xs k y)
unfolding collecting
CollectionsStand-add number entry k xs z y calls s at is new =
    changed_there number k xs z y calls (Add number entry ∷ calls) refl (λ n apart. gathered-add_other number n entry calls apart) s at is
    (λ own. new ∙ rw own (sym (gathered-add number entry calls)))

pub CollectionsStand-add_nowhere : (number : ℕ) (entry : List ℕ) (xs : List Collected) (calls : List CollectionCall) → CollectionsStand calls xs
    → Nowhere number xs → CollectionsStand (Add number entry ∷ calls) xs
unfolding collecting
CollectionsStand-add_nowhere number entry xs calls s out =
    changed_nowhere number xs calls (Add number entry ∷ calls) refl (λ n apart. gathered-add_other number n entry calls apart) s out

pub CollectionsStand-sum : (number packets bytes k : ℕ) (xs : List Collected) (z y : Collected) (calls : List CollectionCall) → CollectionsStand calls xs
    → StandsAt number k xs → z ≡ get_or xs k z → y.gathered ≡ with_sums packets bytes z.gathered
    → CollectionsStand (Sum number packets bytes ∷ calls) (slice_set xs k y)
unfolding collecting
CollectionsStand-sum number packets bytes k xs z y calls s at is new =
    changed_there number k xs z y calls (Sum number packets bytes ∷ calls) refl (λ n apart. gathered-sum_other number n packets bytes calls apart) s at is
    (λ own. new ∙ rw own (sym (gathered-sum number packets bytes calls)))

pub CollectionsStand-sum_nowhere : (number packets bytes : ℕ) (xs : List Collected) (calls : List CollectionCall) → CollectionsStand calls xs
    → Nowhere number xs → CollectionsStand (Sum number packets bytes ∷ calls) xs
unfolding collecting
CollectionsStand-sum_nowhere number packets bytes xs calls s out =
    changed_nowhere number xs calls (Sum number packets bytes ∷ calls) refl (λ n apart. gathered-sum_other number n packets bytes calls apart) s out

pub CollectionsStand-finish : (number k : ℕ) (xs : List Collected) (calls : List CollectionCall) → CollectionsStand calls xs
    → StandsAt number k xs → CollectionsStand (Finish number ∷ calls) (take k xs ++ drop (suc k) xs)
unfolding collecting
CollectionsStand-finish number k xs calls s at = record {
  same = removed number k xs calls (collecting calls) (Distinct-collecting calls) s.same at
      ∙ all_same calls (Finish number ∷ calls) _ (λ n. gathered-finish number n calls);
}

pub CollectionsStand-finish_nowhere : (number : ℕ) (xs : List Collected) (calls : List CollectionCall) → CollectionsStand calls xs
    → Nowhere number xs → CollectionsStand (Finish number ∷ calls) xs
unfolding collecting
CollectionsStand-finish_nowhere number xs calls s out = record {
  same = rw (filter_without number (collecting calls) (is_among-nowhere number xs calls (collecting calls) s.same out))
      (s.same ∙ all_same calls (Finish number ∷ calls) (collecting calls) (λ n. gathered-finish number n calls));
}

-- a request that collects is not begun again
pub begins_not : (number n : ℕ) (calls : List CollectionCall) → is_among number (collecting calls) ≡ true → begins n (Start number) calls ≡ false
begins_not number n calls within = elim (eqb_tells number n) [
  | inl own ↦ let there : is_among n (collecting calls) ≡ true = rw own.1 at within in rw (own.0, there) refl
  | inr other ↦ rw other.0 refl
]

pub CollectionsStand-start_again : (number k : ℕ) (xs : List Collected) (calls : List CollectionCall) → CollectionsStand calls xs
    → StandsAt number k xs → CollectionsStand (Start number ∷ calls) xs
unfolding collecting
CollectionsStand-start_again number k xs calls s at =
    let within : is_among number (collecting calls) ≡ true = is_among-at number k xs calls (collecting calls) s.same at in
    record {
      same = rw within (s.same ∙ all_same calls (Start number ∷ calls) (collecting calls) (λ n. gathered-start number n calls (begins_not number n calls within)));
    }

pub CollectionsStand-start : (number : ℕ) (xs : List Collected) (y : Collected) (calls : List CollectionCall) → CollectionsStand calls xs
    → Nowhere number xs → y.gathered ≡ record { number = number; entries = []; room = 524288; packets = 0; bytes = 0; flows = 0 }
    → CollectionsStand (Start number ∷ calls) (y ∷ take 7 xs)
unfolding collecting
CollectionsStand-start number xs y calls s out new =
    let free : is_among number (collecting calls) ≡ false = is_among-nowhere number xs calls (collecting calls) s.same out in
    let others : (n : ℕ) → n ≢ number → gathered n (Start number ∷ calls) ≡ gathered n calls =
    λ n apart. gathered-start number n calls (let differ : (number == n) ≡ false = ne_eqb number n (λ e. apart (sym e)) in rw differ refl) in
    let rest : parts (take 7 xs) ≡ all_gathered (Start number ∷ calls) (take 7 (collecting calls)) =
    sym (take-map (λ c. c.gathered) 7 xs) ∙ ap (λ gs. take 7 gs) s.same ∙ take-map (λ n. gathered n calls) 7 (collecting calls)
    ∙ unchanged number calls (Start number ∷ calls) (take 7 (collecting calls)) others (is_among-take 7 number (collecting calls) free) in
    record { same = rw (free, new, rest, gathered-begin number calls free) refl }
