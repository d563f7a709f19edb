-- What is collected for each request, call by call.
use Rattle.std.proofs.Common.{◌≡◌, ◌≢◌, ℕ, ◌+◌, ◌-◌, ◌%◌, ◌^◌, ◌<◌, ◌≤◌, false, List, [], ◌∷◌, ◌++◌, zero, suc, length, drop, refl, sym, inl, inr, arith, if◌then◌else◌, length-append}
use Rattle.std.specs.Prelude.{nat_le, sum_by}
use Rattle.std.proofs.lemmas.Bool.{cases_Bool, eq-eqb, ne_eqb, leb-true, leb-false, le-leb, lt-leb}
use Rattle.std.proofs.lemmas.List.{append-nil}
use Rattle.std.proofs.lemmas.List.Sums.{sum_by-cons}
use Rattle.xid_map.specs.Collections.{CollectionCall, Start, Add, Sum, Finish, is_among, collecting, begins, since, added, summed, joined_entries, kept_run, IsLongestRun, Gathered, gathered}

-- ---- one request

pub gathered-number : (number : ℕ) (calls : List CollectionCall) → (gathered number calls).number ≡ number
unfolding gathered
gathered-number number calls = refl

-- what a request has collected after the call with which it begins
pub gathered-begin : (number : ℕ) (calls : List CollectionCall) → is_among number (collecting calls) ≡ false
    → gathered number (Start number ∷ calls) ≡ record { number = number; entries = []; room = 524288; packets = 0; bytes = 0; flows = 0 }
unfolding gathered since added summed joined_entries kept_run
gathered-begin number calls out = rw (eq-eqb number number refl, out) refl

-- a call that begins no collection of the request comes to the others since it began
pub since-goes_on : (number : ℕ) (call : CollectionCall) (calls : List CollectionCall) → begins number call calls ≡ false
    → since number (call ∷ calls) ≡ call ∷ since number calls
unfolding since
since-goes_on number call calls on = rw on refl

-- a start of another request, or of one that collects, changes nothing
pub gathered-start : (other number : ℕ) (calls : List CollectionCall) → begins number (Start other) calls ≡ false
    → gathered number (Start other ∷ calls) ≡ gathered number calls
unfolding gathered added summed
gathered-start other number calls on = rw (since-goes_on number (Start other) calls on) refl

pub gathered-finish : (other number : ℕ) (calls : List CollectionCall) → gathered number (Finish other ∷ calls) ≡ gathered number calls
unfolding gathered added summed
gathered-finish other number calls = rw (since-goes_on number (Finish other) calls refl) refl

-- an entry for another request changes nothing
pub gathered-add_other : (other number : ℕ) (entry : List ℕ) (calls : List CollectionCall) → number ≢ other
    → gathered number (Add other entry ∷ calls) ≡ gathered number calls
unfolding gathered added summed
gathered-add_other other number entry calls apart =
    rw (since-goes_on number (Add other entry) calls refl, ne_eqb other number (λ e. apart (sym e))) refl

pub gathered-sum_other : (other number packets bytes : ℕ) (calls : List CollectionCall) → number ≢ other
    → gathered number (Sum other packets bytes ∷ calls) ≡ gathered number calls
unfolding gathered added summed
gathered-sum_other other number packets bytes calls apart =
    rw (since-goes_on number (Sum other packets bytes) calls refl, ne_eqb other number (λ e. apart (sym e))) refl

-- entries within the limit are all kept
kept_all : (entries : List (List ℕ)) → length (joined_entries entries) ≤ 524288 → kept_run entries ≡ joined_entries entries
unfolding kept_run joined_entries
kept_all [] within = refl
kept_all (entry ∷ earlier) within = rw (le-leb _ _ within) refl

empty : (entry : List ℕ) → length entry ≤ 0 → entry ≡ []
empty [] le = refl
empty (x ∷ xs) le = absurd (omega arith)

-- one more entry is kept where there is room for it
kept_more : (entry : List ℕ) (earlier : List (List ℕ)) → length entry ≤ 524288 - length (joined_entries earlier)
    → kept_run (entry ∷ earlier) ≡ kept_run earlier ++ entry
unfolding kept_run joined_entries
kept_more entry earlier fits = elim (cases_Bool (nat_le (length (joined_entries earlier)) 524288)) [
  | inl within ↦ let room = leb-true _ _ within in
      rw (le-leb (length (joined_entries earlier ++ entry)) 524288 (omega (arith, length-append (joined_entries earlier) entry)), kept_all earlier room) refl
  | inr past ↦ let full = leb-false _ _ past in
      let none : entry ≡ [] = empty entry (omega arith) in
      rw (lt-leb (length (joined_entries earlier ++ entry)) 524288 (omega (arith, length-append (joined_entries earlier) entry)), none)
      (sym (append-nil (kept_run earlier)))
]

-- where there is not, it is left out
kept_less : (entry : List ℕ) (earlier : List (List ℕ)) → 524288 - length (joined_entries earlier) < length entry
    → kept_run (entry ∷ earlier) ≡ kept_run earlier
unfolding kept_run joined_entries
kept_less entry earlier passes =
    rw (lt-leb (length (joined_entries earlier ++ entry)) 524288 (omega (arith, length-append (joined_entries earlier) entry))) refl

longer : (entry : List ℕ) (earlier : List (List ℕ)) (count : ℕ) → 524288 < length (joined_entries (entry ∷ earlier))
    → ((fewer : ℕ) → fewer < count → 524288 < length (joined_entries (drop fewer earlier)))
    → (fewer : ℕ) → fewer < suc count → 524288 < length (joined_entries (drop fewer (entry ∷ earlier)))
longer entry earlier count all rest zero lt = all
longer entry earlier count all rest (suc fewer) lt = rest fewer (omega arith)

-- what is kept is the longest run
pub IsLongestRun-kept : (entries : List (List ℕ)) → IsLongestRun entries (kept_run entries)
unfolding kept_run joined_entries
IsLongestRun-kept [] = record {
  left_out = 0;
  run = refl;
  within = omega arith;
  longest = λ fewer lt. absurd (omega arith);
}
IsLongestRun-kept (entry ∷ earlier) =
    let before = IsLongestRun-kept earlier in
    elim (cases_Bool (nat_le (length (joined_entries earlier ++ entry)) 524288)) [
      | inl fits ↦ rw fits (record {
        left_out = 0;
        run = refl;
        within = leb-true (length (joined_entries earlier ++ entry)) 524288 fits;
        longest = λ fewer lt. absurd (omega arith);
      })
      | inr passes ↦ rw passes (record {
        left_out = suc before.left_out;
        run = before.run;
        within = before.within;
        longest = longer entry earlier before.left_out (leb-false (length (joined_entries earlier ++ entry)) 524288 passes) before.longest;
      })
    ]

-- how much room an entry leaves
room_more : (entry : List ℕ) (earlier : List (List ℕ)) → length entry ≤ 524288 - length (joined_entries earlier)
    → 524288 - length (joined_entries (entry ∷ earlier)) ≡ 524288 - length (joined_entries earlier) - length entry
unfolding joined_entries
room_more entry earlier fits = omega (arith, length-append (joined_entries earlier) entry)

room_less : (entry : List ℕ) (earlier : List (List ℕ)) → 524288 - length (joined_entries earlier) < length entry
    → 524288 - length (joined_entries (entry ∷ earlier)) ≡ 0
unfolding joined_entries
room_less entry earlier passes = omega (arith, length-append (joined_entries earlier) entry)

-- what an entry makes of a collection: it is appended where there is room, and else no more is kept
abbrev pub with_entry : List ℕ → Gathered → Gathered
with_entry entry g =
    if nat_le (length entry) g.room then record g { entries = g.entries ++ entry; room = g.room - length entry } else record g { room = 0 }

pub with_entry-number : (entry : List ℕ) (g h : Gathered) → h ≡ with_entry entry g → h.number ≡ g.number
with_entry-number entry g h is = elim (cases_Bool (nat_le (length entry) g.room)) [
  | inl fits ↦ rw (is, fits) refl
  | inr passes ↦ rw (is, passes) refl
]

pub gathered-add : (number : ℕ) (entry : List ℕ) (calls : List CollectionCall)
    → gathered number (Add number entry ∷ calls) ≡ with_entry entry (gathered number calls)
unfolding gathered added summed
gathered-add number entry calls =
    let own : List CollectionCall = since number calls in
    elim (cases_Bool (nat_le (length entry) (524288 - length (joined_entries (added number own))))) [
      | inl fits ↦ let le = leb-true _ _ fits in
          rw (since-goes_on number (Add number entry) calls refl, eq-eqb number number refl, fits, kept_more entry (added number own) le, room_more entry (added number own) le) refl
      | inr passes ↦ let lt = leb-false _ _ passes in
          rw (since-goes_on number (Add number entry) calls refl, eq-eqb number number refl, passes, kept_less entry (added number own) lt, room_less entry (added number own) lt) refl
    ]

-- sums go on modulo powers of two
add_bytes : (s p : ℕ) → (p + s) % 2 ^ 64 ≡ (s % 2 ^ 64 + p) % 2 ^ 64
add_bytes s p = omega arith

add_flow : (n : ℕ) → suc n % 2 ^ 32 ≡ (n % 2 ^ 32 + 1) % 2 ^ 32
add_flow n = omega arith

-- what one flow makes of a collection: its packets and bytes are summed
abbrev pub with_sums : (packets bytes : ℕ) → Gathered → Gathered
with_sums packets bytes g = record g { packets = (g.packets + packets) % 2 ^ 64; bytes = (g.bytes + bytes) % 2 ^ 64; flows = (g.flows + 1) % 2 ^ 32 }

pub gathered-sum : (number packets bytes : ℕ) (calls : List CollectionCall)
    → gathered number (Sum number packets bytes ∷ calls) ≡ with_sums packets bytes (gathered number calls)
unfolding gathered added summed
gathered-sum number packets bytes calls =
    let counts : List (ℕ × ℕ) = summed number (since number calls) in
    rw (
      since-goes_on number (Sum number packets bytes) calls refl,
      eq-eqb number number refl,
      sum_by-cons (λ (count : ℕ × ℕ). count.0) (packets, bytes) counts,
      sum_by-cons (λ (count : ℕ × ℕ). count.1) (packets, bytes) counts,
      add_bytes (sum_by (λ (count : ℕ × ℕ). count.0) counts) packets,
      add_bytes (sum_by (λ (count : ℕ × ℕ). count.1) counts) bytes,
      add_flow (length counts),
    ) refl
