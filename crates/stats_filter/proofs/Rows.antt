-- Entries that stand one behind another, and how they are found again.
use Rattle.std.proofs.Common.{◌≡◌, ℕ, zero, suc, ◌*◌, take-append-drop, ◌<◌, ◌≤◌, List, [], ◌∷◌, ◌++◌, length, take, drop, Option, Some, None, refl, sym, ap, subst, ◌∙◌, arith, inl, inr}
use Rattle.std.specs.Prelude.{All}
use Rattle.std.specs.List.{concat}
use Rattle.std.proofs.lemmas.Bool.{cases_lt}
use Rattle.std.proofs.lemmas.List.{length-take-le, length-drop, length-append, append_assoc, append-nil}
use Rattle.std.proofs.lemmas.List.Elements.{All-nil, All-cons, All-head, All-tail}
use Rattle.std.proofs.Math.Seq.{take-length, take-append_seam, drop-append_seam}
use Rattle.of10_stats.specs.Replies.{IsEntry, entry_size_of}
use Rattle.of10_stats.proofs.Sizes.{entry_there, there_entry, none_shorter}
use Rattle.stats_filter.specs.Keeping.{entries_at, entries_in}
use Rattle.stats_filter.specs.Laws.{AreInFront}

-- ---- one entry

-- no entry is shorter than 24 bytes
pub entry_long : (kind : ℕ) (entry : List ℕ) → IsEntry kind entry → 24 ≤ length entry
entry_long kind entry is =
    elim (cases_lt (length entry) 24) [
      | inl short ↦
          let there : entry_size_of kind entry ≡ Some (length entry) = there_entry kind (length entry) entry (omega arith) (subst (IsEntry kind) (sym (take-length entry)) is) in
          let none : entry_size_of kind entry ≡ None = none_shorter kind entry short in
          absurd (cc)
      | inr long ↦ long
    ]

-- what begins the bytes is there whole, and isn't short
pub entry_begins : (kind size : ℕ) (bytes : List ℕ) → entry_size_of kind bytes ≡ Some size → (24 ≤ size) × (size ≤ length bytes)
entry_begins kind size bytes e =
    let there = entry_there kind size bytes e in
    let long = entry_long kind (take size bytes) there.1 in
    let whole = length-take-le size bytes there.0 in
    (omega arith, there.0)

-- an entry in front of other bytes begins them
pub entry_in_front : (kind : ℕ) (entry rest : List ℕ) → IsEntry kind entry → entry_size_of kind (entry ++ rest) ≡ Some (length entry)
entry_in_front kind entry rest is =
    there_entry kind (length entry) (entry ++ rest) (omega (arith, length-append entry rest)) (subst (IsEntry kind) (sym (take-append_seam entry rest)) is)

-- ---- entry by entry

none_at : (n kind : ℕ) (bytes : List ℕ) → entry_size_of kind bytes ≡ None → entries_at n kind bytes ≡ []
unfolding entries_at
none_at zero kind bytes e = refl
none_at (suc n) kind bytes e = rw (e, entries_at) refl

some_at : (n kind size : ℕ) (bytes : List ℕ) → entry_size_of kind bytes ≡ Some size → entries_at (suc n) kind bytes ≡ take size bytes ∷ entries_at n kind (drop size bytes)
unfolding entries_at
some_at n kind size bytes e = rw (e, entries_at) refl

-- what the count is doesn't matter, where it is one for each byte at least
same_count : (n m kind : ℕ) (bytes : List ℕ) → length bytes ≤ n → length bytes ≤ m → entries_at n kind bytes ≡ entries_at m kind bytes
same_count zero m kind bytes le_n le_m =
    let none = none_shorter kind bytes (omega arith) in
    none_at zero kind bytes none ∙ sym (none_at m kind bytes none)
same_count (suc n) zero kind bytes le_n le_m =
    let none = none_shorter kind bytes (omega arith) in
    none_at (suc n) kind bytes none ∙ sym (none_at zero kind bytes none)
same_count (suc n) (suc m) kind bytes le_n le_m = by_size (λ rest less. same_count n m kind rest (omega arith) (omega arith)) (entry_size_of kind bytes) refl
  where
    by_size : ((rest : List ℕ) → length rest < length bytes → entries_at n kind rest ≡ entries_at m kind rest) → (o : Option ℕ) → entry_size_of kind bytes ≡ o → entries_at (suc n) kind bytes ≡ entries_at (suc m) kind bytes
    by_size shorter None e = none_at (suc n) kind bytes e ∙ sym (none_at (suc m) kind bytes e)
    by_size shorter (Some size) e =
        let begins = entry_begins kind size bytes e in
        let left = length-drop size bytes in
        some_at n kind size bytes e ∙ ap (λ later. take size bytes ∷ later) (shorter (drop size bytes) (omega arith)) ∙ sym (some_at m kind size bytes e)

-- where no entry begins the bytes there are none
pub no_entries : (kind : ℕ) (bytes : List ℕ) → entry_size_of kind bytes ≡ None → entries_in kind bytes ≡ []
unfolding entries_in
no_entries kind bytes e = none_at (length bytes) kind bytes e

-- the entry that begins the bytes is the first, and the others are those of the bytes behind it
pub first_entry : (kind size : ℕ) (bytes : List ℕ) → entry_size_of kind bytes ≡ Some size → entries_in kind bytes ≡ take size bytes ∷ entries_in kind (drop size bytes)
unfolding entries_in
first_entry kind size bytes e =
    let left = length-drop size bytes in
    same_count (length bytes) (suc (length bytes)) kind bytes (omega arith) (omega arith)
    ∙ some_at (length bytes) kind size bytes e
    ∙ ap (λ later. take size bytes ∷ later) (same_count (length bytes) (length (drop size bytes)) kind (drop size bytes) (omega arith) (omega arith))

-- ---- rows

-- entries in front of other bytes are found, and then those of the other bytes
pub entries_in-row : (kind : ℕ) (entries : List (List ℕ)) (rest : List ℕ) → All (IsEntry kind) entries → entries_in kind (concat entries ++ rest) ≡ entries ++ entries_in kind rest
entries_in-row kind [] rest each = refl
entries_in-row kind (entry ∷ later) rest each =
    let is = All-head (IsEntry kind) entry later each in
    ap (entries_in kind) (append_assoc entry (concat later) rest)
    ∙ first_entry kind (length entry) (entry ++ (concat later ++ rest)) (entry_in_front kind entry (concat later ++ rest) is)
    ∙ ap (λ first. first ∷ entries_in kind (drop (length entry) (entry ++ (concat later ++ rest)))) (take-append_seam entry (concat later ++ rest))
    ∙ ap (λ behind. entry ∷ entries_in kind behind) (drop-append_seam entry (concat later ++ rest))
    ∙ ap (λ others. entry ∷ others) (entries_in-row kind later rest (All-tail (IsEntry kind) entry later each))

-- entries one behind another are found as they are
pub entries_in-concat : (kind : ℕ) (entries : List (List ℕ)) → All (IsEntry kind) entries → entries_in kind (concat entries) ≡ entries
entries_in-concat kind entries each =
    ap (entries_in kind) (sym (append-nil (concat entries)))
    ∙ entries_in-row kind entries [] each
    ∙ ap (λ none. entries ++ none) (no_entries kind [] (none_shorter kind [] (omega arith)))
    ∙ append-nil entries

-- ---- what is found stands in front

front_ends : (kind : ℕ) (bytes : List ℕ) → entry_size_of kind bytes ≡ None → AreInFront kind bytes (entries_in kind bytes)
front_ends kind bytes e = rw (no_entries kind bytes e) (record {
  rest = bytes;
  split = refl;
  each = All-nil (IsEntry kind);
  ended = e;
})

front_more : (kind size : ℕ) (bytes : List ℕ) → entry_size_of kind bytes ≡ Some size → AreInFront kind (drop size bytes) (entries_in kind (drop size bytes)) → AreInFront kind bytes (entries_in kind bytes)
front_more kind size bytes e front =
    rw (first_entry kind size bytes e) (record {
      rest = front.rest;
      split =
          sym (take-append-drop size bytes)
          ∙ ap (λ behind. take size bytes ++ behind) front.split
          ∙ sym (append_assoc (take size bytes) (concat (entries_in kind (drop size bytes))) front.rest);
      each = All-cons (IsEntry kind) (take size bytes) (entries_in kind (drop size bytes)) (entry_there kind size bytes e).1 front.each;
      ended = front.ended;
    })

in_front : (n kind : ℕ) (bytes : List ℕ) → length bytes ≤ n → AreInFront kind bytes (entries_in kind bytes)
in_front zero kind bytes le = front_ends kind bytes (none_shorter kind bytes (omega arith))
in_front (suc n) kind bytes le = by_size (λ rest less. in_front n kind rest (omega arith)) (entry_size_of kind bytes) refl
  where
    by_size : ((rest : List ℕ) → length rest < length bytes → AreInFront kind rest (entries_in kind rest)) → (o : Option ℕ) → entry_size_of kind bytes ≡ o → AreInFront kind bytes (entries_in kind bytes)
    by_size shorter None e = front_ends kind bytes e
    by_size shorter (Some size) e =
        let begins = entry_begins kind size bytes e in
        let left = length-drop size bytes in
        front_more kind size bytes e (shorter (drop size bytes) (omega arith))

pub AreInFront-entries_in : (kind : ℕ) (bytes : List ℕ) → AreInFront kind bytes (entries_in kind bytes)
AreInFront-entries_in kind bytes = in_front (length bytes) kind bytes (omega arith)

-- and nothing else does
pub entries_in-AreInFront : (kind : ℕ) (bytes : List ℕ) (entries : List (List ℕ)) → AreInFront kind bytes entries → entries_in kind bytes ≡ entries
entries_in-AreInFront kind bytes entries front =
    ap (entries_in kind) front.split
    ∙ entries_in-row kind entries front.rest front.each
    ∙ ap (λ none. entries ++ none) (no_entries kind front.rest front.ended)
    ∙ append-nil entries

-- ---- how many there are

long_row : (kind : ℕ) (entries : List (List ℕ)) → All (IsEntry kind) entries → 24 * length entries ≤ length (concat entries)
long_row kind [] each = omega arith
long_row kind (entry ∷ later) each =
    let first = entry_long kind entry (All-head (IsEntry kind) entry later each) in
    let others = long_row kind later (All-tail (IsEntry kind) entry later each) in
    let both = length-append entry (concat later) in
    omega arith

-- entries have no more bytes than those in which they are found
pub bytes_of_entries : (kind : ℕ) (bytes : List ℕ) → length (concat (entries_in kind bytes)) ≤ length bytes
bytes_of_entries kind bytes =
    let front = AreInFront-entries_in kind bytes in
    let whole = ap length front.split ∙ length-append (concat (entries_in kind bytes)) front.rest in
    omega (arith, whole)

-- there is at most one for 24 bytes
pub count_of_entries : (kind : ℕ) (bytes : List ℕ) → 24 * length (entries_in kind bytes) ≤ length bytes
count_of_entries kind bytes =
    let rows = long_row kind (entries_in kind bytes) (AreInFront-entries_in kind bytes).each in
    let within = bytes_of_entries kind bytes in
    omega arith
