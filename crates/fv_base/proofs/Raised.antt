-- A count of faults is raised at the place of a name.
use Rattle.std.proofs.Common.{◌≡◌, ◌≤◌, ◌<◌, ℕ, zero, suc, ◌+◌, List, [], ◌∷◌, ◌++◌, length, get_or, set, refl, sym, ◌∙◌, ap, add-one, arith, true, false}
use Rattle.std.specs.Prelude.{if◌then◌else◌, not, ◌||◌}
use Rattle.std.specs.Str.{bytes_eq}
use Rattle.std.specs.String.{string_bytes}
use Rattle.std.proofs.lemmas.Slice.Eq.{bytes_eq-Decides}
use Rattle.std.proofs.lemmas.List.{length-set, get_or-set_same}
use Rattle.fv_base.specs.declared.counts.Count.{Count}
use Rattle.fv_base.specs.Counts.{faults_at, has_count, one_more, count_place}

-- an entry with another count
abbrev pub counted : Count → ℕ → Count
counted entry count = record { name = entry.name; faults = count }

-- the count of a name after one fault more of another, or of itself
abbrev pub raised_in : ℕ → List Count → List ℕ → List ℕ → ℕ
raised_in k entries name at = if bytes_eq name at || not (has_count entries name || has_count entries at) then one_more (faults_at k entries at) else faults_at k entries at

pub faults_at-raised : (k : ℕ) (entries : List Count) (i : ℕ) (other : Count) (count : ℕ) (at : List ℕ) → (get_or entries i other).faults ≤ count → faults_at k entries at ≤ faults_at k (set entries i (counted (get_or entries i other) count)) at
faults_at-raised k [] i other count at h = omega arith
faults_at-raised k (entry ∷ others) zero other count at h =
    elim (bytes_eq (string_bytes entry.name) at) as (λ b. (if b then entry.faults else faults_at k others at) ≤ (if b then count else faults_at k others at)) [ true ↦ h | false ↦ omega arith ]
faults_at-raised k (entry ∷ others) (suc i) other count at h =
    let next = set others i (counted (get_or others i other) count) in
    elim (bytes_eq (string_bytes entry.name) at) as (λ b. (if b then entry.faults else faults_at k others at) ≤ (if b then entry.faults else faults_at k next at)) [ true ↦ omega arith | false ↦ faults_at-raised k others i other count at h ]

-- the count of a name, which stands at its place
pub faults_at-place : (k : ℕ) (entries : List Count) (other : Count) (name : List ℕ) → count_place entries name < length entries → faults_at k entries name ≡ (get_or entries (count_place entries name) other).faults
faults_at-place k [] other name h = absurd (omega arith)
faults_at-place k (entry ∷ others) other name h =
    elim (bytes_eq (string_bytes entry.name) name) as (λ b. (if b then 0 else count_place others name + 1) < length (entry ∷ others) → (if b then entry.faults else faults_at k others name) ≡ (get_or (entry ∷ others) (if b then 0 else count_place others name + 1) other).faults) [
      | true ↦ λ h. refl
      | false ↦ λ h. rw (add-one (count_place others name)) (faults_at-place k others other name (omega arith))
    ] h

-- raising a count moves no place
pub place_of-raised : (entries : List Count) (i : ℕ) (other : Count) (count : ℕ) (at : List ℕ) → count_place (set entries i (counted (get_or entries i other) count)) at ≡ count_place entries at
place_of-raised [] i other count at = refl
place_of-raised (entry ∷ others) zero other count at = refl
place_of-raised (entry ∷ others) (suc i) other count at = rw (place_of-raised others i other count at) refl

-- the raised count is the name's
pub faults_at-set : (k : ℕ) (entries : List Count) (other : Count) (count : ℕ) (name : List ℕ) → count_place entries name < length entries → faults_at k (set entries (count_place entries name) (counted (get_or entries (count_place entries name) other) count)) name ≡ count
faults_at-set k entries other count name h =
    let p = count_place entries name in
    let raised = counted (get_or entries p other) count in
    let same : count_place (set entries p raised) name ≡ p = place_of-raised entries p other count name in
    let fits : count_place (set entries p raised) name < length (set entries p raised) = rw (same, length-set entries p raised) h in
    faults_at-place k (set entries p raised) other name fits ∙ rw same (ap (λ e. e.faults) (get_or-set_same entries p raised other h))

pub faults_at-none : (k : ℕ) (entries : List Count) (name : List ℕ) → length entries ≤ count_place entries name → faults_at k entries name ≡ k
faults_at-none k [] name h = refl
faults_at-none k (entry ∷ others) name h =
    elim (bytes_eq (string_bytes entry.name) name) as (λ b. length (entry ∷ others) ≤ (if b then 0 else count_place others name + 1) → (if b then entry.faults else faults_at k others name) ≡ k) [
      | true ↦ λ h. absurd (omega arith)
      | false ↦ λ h. faults_at-none k others name (omega arith)
    ] h

pub faults_at-elsewhere : (k l : ℕ) (entries : List Count) (name : List ℕ) → k ≤ l → faults_at k entries name ≤ faults_at l entries name
faults_at-elsewhere k l [] name h = h
faults_at-elsewhere k l (entry ∷ others) name h =
    elim (bytes_eq (string_bytes entry.name) name) as (λ b. (if b then entry.faults else faults_at k others name) ≤ (if b then entry.faults else faults_at l others name)) [ true ↦ omega arith | false ↦ faults_at-elsewhere k l others name h ]

-- a declared name's count is moved by no other name
pub faults_at-others : (k : ℕ) (entries : List Count) (other : Count) (count : ℕ) (name at : List ℕ) → bytes_eq name at ≡ false → faults_at k (set entries (count_place entries name) (counted (get_or entries (count_place entries name) other) count)) at ≡ faults_at k entries at
faults_at-others k [] other count name at h = refl
faults_at-others k (entry ∷ others) other count name at h =
    let i = count_place others name in
    let next = set others i (counted (get_or others i other) count) in
    elim (bytes_eq (string_bytes entry.name) name) as (λ b. bytes_eq (string_bytes entry.name) name ≡ b → faults_at k (set (entry ∷ others) (if b then 0 else i + 1) (counted (get_or (entry ∷ others) (if b then 0 else i + 1) other) count)) at ≡ faults_at k (entry ∷ others) at) [
      | true ↦ λ e.
          let same : string_bytes entry.name ≡ name = (bytes_eq-Decides (string_bytes entry.name) name).0 e in
          let apart : bytes_eq (string_bytes entry.name) at ≡ false = rw same h in
          rw apart refl
      | false ↦ λ e. rw (add-one i, faults_at-others k others other count name at h) refl
    ] refl

pub faults_at-own : (k l : ℕ) (entries : List Count) (at : List ℕ) → has_count entries at ≡ true → faults_at l entries at ≡ faults_at k entries at
faults_at-own k l [] at h = absurd cc
faults_at-own k l (entry ∷ others) at h =
    elim (bytes_eq (string_bytes entry.name) at) as (λ b. (b || has_count others at) ≡ true → (if b then entry.faults else faults_at l others at) ≡ (if b then entry.faults else faults_at k others at)) [ true ↦ λ h. refl | false ↦ λ h. faults_at-own k l others at h ] h

pub has_count-raised : (entries : List Count) (i : ℕ) (other : Count) (count : ℕ) (at : List ℕ) → has_count (set entries i (counted (get_or entries i other) count)) at ≡ has_count entries at
has_count-raised [] i other count at = refl
has_count-raised (entry ∷ others) zero other count at = refl
has_count-raised (entry ∷ others) (suc i) other count at = rw (has_count-raised others i other count at) refl

-- a name with an entry is declared, and no other
pub has_count-there : (entries : List Count) (name : List ℕ) → count_place entries name < length entries → has_count entries name ≡ true
has_count-there [] name h = absurd (omega arith)
has_count-there (entry ∷ others) name h =
    elim (bytes_eq (string_bytes entry.name) name) as (λ b. (if b then 0 else count_place others name + 1) < length (entry ∷ others) → (b || has_count others name) ≡ true) [
      | true ↦ λ h. refl
      | false ↦ λ h. has_count-there others name (omega arith)
    ] h

pub has_count-nowhere : (entries : List Count) (name : List ℕ) → length entries ≤ count_place entries name → has_count entries name ≡ false
has_count-nowhere [] name h = refl
has_count-nowhere (entry ∷ others) name h =
    elim (bytes_eq (string_bytes entry.name) name) as (λ b. length (entry ∷ others) ≤ (if b then 0 else count_place others name + 1) → (b || has_count others name) ≡ false) [
      | true ↦ λ h. absurd (omega arith)
      | false ↦ λ h. has_count-nowhere others name (omega arith)
    ] h

pub faults_at-undeclared : (k : ℕ) (entries : List Count) (at : List ℕ) → has_count entries at ≡ false → faults_at k entries at ≡ k
faults_at-undeclared k [] at h = refl
faults_at-undeclared k (entry ∷ others) at h =
    elim (bytes_eq (string_bytes entry.name) at) as (λ b. (b || has_count others at) ≡ false → (if b then entry.faults else faults_at k others at) ≡ k) [ true ↦ λ h. absurd cc | false ↦ λ h. faults_at-undeclared k others at h ] h

-- one fault more at the place of a name
pub raised-there : (k : ℕ) (entries : List Count) (other : Count) (count : ℕ) (name at : List ℕ) → count_place entries name < length entries → count ≡ one_more (get_or entries (count_place entries name) other).faults → faults_at k (set entries (count_place entries name) (counted (get_or entries (count_place entries name) other) count)) at ≡ raised_in k entries name at
raised-there k entries other count name at h e =
    let p = count_place entries name in
    let next = set entries p (counted (get_or entries p other) count) in
    let declared : has_count entries name ≡ true = has_count-there entries name h in
    elim (bytes_eq name at) as (λ b. bytes_eq name at ≡ b → faults_at k next at ≡ (if b || not (has_count entries name || has_count entries at) then one_more (faults_at k entries at) else faults_at k entries at)) [
      | true ↦ λ same.
          rw (← ((bytes_eq-Decides name at).0 same)) (faults_at-set k entries other count name h ∙ e ∙ ap one_more (sym (faults_at-place k entries other name h)))
      | false ↦ λ apart. rw declared (faults_at-others k entries other count name at apart)
    ] refl

-- one fault more of a name that has no entry
pub raised-elsewhere : (k : ℕ) (entries : List Count) (name at : List ℕ) → length entries ≤ count_place entries name → faults_at (one_more k) entries at ≡ raised_in k entries name at
raised-elsewhere k entries name at h =
    let nowhere : has_count entries name ≡ false = has_count-nowhere entries name h in
    elim (has_count entries at) as (λ d. has_count entries at ≡ d → faults_at (one_more k) entries at ≡ (if bytes_eq name at || not (has_count entries name || d) then one_more (faults_at k entries at) else faults_at k entries at)) [
      | true ↦ λ declared.
          rw nowhere (elim (bytes_eq name at) as (λ b. bytes_eq name at ≡ b → faults_at (one_more k) entries at ≡ (if b || false then one_more (faults_at k entries at) else faults_at k entries at)) [
            | true ↦ λ same.
                let there : has_count entries name ≡ true = rw ((bytes_eq-Decides name at).0 same) declared in
                absurd cc
            | false ↦ λ apart. faults_at-own k (one_more k) entries at declared
          ] refl)
      | false ↦ λ unknown.
          rw (nowhere, faults_at-undeclared (one_more k) entries at unknown, faults_at-undeclared k entries at unknown)
          (elim (bytes_eq name at) as (λ b. one_more k ≡ (if b || true then one_more k else k)) [ true ↦ refl | false ↦ refl ])
    ] refl

-- one count more behind the others
pub faults_at-added : (k : ℕ) (entries : List Count) (entry : Count) (at : List ℕ) → entry.faults ≡ k → faults_at k (entries ++ entry ∷ []) at ≡ faults_at k entries at
faults_at-added k [] entry at e =
    elim (bytes_eq (string_bytes entry.name) at) as (λ b. (if b then entry.faults else k) ≡ k) [ true ↦ e | false ↦ refl ]
faults_at-added k (first ∷ others) entry at e = rw (faults_at-added k others entry at e) refl

pub has_count-added : (entries : List Count) (entry : Count) (at : List ℕ) → has_count (entries ++ entry ∷ []) at ≡ (has_count entries at || bytes_eq (string_bytes entry.name) at)
has_count-added [] entry at =
    elim (bytes_eq (string_bytes entry.name) at) as (λ b. (b || false) ≡ (false || b)) [ true ↦ refl | false ↦ refl ]
has_count-added (first ∷ others) entry at =
    let last = bytes_eq (string_bytes entry.name) at in
    elim (bytes_eq (string_bytes first.name) at) as (λ b. (b || has_count (others ++ entry ∷ []) at) ≡ ((b || has_count others at) || last)) [
      | true ↦ refl
      | false ↦ has_count-added others entry at
    ]

-- a name that has a count changes nothing where it is declared again
pub has_count-again : (entries : List Count) (name at : List ℕ) → count_place entries name < length entries → has_count entries at ≡ (has_count entries at || bytes_eq name at)
has_count-again entries name at h =
    elim (bytes_eq name at) as (λ b. bytes_eq name at ≡ b → has_count entries at ≡ (has_count entries at || b)) [
      | true ↦ λ same.
          let there : has_count entries at ≡ true = rw (← ((bytes_eq-Decides name at).0 same)) (has_count-there entries name h) in
          rw there refl
      | false ↦ λ apart. elim (has_count entries at) as (λ d. d ≡ (d || false)) [ true ↦ refl | false ↦ refl ]
    ] refl

-- the count that stands at the place of a name is changed
pub placed : (entries : List Count) (other : Count) (count : ℕ) (name : List ℕ) (p : ℕ) → p ≡ count_place entries name → other ≡ get_or entries p other → set entries p (counted other count) ≡ set entries (count_place entries name) (counted (get_or entries (count_place entries name) other) count)
placed entries other count name p e v =
    ap (λ x. set entries p (counted x count)) v ∙ ap (λ q. set entries q (counted (get_or entries q other) count)) e
