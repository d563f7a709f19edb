-- Places in ascending lists of ports: what a search finds, and what is written there.
use Rattle.std.proofs.Common.{◌≡◌, ◌≢◌, ℕ, ◌+◌, ◌<◌, ◌≤◌, true, false, List, ◌∷◌, ◌++◌, length, take, drop, get_or, set, refl, sym, ap, ap₂, ◌∙◌, inl, inr, arith}
use Rattle.std.specs.Prelude.{AllPairs, Result, Ok, Err, is_ok}
use Rattle.std.specs.List.Sorted.{IsSearchInRange, IsBinarySearchResult, IsNonDecreasingBy}
use Rattle.std.specs.Ordering.{nat_cmp, ordering_index}
use Rattle.std.proofs.lemmas.Cmp.{ranked}
use Rattle.std.proofs.lemmas.List.{take-append-drop, take-set, drop-set}
use Rattle.std.proofs.lemmas.Bool.{cases_lt, cases_eq, cond_both, eq-eqb, ne_eqb}
use Rattle.std.proofs.lemmas.Bool.Decides.{nat_tests}
use Rattle.of10_port.specs.Ports.{port_number}
use Rattle.of10_port.specs.declared.status.PortStatus.{PortStatus}
use Rattle.flowspace.specs.Owners.{is_in_port}
use Rattle.port_view.specs.KnownPorts.{IsAscending, is_known, with_port, without_port, with_told, changed_plainly}
use Rattle.port_view.specs.Places.{IsPlace}
use Rattle.port_view.proofs.Order.{cut, any_here, any_nowhere}

module _ {X : Type 0} (n : X → ℕ) (xs : List X) (rises : AllPairs (λ x y. n x < n y) xs) (k : ℕ) where
  comparisons_rise : IsNonDecreasingBy (λ x. ordering_index (nat_cmp (n x) k)) xs
  comparisons_rise i j d le within =
      let numbers : n (get_or xs i d) ≤ n (get_or xs j d) = grind (arith, rises i j d, λ (same : i ≡ j). ap (λ (m : ℕ). n (get_or xs m d)) same) in
      grind (arith, nat_tests)

-- what a binary search by number answers
pub IsPlace-searched : (number : ℕ) (known : List (List ℕ)) (r : Result ℕ ℕ) → IsAscending known → IsSearchInRange r (length known)
    → IsBinarySearchResult (λ port. nat_cmp (port_number port) number) known r → IsPlace number known r × (is_ok r ≡ is_known number known)
unfolding IsAscending without_port
IsPlace-searched number known (Ok i) rises within found =
    let at : (d : List ℕ) → port_number (get_or known i d) ≡ number = λ d. ranked _ number _ (sym (found d)) in
    let parts = cut port_number number i (i + 1) known (omega arith)
    (λ m d lt inside. omega (arith, rises m i d lt within, at d))
    (λ m d le lt inside. let same : m ≡ i = omega arith in rw same (at d))
    (λ m d le inside. omega (arith, rises i m d (omega arith) inside, at d)) in
    ((within, record { front = parts.0; back = parts.1; others = parts.2 }), sym (any_here port_number number i known within at))
IsPlace-searched number known (Err i) rises within parted =
    let split = parted (comparisons_rise port_number known rises number) in
    let low : (m : ℕ) (d : List ℕ) → m < i → m < length known → port_number (get_or known m d) < number = λ m d lt inside. ranked _ number _ (sym (split.0 m d (omega arith) lt)) in
    let high : (m : ℕ) (d : List ℕ) → i ≤ m → m < length known → number < port_number (get_or known m d) = λ m d le inside. ranked _ number _ (sym (split.1 m d le inside)) in
    let parts = cut port_number number i i known (omega arith) low (λ m d le lt inside. absurd (omega arith)) high in
    let apart : (m : ℕ) (d : List ℕ) → m < length known → port_number (get_or known m d) ≢ number = λ m d inside e.
    elim (cases_lt m i) [ inl lt ↦ omega (arith, low m d lt inside) | inr le ↦ omega (arith, high m d le inside) ] in
    ((within, record { front = parts.0; back = parts.1; others = parts.2 }), sym (any_nowhere port_number number known apart))

-- a port written over the one of its number
pub with_port-set : (port : List ℕ) (known : List (List ℕ)) (i : ℕ) → IsPlace (port_number port) known (Ok i) → set known i port ≡ with_port port known
unfolding with_port
with_port-set port known i place =
    sym (take-append-drop i (set known i port))
    ∙ ap₂ (λ (xs ys : List (List ℕ)). xs ++ ys) (take-set known i port ∙ place.1.front) (drop-set known i port place.0 ∙ ap (λ (ys : List (List ℕ)). port ∷ ys) place.1.back)

-- a port put between those before it and behind it
pub with_port-insert : (port : List ℕ) (known : List (List ℕ)) (i : ℕ) → IsPlace (port_number port) known (Err i) → take i known ++ port ∷ drop i known ≡ with_port port known
unfolding with_port
with_port-insert port known i place = ap₂ (λ (xs ys : List (List ℕ)). xs ++ port ∷ ys) place.1.front place.1.back

-- a port taken out
pub without_port-remove : (number : ℕ) (known : List (List ℕ)) (i : ℕ) → IsPlace number known (Ok i) → take i known ++ drop (i + 1) known ≡ without_port number known
without_port-remove number known i place = place.1.others

-- a port that isn't there
pub without_port-none : (number : ℕ) (known : List (List ℕ)) (i : ℕ) → IsPlace number known (Err i) → known ≡ without_port number known
without_port-none number known i place = sym (take-append-drop i known) ∙ place.1.others

-- what a status that is kept does, by its reason
pub changed_plainly-delete : (status : PortStatus) (known : List (List ℕ)) → status.reason ≡ 1 → changed_plainly status known ≡ without_port (port_number status.port) known
unfolding changed_plainly
changed_plainly-delete status known is = rw (eq-eqb status.reason 1 is) refl

pub changed_plainly-other : (status : PortStatus) (known : List (List ℕ)) → status.reason ≢ 1 → changed_plainly status known ≡ with_port status.port known
unfolding changed_plainly
changed_plainly-other status known isnt = rw (ne_eqb status.reason 1 isnt) refl

-- what holds whether the port is deleted or reported
pub by_reason : (P : List (List ℕ) → Type 0) (status : PortStatus) (known : List (List ℕ)) → (status.reason ≡ 1 → P (without_port (port_number status.port) known)) → (status.reason ≢ 1 → P (with_port status.port known))
    → P (changed_plainly status known)
by_reason P status known deleted told = elim (cases_eq status.reason 1) [
  | inl is ↦ rw (changed_plainly-delete status known is) (deleted is)
  | inr isnt ↦ rw (changed_plainly-other status known isnt) (told isnt)
]

-- what holds whether a port is passed over or not
pub by_number : (P : List (List ℕ) → Type 0) (known : List (List ℕ)) (port : List ℕ) → (is_in_port (port_number port) ≡ true → P (with_port port known)) → (is_in_port (port_number port) ≡ false → P known)
    → P (with_told known port)
by_number P known port can cannot = cond_both (is_in_port (port_number port)) (with_port port known) known P can cannot
