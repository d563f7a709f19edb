-- What holds of the known ports: they ascend, and no more than 1,364 are known.
use Rattle.std.proofs.Common.{◌≡◌, ◌≢◌, ◌⊎◌, ℕ, ◌+◌, ◌<◌, ◌≤◌, ◌==◌, leb, not, Bool, true, false, List, [], ◌∷◌, length, take, get_or, refl, sym, ap, ◌∙◌, inl, inr, arith}
use Rattle.std.specs.Prelude.{fold, if◌then◌else◌}
use Rattle.std.proofs.lemmas.Bool.{leb-false, and_cases, not-false}
use Rattle.std.proofs.lemmas.List.{length-append}
use Rattle.std.proofs.lemmas.List.Sums.{fold_more}
use Rattle.std.proofs.lemmas.List.Filters.{length-filter_both}
use Rattle.of10_port.specs.Ports.{port_number}
use Rattle.of10_port.specs.declared.features.Features.{Features}
use Rattle.of10_port.specs.declared.status.PortStatus.{PortStatus}
use Rattle.port_view.specs.declared.status_answers.Kept.{Kept as Answer}
use Rattle.port_view.specs.declared.status_answers.Kept.TheVariants.{Kept, Ignored, TooManyPorts}
use Rattle.port_view.specs.KnownPorts.{IsAscending, is_known, is_ignored, is_too_many, with_port, without_port, with_told, first_known, kept_of, changed_plainly, changed, known_of}
use Rattle.port_view.specs.Places.{PortsStand}
use Rattle.port_view.proofs.Order.{Rises-from_pairs, pairs_from_Rises, Rises-filter, Rises-put, length-parts, length-parts_known}
use Rattle.port_view.proofs.Cutting.{by_number, by_reason}

-- ---- what becomes of a status

pub changed-kept : (status : PortStatus) (known : List (List ℕ)) → kept_of status known ≡ Kept → changed status known ≡ changed_plainly status known
unfolding changed
changed-kept status known is = rw (is, changed) refl

changed-by : (status : PortStatus) (known : List (List ℕ)) (answer : Answer) → kept_of status known ≡ answer → answer ≢ Kept → changed status known ≡ known
unfolding changed
changed-by status known Kept is isnt = absurd (isnt refl)
changed-by status known Ignored is isnt = rw (is, changed) refl
changed-by status known TooManyPorts is isnt = rw (is, changed) refl

pub changed-not_kept : (status : PortStatus) (known : List (List ℕ)) → kept_of status known ≢ Kept → changed status known ≡ known
changed-not_kept status known isnt = changed-by status known (kept_of status known) refl isnt

pub cases_kept : (answer : Answer) → (answer ≡ Kept) ⊎ (answer ≢ Kept)
cases_kept Kept = inl refl
cases_kept Ignored = inr (λ e. cc)
cases_kept TooManyPorts = inr (λ e. cc)

-- what holds whether a status is kept or not
pub by_kept : (P : List (List ℕ) → Type 0) (status : PortStatus) (known : List (List ℕ)) → (kept_of status known ≡ Kept → P (changed_plainly status known)) → (kept_of status known ≢ Kept → P known)
    → P (changed status known)
by_kept P status known kept not_kept = elim (cases_kept (kept_of status known)) [
  | inl is ↦ rw (changed-kept status known is) (kept is)
  | inr isnt ↦ rw (changed-not_kept status known isnt) (not_kept isnt)
]

-- a kept status is neither ignored nor one too many
kept_parts : (ignored too_many : Bool) → (if ignored then Ignored else if too_many then TooManyPorts else Kept) ≡ Kept → (ignored ≡ false) × (too_many ≡ false)
kept_parts true too_many is = absurd (cc)
kept_parts false true is = absurd (cc)
kept_parts false false is = (refl, refl)

pub kept_of-parts : (status : PortStatus) (known : List (List ℕ)) → kept_of status known ≡ Kept → (is_ignored status known ≡ false) × (is_too_many status known ≡ false)
unfolding kept_of
kept_of-parts status known is = kept_parts (is_ignored status known) (is_too_many status known) is

-- ---- the order

pub IsAscending-with_port : (port : List ℕ) (known : List (List ℕ)) → IsAscending known → IsAscending (with_port port known)
unfolding IsAscending with_port
IsAscending-with_port port known h = pairs_from_Rises port_number _ (Rises-put port_number port known (Rises-from_pairs port_number known h))

IsAscending-without_port : (number : ℕ) (known : List (List ℕ)) → IsAscending known → IsAscending (without_port number known)
unfolding IsAscending without_port
IsAscending-without_port number known h =
    pairs_from_Rises port_number _ (Rises-filter port_number (λ port. not (port_number port == number)) known (Rises-from_pairs port_number known h))

pub IsAscending-changed_plainly : (status : PortStatus) (known : List (List ℕ)) → IsAscending known → IsAscending (changed_plainly status known)
IsAscending-changed_plainly status known h =
    by_reason IsAscending status known (λ is. IsAscending-without_port (port_number status.port) known h) (λ isnt. IsAscending-with_port status.port known h)

pub IsAscending-changed : (status : PortStatus) (known : List (List ℕ)) → IsAscending known → IsAscending (changed status known)
IsAscending-changed status known h = by_kept IsAscending status known (λ is. IsAscending-changed_plainly status known h) (λ isnt. h)

pub IsAscending-none : IsAscending []
unfolding IsAscending
IsAscending-none i j d lt within = absurd (omega arith)

pub IsAscending-with_told : (known : List (List ℕ)) (port : List ℕ) → IsAscending known → IsAscending (with_told known port)
IsAscending-with_told known port h = by_number IsAscending known port (λ is. IsAscending-with_port port known h) (λ isnt. h)

IsAscending-fold : (ports known : List (List ℕ)) → IsAscending known → IsAscending (fold with_told known ports)
IsAscending-fold [] known h = h
IsAscending-fold (port ∷ later) known h = IsAscending-fold later (with_told known port) (IsAscending-with_told known port h)

-- the ports of a FEATURES_REPLY so far, and one more
pub first_known-more : (ports : List (List ℕ)) (i : ℕ) (port : List ℕ) → i < length ports → port ≡ get_or ports i port
    → first_known (take (i + 1) ports) ≡ with_told (first_known (take i ports)) port
unfolding first_known
first_known-more ports i port within is = fold_more with_told [] ports i port within ∙ ap (with_told (fold with_told [] (take i ports))) (sym is)

pub first_known-none : first_known [] ≡ []
unfolding first_known
first_known-none = refl

pub IsAscending-known_of : (features : Features) (statuses : List PortStatus) → IsAscending (known_of features statuses)
unfolding known_of first_known
IsAscending-known_of features [] = IsAscending-fold features.ports [] IsAscending-none
IsAscending-known_of features (status ∷ earlier) = IsAscending-changed status (known_of features earlier) (IsAscending-known_of features earlier)

-- ---- how many

length-with_port : (port : List ℕ) (known : List (List ℕ)) → length (with_port port known) ≤ length known + 1
unfolding with_port
length-with_port port known = simp length-append (let parts = length-parts port_number (port_number port) known in omega arith)

length-with_known : (port : List ℕ) (known : List (List ℕ)) → is_known (port_number port) known ≡ true → length (with_port port known) ≤ length known
unfolding with_port
length-with_known port known is = simp length-append (let parts = length-parts_known port_number (port_number port) known is in omega arith)

length-without_port : (number : ℕ) (known : List (List ℕ)) → length (without_port number known) ≤ length known
unfolding without_port
length-without_port number known =
    let parts = length-filter_both (λ port. not (port_number port == number)) (λ port. not (not (port_number port == number))) (λ port. refl) known in omega arith

pub few-changed_plainly : (status : PortStatus) (known : List (List ℕ)) → is_too_many status known ≡ false → length known ≤ 1364 → length (changed_plainly status known) ≤ 1364
few-changed_plainly status known fits few = by_reason (λ now. length now ≤ 1364) status known
    (λ is. let less = length-without_port (port_number status.port) known in omega arith)
    (λ isnt. elim (and_cases (not (is_known (port_number status.port) known)) (leb 1364 (length known)) fits) [
      | inl there ↦ let less = length-with_known status.port known (not-false (is_known (port_number status.port) known) there) in omega arith
      | inr room ↦ let more = length-with_port status.port known in let below = leb-false 1364 (length known) room in omega arith
    ])

pub few-changed : (status : PortStatus) (known : List (List ℕ)) → length known ≤ 1364 → length (changed status known) ≤ 1364
few-changed status known few = by_kept (λ now. length now ≤ 1364) status known (λ is. few-changed_plainly status known (kept_of-parts status known is).1 few) (λ isnt. few)

length-fold : (ports known : List (List ℕ)) → length (fold with_told known ports) ≤ length known + length ports
length-fold [] known = omega arith
length-fold (port ∷ later) known = by_number (λ now. length (fold with_told now later) ≤ length known + length (port ∷ later)) known port
    (λ is. let more = length-with_port port known in let rest = length-fold later (with_port port known) in omega arith)
    (λ isnt. let rest = length-fold later known in omega arith)

pub length-first_known : (ports : List (List ℕ)) → length (first_known ports) ≤ length ports
unfolding first_known
length-first_known ports = let all = length-fold ports [] in omega arith

pub few-known_of : (features : Features) (statuses : List PortStatus) → length features.ports ≤ 1364 → length (known_of features statuses) ≤ 1364
unfolding known_of
few-known_of features [] few = let less = length-first_known features.ports in omega arith
few-known_of features (status ∷ earlier) few = few-changed status (known_of features earlier) (few-known_of features earlier few)

-- ---- a view after one status more

pub PortsStand-taken : (features : Features) (statuses : List PortStatus) (status : PortStatus) (view after : List (List ℕ)) → PortsStand features statuses view
    → after ≡ changed status view → PortsStand features (status ∷ statuses) after
unfolding known_of
PortsStand-taken features statuses status view after s is = record { known = is ∙ ap (changed status) s.known }
