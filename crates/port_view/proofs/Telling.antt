-- A port is known as it was reported last.
use Rattle.std.proofs.Common.{◌≡◌, ◌≢◌, ℕ, Bool, true, false, List, [], ◌∷◌, refl, sym, ap, ◌∙◌, inl, inr}
use Rattle.std.specs.Prelude.{find, reverse, fold, Option, Some, None, if◌then◌else◌}
use Rattle.std.specs.Option.{option_or, option_map_or}
use Rattle.std.proofs.lemmas.Bool.{cases_Bool, eq-eqb, ne_eqb, cases_eq}
use Rattle.std.proofs.lemmas.List.{reverse-append}
use Rattle.std.proofs.lemmas.List.Folds.{find-append}
use Rattle.of10_port.specs.Ports.{port_number}
use Rattle.of10_port.specs.declared.features.Features.{Features}
use Rattle.of10_port.specs.declared.status.PortStatus.{PortStatus}
use Rattle.port_view.specs.declared.status_answers.Kept.{Kept as Answer}
use Rattle.port_view.specs.declared.status_answers.Kept.TheVariants.{Kept, Ignored, TooManyPorts}
use Rattle.flowspace.specs.Owners.{is_in_port}
use Rattle.port_view.specs.KnownPorts.{is_of_number, port_of, with_port, without_port, with_told, first_known, kept_of, is_kept, changed_plainly, known_of}
use Rattle.port_view.specs.Told.{kept_statuses, told_first, port_it_tells, told_last}
use Rattle.port_view.proofs.Cutting.{by_number, by_reason}
use Rattle.port_view.proofs.Knowing.{by_kept}
use Rattle.port_view.proofs.Finding.{or_none, find-put_same, find-put_other, find-out_same, find-out_other}

-- ---- one port

port_of-with_same : (port : List ℕ) (known : List (List ℕ)) → port_of (port_number port) (with_port port known) ≡ Some port
unfolding with_port
port_of-with_same port known = find-put_same port_number port known

port_of-with_other : (number : ℕ) (port : List ℕ) (known : List (List ℕ)) → number ≢ port_number port → port_of number (with_port port known) ≡ port_of number known
unfolding with_port
port_of-with_other number port known apart = find-put_other port_number number port known apart

port_of-without_same : (number : ℕ) (known : List (List ℕ)) → port_of number (without_port number known) ≡ None
unfolding without_port
port_of-without_same number known = find-out_same port_number number known

port_of-without_other : (number other : ℕ) (known : List (List ℕ)) → number ≢ other → port_of number (without_port other known) ≡ port_of number known
unfolding without_port
port_of-without_other number other known apart = find-out_other port_number number other known apart

-- ---- the ports of a FEATURES_REPLY

told_later : (earlier : Option (List ℕ)) (port : List ℕ) (later : Option (List ℕ)) (same : Bool)
    → option_or later (if same then Some port else earlier) ≡ option_or (option_or later (if same then Some port else None)) earlier
told_later earlier port None true = refl
told_later earlier port None false = refl
told_later earlier port (Some other) same = refl

port_of-told : (number : ℕ) (port : List ℕ) (known : List (List ℕ)) → is_in_port number ≡ true
    → port_of number (with_told known port) ≡ (if is_of_number number port then Some port else port_of number known)
port_of-told number port known can = elim (cases_eq (port_number port) number) [
  | inl same ↦
      let this : is_in_port (port_number port) ≡ true = ap is_in_port same ∙ can in
      rw (this, eq-eqb (port_number port) number same) (ap (λ (n : ℕ). port_of n (with_port port known)) (sym same) ∙ port_of-with_same port known)
  | inr apart ↦ rw (ne_eqb (port_number port) number apart)
      (by_number (λ now. port_of number now ≡ port_of number known) known port (λ is. port_of-with_other number port known (λ e. apart (sym e))) (λ isnt. refl))
]

find_last : (number : ℕ) (port : List ℕ) (later : List (List ℕ))
    → find (is_of_number number) (reverse (port ∷ later)) ≡ option_or (find (is_of_number number) (reverse later)) (if is_of_number number port then Some port else None)
find_last number port later =
    ap (find (is_of_number number)) (reverse-append (port ∷ []) later) ∙ find-append (is_of_number number) (reverse later) (port ∷ [])

port_of-fold : (number : ℕ) (ports known : List (List ℕ)) → is_in_port number ≡ true
    → port_of number (fold with_told known ports) ≡ option_or (find (is_of_number number) (reverse ports)) (port_of number known)
port_of-fold number [] known can = refl
port_of-fold number (port ∷ later) known can =
    port_of-fold number later (with_told known port) can
    ∙ ap (option_or (find (is_of_number number) (reverse later))) (port_of-told number port known can)
    ∙ told_later (port_of number known) port (find (is_of_number number) (reverse later)) (is_of_number number port)
    ∙ ap (λ (o : Option (List ℕ)). option_or o (port_of number known)) (sym (find_last number port later))

port_of-never : (number : ℕ) (ports known : List (List ℕ)) → is_in_port number ≡ false → port_of number known ≡ None
    → port_of number (fold with_told known ports) ≡ None
port_of-never number [] known cannot none = none
port_of-never number (port ∷ later) known cannot none = by_number (λ now. port_of number (fold with_told now later) ≡ None) known port
    (λ is.
    let apart : number ≢ port_number port = λ e. let this : true ≡ false = sym is ∙ ap is_in_port (sym e) ∙ cannot in cc in
    port_of-never number later (with_port port known) cannot (port_of-with_other number port known apart ∙ none))
    (λ isnt. port_of-never number later known cannot none)

port_of-first : (number : ℕ) (ports : List (List ℕ)) → port_of number (first_known ports) ≡ told_first number ports
unfolding first_known
port_of-first number ports = elim (cases_Bool (is_in_port number)) [
  | inl can ↦ rw can (port_of-fold number ports [] can ∙ or_none (find (is_of_number number) (reverse ports)))
  | inr cannot ↦ rw cannot (port_of-never number ports [] cannot refl)
]

-- ---- the statuses

port_of-changed_same : (status : PortStatus) (known : List (List ℕ)) → port_of (port_number status.port) (changed_plainly status known) ≡ port_it_tells status
port_of-changed_same status known = by_reason (λ now. port_of (port_number status.port) now ≡ port_it_tells status) status known
    (λ is. rw (eq-eqb status.reason 1 is) (port_of-without_same (port_number status.port) known))
    (λ isnt. rw (ne_eqb status.reason 1 isnt) (port_of-with_same status.port known))

port_of-changed_other : (number : ℕ) (status : PortStatus) (known : List (List ℕ)) → number ≢ port_number status.port
    → port_of number (changed_plainly status known) ≡ port_of number known
port_of-changed_other number status known apart = by_reason (λ now. port_of number now ≡ port_of number known) status known
    (λ is. port_of-without_other number (port_number status.port) known apart) (λ isnt. port_of-with_other number status.port known apart)

kept_statuses-kept : (features : Features) (status : PortStatus) (earlier : List PortStatus) → kept_of status (known_of features earlier) ≡ Kept
    → kept_statuses features (status ∷ earlier) ≡ status ∷ kept_statuses features earlier
unfolding kept_statuses
kept_statuses-kept features status earlier is =
    let kept : is_kept status (known_of features earlier) ≡ true = rw (is, is_kept) refl in rw kept refl

is_kept-not : (features : Features) (status : PortStatus) (earlier : List PortStatus) (answer : Answer) → kept_of status (known_of features earlier) ≡ answer → answer ≢ Kept
    → is_kept status (known_of features earlier) ≡ false
is_kept-not features status earlier Kept is isnt = absurd (isnt refl)
is_kept-not features status earlier Ignored is isnt = rw (is, is_kept) refl
is_kept-not features status earlier TooManyPorts is isnt = rw (is, is_kept) refl

kept_statuses-not : (features : Features) (status : PortStatus) (earlier : List PortStatus) → kept_of status (known_of features earlier) ≢ Kept
    → kept_statuses features (status ∷ earlier) ≡ kept_statuses features earlier
unfolding kept_statuses
kept_statuses-not features status earlier isnt = rw (is_kept-not features status earlier (kept_of status (known_of features earlier)) refl isnt) refl

-- what the statuses say of a number
abbrev told_in : ℕ → Features → List PortStatus → Option (List ℕ)
told_in number features kept = option_map_or port_it_tells (find (λ status. is_of_number number status.port) kept) (told_first number features.ports)

told_last-not_kept : (number : ℕ) (features : Features) (status : PortStatus) (earlier : List PortStatus) → kept_of status (known_of features earlier) ≢ Kept
    → told_last number features (status ∷ earlier) ≡ told_last number features earlier
unfolding told_last
told_last-not_kept number features status earlier isnt = ap (told_in number features) (kept_statuses-not features status earlier isnt)

told_last-same : (number : ℕ) (features : Features) (status : PortStatus) (earlier : List PortStatus) → kept_of status (known_of features earlier) ≡ Kept
    → port_number status.port ≡ number → told_last number features (status ∷ earlier) ≡ port_it_tells status
unfolding told_last
told_last-same number features status earlier is same =
    ap (told_in number features) (kept_statuses-kept features status earlier is) ∙ rw (eq-eqb (port_number status.port) number same) refl

told_last-other : (number : ℕ) (features : Features) (status : PortStatus) (earlier : List PortStatus) → kept_of status (known_of features earlier) ≡ Kept
    → port_number status.port ≢ number → told_last number features (status ∷ earlier) ≡ told_last number features earlier
unfolding told_last
told_last-other number features status earlier is apart =
    ap (told_in number features) (kept_statuses-kept features status earlier is) ∙ rw (ne_eqb (port_number status.port) number apart) refl

told_last-first : (number : ℕ) (features : Features) → told_last number features [] ≡ told_first number features.ports
unfolding told_last kept_statuses
told_last-first number features = refl

pub port_of-known_of : (features : Features) (statuses : List PortStatus) (number : ℕ) → port_of number (known_of features statuses) ≡ told_last number features statuses
unfolding known_of
port_of-known_of features [] number = port_of-first number features.ports ∙ sym (told_last-first number features)
port_of-known_of features (status ∷ earlier) number =
    by_kept (λ now. port_of number now ≡ told_last number features (status ∷ earlier)) status (known_of features earlier)
    (λ is. elim (cases_eq (port_number status.port) number) [
      | inl same ↦
          ap (λ (n : ℕ). port_of n (changed_plainly status (known_of features earlier))) (sym same)
          ∙ port_of-changed_same status (known_of features earlier)
          ∙ sym (told_last-same number features status earlier is same)
      | inr apart ↦
          port_of-changed_other number status (known_of features earlier) (λ e. apart (sym e))
          ∙ port_of-known_of features earlier number
          ∙ sym (told_last-other number features status earlier is apart)
    ])
    (λ isnt. port_of-known_of features earlier number ∙ sym (told_last-not_kept number features status earlier isnt))
