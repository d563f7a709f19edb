-- The ports whose numbers pass a test follow their own statuses.
use Rattle.std.proofs.Common.{◌≡◌, ◌≢◌, ℕ, ◌≤◌, ◌==◌, ltb, not, Bool, true, false, List, [], ◌∷◌, ◌++◌, filter, refl, sym, ap, ap₂, ◌∙◌, inl, inr, arith}
use Rattle.std.proofs.lemmas.Bool.{cases_Bool, lt-ltb, le-ltb, ltb-true, ltb-false, eq-eqb, ne_eqb, cases_eq}
use Rattle.std.proofs.lemmas.List.Elements.{filter-append}
use Rattle.flowspace.proofs.Ranking.{filter-filter, filter-through}
use Rattle.of10_port.specs.Ports.{port_number}
use Rattle.of10_port.specs.declared.status.PortStatus.{PortStatus}
use Rattle.port_view.specs.declared.status_answers.Kept.TheVariants.{Kept}
use Rattle.port_view.specs.KnownPorts.{IsAscending, ports_below, ports_above, with_port, without_port, kept_of, changed_plainly, changed}
use Rattle.port_view.proofs.Order.{AreAbove, Rises, Rises-from_pairs}
use Rattle.port_view.proofs.Cutting.{changed_plainly-delete, changed_plainly-other, by_reason}
use Rattle.port_view.proofs.Knowing.{changed-kept, by_kept}

-- ---- an ascending list without a number

module _ {X : Type 0} (n : X → ℕ) where
  all_above : (k m : ℕ) (xs : List X) → m ≤ k → AreAbove n k xs
      → (filter (λ x. ltb (n x) m) xs ≡ []) × (filter (λ x. ltb m (n x)) xs ≡ xs) × (filter (λ x. not (n x == m)) xs ≡ xs)
  all_above k m [] le above = (refl, refl, refl)
  all_above k m (x ∷ xs) le above =
      let here = above.0 in
      let rest = all_above k m xs le above.1 in
      rw (le-ltb (n x) m (omega arith), lt-ltb m (n x) (omega arith), ne_eqb (n x) m (λ e. omega arith))
      (rest.0, ap (λ (r : List X). x ∷ r) rest.1, ap (λ (r : List X). x ∷ r) rest.2)

  around : (m : ℕ) (xs : List X) → Rises n xs → filter (λ x. ltb (n x) m) xs ++ filter (λ x. ltb m (n x)) xs ≡ filter (λ x. not (n x == m)) xs
  around m [] rises = refl
  around m (x ∷ xs) rises = elim (cases_Bool (ltb (n x) m)) [
    | inl low ↦
        let lt = ltb-true (n x) m low in
        rw (low, le-ltb m (n x) (omega arith), ne_eqb (n x) m (λ e. omega arith)) (ap (λ (r : List X). x ∷ r) (around m xs rises.1))
    | inr high ↦
        let le = ltb-false (n x) m high in
        let rest = all_above (n x) m xs le rises.0 in
        elim (cases_eq (n x) m) [
          | inl same ↦ rw (high, le-ltb m (n x) (omega arith), eq-eqb (n x) m same, rest.0, rest.1, rest.2) refl
          | inr apart ↦ rw (high, lt-ltb m (n x) (omega arith), ne_eqb (n x) m apart, rest.0, rest.1, rest.2) refl
        ]
  ]

-- ---- the ports of a test

module _ (is_own : ℕ → Bool) where
  abbrev own : List (List ℕ) → List (List ℕ)
  own known = filter (λ port. is_own (port_number port)) known

  own-with : (port : List ℕ) (known : List (List ℕ)) → is_own (port_number port) ≡ true → own (with_port port known) ≡ with_port port (own known)
  unfolding with_port
  own-with port known is =
      filter-append (λ p. is_own (port_number p)) (ports_below (port_number port) known) (port ∷ ports_above (port_number port) known)
      ∙ rw is (ap₂ (λ (front back : List (List ℕ)). front ++ port ∷ back)
      (filter-filter (λ p. is_own (port_number p)) (λ p. ltb (port_number p) (port_number port)) known)
      (filter-filter (λ p. is_own (port_number p)) (λ p. ltb (port_number port) (port_number p)) known))

  own-without : (number : ℕ) (known : List (List ℕ)) → own (without_port number known) ≡ without_port number (own known)
  unfolding without_port
  own-without number known = filter-filter (λ p. is_own (port_number p)) (λ p. not (port_number p == number)) known

  pub own-changed : (status : PortStatus) (known : List (List ℕ)) → kept_of status known ≡ Kept → is_own (port_number status.port) ≡ true
      → own (changed status known) ≡ changed_plainly status (own known)
  own-changed status known kept is =
      ap own (changed-kept status known kept)
      ∙ by_reason (λ now. own now ≡ changed_plainly status (own known)) status known
      (λ deletes. own-without (port_number status.port) known ∙ sym (changed_plainly-delete status (own known) deletes))
      (λ tells. own-with status.port known is ∙ sym (changed_plainly-other status (own known) tells))

  passes_by : (number : ℕ) → is_own number ≡ false → (port : List ℕ) → is_own (port_number port) ≡ true → not (port_number port == number) ≡ true
  passes_by number isnt port is =
      let apart : port_number port ≢ number = λ e. let both : true ≡ false = sym is ∙ ap is_own e ∙ isnt in cc in
      rw (ne_eqb (port_number port) number apart) refl

  own-without_other : (number : ℕ) (known : List (List ℕ)) → is_own number ≡ false → own (without_port number known) ≡ own known
  unfolding without_port
  own-without_other number known isnt = filter-through (λ p. is_own (port_number p)) (λ p. not (port_number p == number)) (passes_by number isnt) known

  own-with_other : (port : List ℕ) (known : List (List ℕ)) → IsAscending known → is_own (port_number port) ≡ false → own (with_port port known) ≡ own known
  unfolding with_port without_port IsAscending
  own-with_other port known rises isnt =
      filter-append (λ p. is_own (port_number p)) (ports_below (port_number port) known) (port ∷ ports_above (port_number port) known)
      ∙ rw isnt (sym (filter-append (λ p. is_own (port_number p)) (ports_below (port_number port) known) (ports_above (port_number port) known)))
      ∙ ap own (around port_number (port_number port) known (Rises-from_pairs port_number known rises))
      ∙ own-without_other (port_number port) known isnt

  pub own-changed_other : (status : PortStatus) (known : List (List ℕ)) → IsAscending known → is_own (port_number status.port) ≡ false
      → own (changed status known) ≡ own known
  own-changed_other status known rises isnt =
      by_kept (λ now. own now ≡ own known) status known
      (λ kept. by_reason (λ now. own now ≡ own known) status known (λ deletes. own-without_other (port_number status.port) known isnt) (λ tells. own-with_other status.port known rises isnt))
      (λ not_kept. refl)
