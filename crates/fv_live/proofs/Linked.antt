-- The first link to an address, by its place.
use Rattle.std.proofs.Common.{◌≡◌, ◌≤◌, ◌<◌, ℕ, ◌+◌, List, [], ◌∷◌, length, get_or, refl, ap, add-one, arith, true, false}
use Rattle.std.specs.Prelude.{Some, None, if◌then◌else◌}
use Rattle.std.specs.List.{remove}
use Rattle.std.specs.Str.{bytes_eq}
use Rattle.std.specs.String.{string_bytes}
use Rattle.fv_live.specs.declared.links.Link.{Link}
use Rattle.fv_live.specs.Links.{first_link, place_of_link, without_link}

pub first-there : {S K : Type 0} (links : List (Link S K)) (other : Link S K) (to : List ℕ) → place_of_link links to < length links → first_link links to ≡ Some (get_or links (place_of_link links to) other)
first-there [] other to h = absurd (omega arith)
first-there (link ∷ others) other to h =
    elim (bytes_eq (string_bytes link.address) to) as (λ b. (if b then 0 else place_of_link others to + 1) < length (link ∷ others) → (if b then Some link else first_link others to) ≡ Some (get_or (link ∷ others) (if b then 0 else place_of_link others to + 1) other)) [
      | true ↦ λ h. refl
      | false ↦ λ h. rw (add-one (place_of_link others to)) (first-there others other to (omega arith))
    ] h

pub rest-there : {S K : Type 0} (links : List (Link S K)) (to : List ℕ) → place_of_link links to < length links → without_link links to ≡ remove links (place_of_link links to)
rest-there [] to h = absurd (omega arith)
rest-there (link ∷ others) to h =
    elim (bytes_eq (string_bytes link.address) to) as (λ b. (if b then 0 else place_of_link others to + 1) < length (link ∷ others) → (if b then others else link ∷ without_link others to) ≡ remove (link ∷ others) (if b then 0 else place_of_link others to + 1)) [
      | true ↦ λ h. refl
      | false ↦ λ h. rw (add-one (place_of_link others to)) (ap (λ rest. link ∷ rest) (rest-there others to (omega arith)))
    ] h

pub first-none : {S K : Type 0} (links : List (Link S K)) (to : List ℕ) → length links ≤ place_of_link links to → first_link links to ≡ None
first-none [] to h = refl
first-none (link ∷ others) to h =
    elim (bytes_eq (string_bytes link.address) to) as (λ b. length (link ∷ others) ≤ (if b then 0 else place_of_link others to + 1) → (if b then Some link else first_link others to) ≡ None) [
      | true ↦ λ h. absurd (omega arith)
      | false ↦ λ h. first-none others to (omega arith)
    ] h

pub rest-none : {S K : Type 0} (links : List (Link S K)) (to : List ℕ) → length links ≤ place_of_link links to → without_link links to ≡ links
rest-none [] to h = refl
rest-none (link ∷ others) to h =
    elim (bytes_eq (string_bytes link.address) to) as (λ b. length (link ∷ others) ≤ (if b then 0 else place_of_link others to + 1) → (if b then others else link ∷ without_link others to) ≡ link ∷ others) [
      | true ↦ λ h. absurd (omega arith)
      | false ↦ λ h. ap (λ rest. link ∷ rest) (rest-none others to (omega arith))
    ] h
