-- How a book keeps its pairs: they lie in a store, in no order that counts, and the list of their places is in order. A place is counted from 0.
use Rattle.std.specs.Prelude.{ℕ, ◌≡◌, ◌+◌, ◌<◌, ◌≤◌, ◌==◌, ◌⊎◌, false, if◌then◌else◌, List, [], ◌∷◌, map, slice_index_or, Vec, vec_len, vec_capacity}
use Rattle.of10_model.specs.Exact.{all_free}
use Rattle.flow_book.specs.declared.booked.Booked.{Booked}

-- what stands for a pair where there is none
abbrev pub no_pair : Booked
no_pair = record { pattern = all_free; priority = 0; asked = false; number = 0 }

-- the pairs at these places
abbrev pub at_places : List Booked → List ℕ → List Booked
at_places store places = map (λ place. slice_index_or store place no_pair) places

-- how often a place is among these
abbrev pub times : ℕ → List ℕ → ℕ
times place [] = 0
times place (p ∷ places) = (if p == place then 1 else 0) + times place places

-- each place of a store of this size is once in order or free, and no other place is
pub record EachOnce (size : ℕ) (order free : List ℕ) : Type 0 where
  pub within : (place : ℕ) → place < size → times place order + times place free ≡ 1
  pub beyond : (place : ℕ) → size ≤ place → times place order + times place free ≡ 0

-- an entry was put to a place of a store, which was free or behind all others: what lies at the places in order stays
pub record IsStored {Z Y : Type 0} (store : Vec Booked Z) (free : Vec ℕ Y) (entry : Booked) (place : ℕ) (after : Vec Booked Z) (left : Vec ℕ Y) : Type 0 where
  pub here : slice_index_or after.items place no_pair ≡ entry
  pub once : (order : List ℕ) → EachOnce (vec_len store) order free.items → EachOnce (vec_len after) (place ∷ order) left.items
  pub kept : (order : List ℕ) → EachOnce (vec_len store) order free.items → at_places after.items order ≡ at_places store.items order
  pub len : vec_len after + vec_len free ≡ vec_len store + vec_len left + 1
  pub grown : (vec_len after ≡ vec_len store) ⊎ (vec_len left ≡ 0)
  pub capacity : vec_capacity after ≡ vec_capacity store
  pub free_capacity : vec_capacity left ≡ vec_capacity free
