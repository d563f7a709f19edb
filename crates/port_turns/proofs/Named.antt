-- Whether a slice's swaps name a number at all.
use Rattle.std.proofs.Common.{◌≡◌, ℕ, suc, nat_lt, List, [], ◌∷◌, length, refl, sym, inl, inr, arith}
use Rattle.std.specs.List.{list_any}
use Rattle.std.proofs.lemmas.Bool.{cases_Bool, lt-ltb}
use Rattle.flowspace.specs.declared.swaps.Swap.{Swap}
use Rattle.flowspace.specs.Swaps.{is_swap_of, pairs_of}

pub some_named : (swaps : List Swap) (slot : ℕ) → list_any (is_swap_of slot) swaps ≡ nat_lt 0 (length (pairs_of swaps slot))
some_named [] slot = refl
some_named (swap ∷ swaps) slot = elim (cases_Bool (is_swap_of slot swap)) [
  | inl own ↦ rw own (sym (lt-ltb 0 (suc (length (pairs_of swaps slot))) (omega arith)))
  | inr other ↦ rw other (some_named swaps slot)
]
