-- The slots of a port: none is noted at first, and then those of the rules that take packets from it.
use Rattle.std.proofs.Common.{◌≡◌, ℕ, zero, suc, ◌||◌, Bool, true, false, List, [], ◌∷◌, slice_index_or, refl, ◌∙◌}
use Rattle.std.specs.List.{list_any}
use Rattle.flowspace.specs.declared.rules.Rule.{Rule}
use Rattle.flowspace.specs.Owners.{is_in_port, is_rule_at}
use Rattle.switch_side.specs.Sharing.{HaveNoted, AreSlotsWith}

-- so many slots of which none is noted
abbrev clear : ℕ → List Bool
clear zero = []
clear (suc n) = false ∷ clear n

nothing_noted : (n slot : ℕ) → slice_index_or (clear n) slot false ≡ false
nothing_noted zero slot = refl
nothing_noted (suc n) zero = refl
nothing_noted (suc n) (suc slot) = nothing_noted n slot

either_noted : (before others : Bool) → before ≡ false → (before || others) ≡ others
either_noted before others none = rw none refl

pub port_noted : (rules : List Rule) (port : ℕ) (after : List Bool) → is_in_port port ≡ true → HaveNoted rules port (clear 32) after → AreSlotsWith rules port after
port_noted rules port after in_port noted = λ slot lt.
    noted slot lt ∙ either_noted (slice_index_or (clear 32) slot false) (list_any (is_rule_at slot port) rules) (nothing_noted 32 slot) ∙ rw in_port refl

pub port_unnoted : (rules : List Rule) (port : ℕ) → is_in_port port ≡ false → AreSlotsWith rules port (clear 32)
port_unnoted rules port reserved = λ slot lt. nothing_noted 32 slot ∙ rw reserved refl
