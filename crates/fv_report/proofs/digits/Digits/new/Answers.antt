use Rattle.std.proofs.Common.{arith, refl, ap, ◌∙◌, ◌≡◌, ◌<◌, ◌+◌, inl, inr, [], ◌∷◌, length, List, ℕ, set}
use Rattle.std.proofs.lemmas.Bool.{cases_lt}
use Rattle.std.proofs.lemmas.List.{get_or-set_same, get_or-set_other, length-set}
use Rattle.hex.specs.Hex.{encode_lower}
use Rattle.fv_report.specs.Digits.{ArePairs}
use Rattle.fv_report.proofs.digits.Digits.new.Goals as goal

-- one pair more
more : (pairs : List (List ℕ)) (at : ℕ) (pair : List ℕ) → at < length pairs → ArePairs at pairs → pair ≡ encode_lower (at ∷ []) → ArePairs (at + 1) (set pairs at pair)
unfolding ArePairs
more pairs at pair fits before is byte below =
    elim (cases_lt byte at) [
      | inl earlier ↦ get_or-set_other pairs at byte pair [] (λ e. absurd (omega (arith, e))) ∙ before byte earlier
      | inr last ↦
          let same : byte ≡ at = omega arith in
          rw same (get_or-set_same pairs at pair [] fits ∙ is)
    ]

pub loop-byte-init : goal.loop-byte-init
unfolding ArePairs
loop-byte-init c = (refl, λ byte below. absurd (omega arith))

pub loop-byte-preserved : goal.loop-byte-preserved
loop-byte-preserved c = (
  length-set c.loop-byte.pairs c.loop-byte.byte _ ∙ c.loop-byte.invariant.0,
  more c.loop-byte.pairs c.loop-byte.byte _ (omega (arith, c.loop-byte.invariant.0)) c.loop-byte.invariant.1 (c.digits_of.ensures ∙ ap (λ b. encode_lower (b ∷ [])) (omega arith)),
)

pub invariant_of-result : goal.invariant_of-result
unfolding ArePairs
invariant_of-result c byte below = c.loop-byte.invariant.1 byte (omega arith)
