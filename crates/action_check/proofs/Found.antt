-- What a rule that is found says of all rules.
use Rattle.std.proofs.Common.{◌≡◌, ℕ, ◌&&◌, IsTrue, Bool, false, List, slice_get, Option, Some, None, refl}
use Rattle.std.specs.List.{list_any}
use Rattle.std.proofs.lemmas.List.Folds.{list_any_at}
use Rattle.std.proofs.lemmas.Option.{slice_get_within, get_or_from_slice_get}
use Rattle.flowspace.specs.declared.rules.Rule.{Rule}
use Rattle.action_check.specs.ActionRules.{passes_at}

of_one : (rules : List Rule) (place : ℕ) (p q : Rule → Bool) (o : Option Rule) → slice_get rules place ≡ o → IsTrue (elim o [ None ↦ false | Some rule ↦ p rule ]) → IsTrue (elim o [ None ↦ false | Some rule ↦ q rule ])
    → IsTrue (list_any (λ rule. p rule && q rule) rules)
of_one rules place p q None e s t = absurd (cc)
of_one rules place p q (Some rule) e s t =
    list_any_at (λ rule. p rule && q rule) rules place rule (slice_get_within rules place rule e) (rw (get_or_from_slice_get rules place rule rule e, s, t) refl)

-- a rule that passes both of two tests is among those that do
pub any-passes_at : (rules : List Rule) (place : ℕ) (p q : Rule → Bool) → IsTrue (passes_at p rules place) → IsTrue (passes_at q rules place) → IsTrue (list_any (λ rule. p rule && q rule) rules)
any-passes_at rules place p q s t = of_one rules place p q (slice_get rules place) refl s t
