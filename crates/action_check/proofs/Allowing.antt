-- What the rules say of an action that breaks none.
use Rattle.std.proofs.Common.{◌≡◌, ℕ, not, IsTrue, Bool, true, false, if◌then◌else◌, List, Option, Some, None, refl}
use Rattle.of10_action.specs.declared.action.Action.{Action}
use Rattle.flowspace.specs.declared.rules.Rule.{Rule}
use Rattle.action_check.specs.declared.fault.TheConstants.{BAD_OUT_PORT, BAD_ARGUMENT, NOT_PERMITTED}
use Rattle.action_check.specs.declared.origin.Origin.{Origin}
use Rattle.action_check.specs.ActionRules.{argument_fits, has_way, is_covered, probe_code, code_of}

pub record IsAllowed (rules : List Rule) (slot : ℕ) (image : Origin) (action : Action) : Type 0 where
  pub argument : IsTrue (argument_fits action)
  pub way : IsTrue (has_way rules slot image action)
  pub covered : IsTrue (is_covered rules slot image action)
  pub no_code : probe_code image action ≡ None

by_tests : (a w c : Bool) (o : Option ℕ) → (if not a then Some BAD_ARGUMENT else if not w then Some BAD_OUT_PORT else if not c then Some NOT_PERMITTED else o) ≡ None
    → IsTrue a × IsTrue w × IsTrue c × (o ≡ None)
by_tests false w c o e = absurd (cc)
by_tests true false c o e = absurd (cc)
by_tests true true false o e = absurd (cc)
by_tests true true true o e = (refl, refl, refl, e)

pub allowed : (rules : List Rule) (slot : ℕ) (image : Origin) (action : Action) → code_of rules slot image action ≡ None → IsAllowed rules slot image action
unfolding code_of
allowed rules slot image action e =
    let parts = by_tests (argument_fits action) (has_way rules slot image action) (is_covered rules slot image action) (probe_code image action) e in
    record { argument = parts.0; way = parts.1; covered = parts.2; no_code = parts.3 }
