-- Which answer a list of actions has.
use Rattle.std.proofs.Common.{◌≡◌, ℕ, List, Option, Some, None, Result, Ok, Err, ap}
use Rattle.of10_action.specs.declared.action.Action.{Action}
use Rattle.flowspace.specs.declared.rules.Rule.{Rule}
use Rattle.action_check.specs.declared.origin.Origin.{Origin}
use Rattle.action_check.specs.Permitted.{first_code, expanded, permitted}

abbrev pub said : List Action → Option ℕ → Result (List Action) ℕ
said list o = elim o [ None ↦ Ok list | Some code ↦ Err code ]

pub permitted-Some : (rules : List Rule) (slot : ℕ) (origin : Origin) (actions : List Action) (flood all : List ℕ) (code : ℕ)
    → first_code rules slot origin actions ≡ Some code → permitted rules slot origin actions flood all ≡ Err code
permitted-Some rules slot origin actions flood all code e = ap (said (expanded flood all actions)) e

pub permitted-None : (rules : List Rule) (slot : ℕ) (origin : Origin) (actions : List Action) (flood all : List ℕ)
    → first_code rules slot origin actions ≡ None → permitted rules slot origin actions flood all ≡ Ok (expanded flood all actions)
permitted-None rules slot origin actions flood all e = ap (said (expanded flood all actions)) e
