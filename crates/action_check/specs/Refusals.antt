-- Which action it is for which a list is refused. This is the proxy's own rule.
use Rattle.std.specs.Prelude.{ℕ, ◌≡◌, List, [], ◌∷◌, ◌++◌, Some, None}
use Rattle.of10_action.specs.declared.action.Action.{Action}
use Rattle.flowspace.specs.declared.rules.Rule.{Rule}
use Rattle.action_check.specs.declared.origin.Origin.{Origin}
use Rattle.action_check.specs.Origins.{image_after}
use Rattle.action_check.specs.ActionRules.{code_of}

-- the image of an origin after each of a list of actions in turn
abbrev pub image_of : Origin → List Action → Origin
image_of origin [] = origin
image_of origin (action ∷ others) = image_of (image_after origin action) others

-- no action of the list is forbidden on the image by those before it
abbrev pub AreAllowed : List Rule → ℕ → Origin → List Action → Type 0
AreAllowed rules slot origin actions =
    (before later : List Action) (action : Action) → actions ≡ before ++ (action ∷ later) → code_of rules slot (image_of origin before) action ≡ None

-- a code is that of an action of the list on the image by those before it, none of which is forbidden
pub record IsFirstForbidden (rules : List Rule) (slot : ℕ) (origin : Origin) (actions : List Action) (code : ℕ) : Type 0 where
  pub before : List Action
  pub action : Action
  pub later : List Action
  pub splits : actions ≡ before ++ (action ∷ later)
  pub forbidden : code_of rules slot (image_of origin before) action ≡ Some code
  pub none_before : AreAllowed rules slot origin before
