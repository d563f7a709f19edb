-- What the laws of `src/laws.rt` speak of: a list of actions that a slice wants, with all that its answer depends on.
use Rattle.std.specs.Prelude.{ℕ, List, Result}
use Rattle.std.specs.List.{All}
use Rattle.of10_action.specs.declared.action.Action.{Action}
use Rattle.of10_action.specs.Actions.{IsAction}
use Rattle.flowspace.specs.declared.rules.Rule.{Rule}
use Rattle.flowspace.specs.Owners.{HasPort}
use Rattle.action_check.specs.declared.origin.Origin.{Origin}
use Rattle.action_check.specs.Permitted.{permitted}
use Rattle.action_check.specs.Soundness.{IsOrigin}

-- the slice at a slot, by the rules of a switch, wants these actions for what they are applied to, where these ports take the place of FLOOD and ALL
pub record WantedActions : Type 0 where
  pub rules : List Rule
  pub slot : ℕ
  pub origin : Origin
  pub actions : List Action
  pub flood : List ℕ
  pub all : List ℕ

-- each field is in its range, and the ports are the slice's own
pub record AreWantedInRange (wanted : WantedActions) : Type 0 where
  pub origin : IsOrigin wanted.origin
  pub actions : All IsAction wanted.actions
  pub flood : All (HasPort wanted.rules wanted.slot) wanted.flood
  pub all : All (HasPort wanted.rules wanted.slot) wanted.all

-- the list that it has instead, or the code of the fault
abbrev pub answer_to_wanted : WantedActions → Result (List Action) ℕ
answer_to_wanted wanted = permitted wanted.rules wanted.slot wanted.origin wanted.actions wanted.flood wanted.all
