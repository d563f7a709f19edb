-- What is looked at before it is copied.
use Rattle.std.proofs.Common.{◌≡◌, ◌≤◌, ℕ, true, true≢false, List, [], ◌∷◌, length, Result, Ok, sym, ap, subst, ◌∙◌, arith}
use Rattle.std.specs.Prelude.{is_ok}
use Rattle.std.specs.List.{All}
use Rattle.of10_model.proofs.Results.{bind_ok}
use Rattle.of10_action.specs.declared.action.Action.{Action}
use Rattle.of10_action.specs.declared.fault.WireFault.{WireFault}
use Rattle.of10_action.specs.Actions.{IsAction}
use Rattle.of10_action.specs.Reading.{head_at, action_at, actions_at, actions_in, read_all, list_given}

-- what is read are the actions of the bytes
pub are_in : (bytes : List ℕ) (actions : List Action) → read_all bytes ≡ Ok actions → read_all bytes ≡ Ok (actions_in bytes)
are_in bytes actions e = e ∙ ap (λ (read : Result (List Action) WireFault). Ok (list_given read)) (sym e)

-- and they are right where these are
pub right_in : (bytes : List ℕ) (actions : List Action) → read_all bytes ≡ Ok actions → All IsAction actions → All IsAction (actions_in bytes)
right_in bytes actions e right = subst (λ (read : Result (List Action) WireFault). All IsAction (list_given read)) (sym e) right

-- bytes that begin with an action spell one at least
pub some_action : (bytes : List ℕ) (actions : List Action) → read_all bytes ≡ Ok actions → is_ok (action_at bytes) ≡ true → 1 ≤ length actions
unfolding actions_at action_at head_at
some_action [] actions e begins = absurd (true≢false (sym begins))
some_action (byte ∷ bytes) actions e begins =
    let first = bind_ok (action_at (byte ∷ bytes)) _ actions e in
    let others = bind_ok (actions_at (length bytes) first.0.1) (λ others. Ok (first.0.0 ∷ others)) actions first.2 in
    let is : first.0.0 ∷ others.0 ≡ actions = let h = others.2 in cc in
    subst (λ (l : List Action). 1 ≤ length l) is (omega arith)
