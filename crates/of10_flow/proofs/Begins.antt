-- Actions that are read begin with one that is right, where there is one.
use Rattle.std.proofs.Common.{◌≡◌, ℕ, true, List, [], ◌∷◌, Ok, refl, ap}
use Rattle.std.specs.Prelude.{is_ok}
use Rattle.of10_model.proofs.Results.{bind_ok}
use Rattle.of10_action.specs.declared.action.Action.{Action}
use Rattle.of10_action.specs.Reading.{action_at, actions_at, read_all}
use Rattle.of10_flow.specs.PacketOuts.{begins_well}

pub begins : (bytes : List ℕ) (actions : List Action) → read_all bytes ≡ Ok actions → begins_well bytes ≡ true
unfolding actions_at
begins [] actions e = refl
begins (byte ∷ bytes) actions e = ap is_ok (bind_ok (action_at (byte ∷ bytes)) _ actions e).1
