use Rattle.std.proofs.Common.{◌≡◌, List, length}
use Rattle.std.specs.List.{All}
use Rattle.of10_model.proofs.Results.{with_front}
use Rattle.of10_action.specs.declared.action.Action.{Action}
use Rattle.of10_action.specs.Actions.{IsAction}
use Rattle.of10_action.specs.Reading.{read_all}
use Rattle.of10_action.proofs.view.look.Given as goal

-- what was looked at are actions, and those behind them make the whole
abbrev pub invariant-loop-rest : goal.invariant-loop-rest
invariant-loop-rest l = record {
  so_far : (front : List Action) × All IsAction front × (with_front front (read_all l.rest) ≡ read_all l.fn.bytes);
}

abbrev pub decreases-loop-rest : goal.decreases-loop-rest
decreases-loop-rest l = length l.rest
