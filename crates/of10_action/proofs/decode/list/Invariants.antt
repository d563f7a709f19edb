use Rattle.std.proofs.Common.{◌≡◌, ◌⊎◌, true, length}
use Rattle.std.specs.Prelude.{is_ok}
use Rattle.std.specs.List.{All}
use Rattle.of10_model.proofs.Results.{with_front}
use Rattle.of10_action.specs.Actions.{IsAction, HasAddress}
use Rattle.of10_action.specs.Reading.{action_at, read_all}
use Rattle.of10_action.proofs.decode.list.Given as goal

abbrev pub invariant-loop-rest : goal.invariant-loop-rest
invariant-loop-rest l = record {
  so_far : with_front l.actions.items (read_all l.rest) ≡ read_all l.fn.bytes;
  begun : (l.rest ≡ l.fn.bytes) ⊎ (is_ok (action_at l.fn.bytes) ≡ true);
  range : All IsAction l.actions.items;
  address : All HasAddress l.actions.items;
}

abbrev pub decreases-loop-rest : goal.decreases-loop-rest
decreases-loop-rest l = length l.rest
