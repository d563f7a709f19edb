use Rattle.std.proofs.Common.{[]}
use Rattle.live_desk.proofs.Following.{all_turns}
use Rattle.live_desk.proofs.laws.desks_stand_for_their_turns.Goals as goal

pub returns : goal.returns
returns c = λ policy opening last turns stands runs. all_turns policy [] opening last turns stands tt runs
