use Rattle.action_check.proofs.Ways.{permitted-IsSound}
use Rattle.action_check.proofs.laws.permitted_lists_are_sound.Goals as goal

pub returns : goal.returns
returns c = λ slices q policy range given e. permitted-IsSound slices q.rules policy q.slot q.origin range.origin q.actions range.actions q.flood q.all range.flood range.all given e
