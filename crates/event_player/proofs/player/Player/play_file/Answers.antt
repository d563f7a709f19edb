use Rattle.desk_words.specs.Recorded.{told_in}
use Rattle.event_player.proofs.Running.{running_none}
use Rattle.event_player.proofs.player.Player.play_file.Goals as goal

pub returns-in_err-switches : goal.returns-in_err-switches
returns-in_err-switches g c = λ items read. running_none g.T.Teller.Tells c.args.self.now.policy.now (told_in c.args.file.now items) c.from_residual.result c.args.self.now c.from_residual.ensures.1
