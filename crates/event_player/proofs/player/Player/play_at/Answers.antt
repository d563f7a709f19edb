use Rattle.std.proofs.Common.{Option, subst}
use Rattle.event_player.specs.declared.switch.Switch.{Switch}
use Rattle.event_player.specs.Switches.{IsAt}
use Rattle.event_player.proofs.player.Player.play_at.Goals as goal

pub returns-in-Some : goal.returns-in-Some
returns-in-Some g c = λ p number before is known. c.play_again.ensures p number before is (subst (λ (k : Option Switch). IsAt p c.args.item.now.switch before k) c.in-Some.is known)

pub returns-in-None : goal.returns-in-None
returns-in-None g c = λ p number before is known. c.play_first.ensures p number before is known
