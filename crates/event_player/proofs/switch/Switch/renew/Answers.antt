use Rattle.desk_words.specs.Recorded.{told_by}
use Rattle.event_player.proofs.Running.{up_found, other_found}
use Rattle.event_player.proofs.switch.Switch.renew.Goals as goal

pub returns-then-item-ne-SWITCH_UP : goal.returns-then-item-ne-SWITCH_UP
returns-then-item-ne-SWITCH_UP c = λ bytes before stands. other_found c.args.policy.now (told_by c.args.item.now bytes) before c.args.self.now c.if-item-ne-SWITCH_UP.true stands

pub returns : goal.returns
returns c = λ bytes before stands. up_found c.args.policy.now (told_by c.args.item.now bytes) before c.begin_anew.new.self c.if-item-ne-SWITCH_UP.false c.in_ok-begin_anew.ensures
