use Rattle.std.proofs.Common.{subst, sym}
use Rattle.flowspace.specs.Policies.{PolicyView}
use Rattle.desk_words.specs.Recorded.{told_by}
use Rattle.event_player.specs.Switches.{SwitchStands, IsFound}
use Rattle.event_player.proofs.Recorded.{played_none}
use Rattle.event_player.proofs.player.Player.play_again.Goals as goal

pub returns-in_err-renew : goal.returns-in_err-renew
returns-in_err-renew g c = λ p number before is stands. played_none g.T.Teller.Tells p number (told_by c.args.item.now c.args.bytes.now) before c.from_residual.result c.args.self.now c.from_residual.ensures.1

pub returns : goal.returns
returns g c = λ p number before is stands.
    let item = c.args.item.now in
    let r = told_by item c.args.bytes.now in
    c.play_record.ensures p number before is
    (subst (λ (q : PolicyView). IsFound q r before c.renew.new.self) is.policy (c.in_ok-renew.ensures c.args.bytes.now before (subst (λ (q : PolicyView). SwitchStands q item.switch before c.args.switch.now) (sym is.policy) stands)))
