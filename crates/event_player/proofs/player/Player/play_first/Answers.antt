use Rattle.std.proofs.Common.{◌==◌, Option, subst}
use Rattle.flowspace.specs.Policies.{PolicyView}
use Rattle.recording.specs.Recordings.{switch_up}
use Rattle.desk_words.specs.Recorded.{told_by}
use Rattle.event_player.specs.declared.switch.Switch.{Switch}
use Rattle.event_player.specs.Switches.{IsFreshSwitch, IsAt}
use Rattle.event_player.proofs.Recorded.{played_none, played_on}
use Rattle.event_player.proofs.Running.{found_fresh}
use Rattle.event_player.proofs.player.Player.play_first.Goals as goal

pub returns-in_err-switch : goal.returns-in_err-switch
returns-in_err-switch g c = λ p number before is known. played_none g.T.Teller.Tells p number (told_by c.args.item.now c.args.bytes.now) before c.from_residual.result c.args.self.now c.from_residual.ensures.1

pub returns-in_err-play_record : goal.returns-in_err-play_record
returns-in_err-play_record g c = λ p number before is known.
    let r = told_by c.args.item.now c.args.bytes.now in
    let none = subst (λ (k : Option Switch). IsAt p r.switch before k) c.requires.unknown known in
    let fresh = subst (λ (q : PolicyView). IsFreshSwitch q c.in_ok-switch.switch) is.policy c.in_ok-switch.ensures in
    played_on g.T.Teller.Tells p number r before _ c.from_residual-in_err-play_record.result c.args.self.now c.play_record.new.self c.from_residual-in_err-play_record.ensures.1
    (c.in_err-play_record.ensures p number before is (found_fresh p r before c.in_ok-switch.switch (r.kind == switch_up) none fresh))

pub returns : goal.returns
returns g c = λ p number before is known.
    let r = told_by c.args.item.now c.args.bytes.now in
    let none = subst (λ (k : Option Switch). IsAt p r.switch before k) c.requires.unknown known in
    let fresh = subst (λ (q : PolicyView). IsFreshSwitch q c.in_ok-switch.switch) is.policy c.in_ok-switch.ensures in
    c.in_ok-play_record.ensures p number before is (found_fresh p r before c.in_ok-switch.switch (r.kind == switch_up) none fresh)
