use Rattle.std.proofs.Common.{◌∷◌, [], sym, ◌∙◌, ap, subst}
use Rattle.answer_bounds.specs.Bounds.{IsFramed}
use Rattle.desk_words.specs.declared.event.Event.{Event}
use Rattle.event_player.specs.Plays.{event_from, Plays}
use Rattle.event_player.proofs.Playing.{framed_from, played_none}
use Rattle.event_player.proofs.player.Player.hear_one.Goals as goal
use Rattle.desk_words.specs.Recorded.{happens}

pub returns-then-not-happens : goal.returns-then-not-happens
returns-then-not-happens g c = λ scene h is quiet framed.
    played_none g.T.Teller.Tells scene h (event_from c.args.from c.args.frame) c.args.self.now c.args.desk.now (sym (c.happens.ensures scene.policy h c.args.frame quiet) ∙ c.if-not-happens.true) is quiet framed

pub returns : goal.returns
returns g c = λ scene h is quiet framed.
    let same = c.event_from.ensures in
    let heard = sym (c.happens.ensures scene.policy h c.args.frame quiet) ∙ c.if-not-happens.false in
    subst (λ (e : Event). Plays g.T.Teller.Tells scene h (e ∷ []) c.play.result c.args.self.now c.play.new.self c.play.new.desk) same
    (c.play.ensures scene h is quiet framed (subst IsFramed (sym same) (framed_from c.args.from c.args.frame c.requires)) (ap (happens scene.policy h) same ∙ heard))
