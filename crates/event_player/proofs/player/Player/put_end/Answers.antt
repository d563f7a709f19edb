use Rattle.std.proofs.Common.{sym, ◌∙◌, Bool, if◌then◌else◌, [], ◌∷◌, subst, Ok}
use Rattle.desk_words.specs.Reports.{down_line}
use Rattle.event_player.specs.Telling.{says}
use Rattle.event_player.specs.Players.{HasTold}
use Rattle.event_player.proofs.Players.{told_nothing}
use Rattle.event_player.proofs.player.Player.put_end.Goals as goal

pub returns-then-not-has_ended : goal.returns-then-not-has_ended
returns-then-not-has_ended g c = λ scene h is quiet.
    subst (λ (b : Bool). HasTold {A = Unit {0}} (says g.T.Teller.Tells) scene (Unit {0}) (Ok tt) (if b then down_line scene.place ∷ [] else []) c.args.self.now c.args.self.now) (sym c.if-not-has_ended.true ∙ c.has_ended.ensures scene.policy h quiet)
    (told_nothing (says g.T.Teller.Tells) scene tt c.args.self.now is tt)

pub returns : goal.returns
returns g c = λ scene h is quiet.
    subst (λ (b : Bool). HasTold (says g.T.Teller.Tells) scene (Unit {0}) c.say.result (if b then down_line scene.place ∷ [] else []) c.args.self.now c.say.new.self) (sym c.if-not-has_ended.false ∙ c.has_ended.ensures scene.policy h quiet)
    (c.say.ensures scene is)
