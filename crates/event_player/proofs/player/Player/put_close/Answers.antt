use Rattle.std.proofs.Common.{[], ◌∷◌, ap, ◌∙◌, Ok}
use Rattle.flowspace.specs.Policies.{PolicyView}
use Rattle.desk_words.specs.Reports.{name_at, Line, Close, closed_lines}
use Rattle.event_player.specs.Telling.{says}
use Rattle.event_player.proofs.Players.{told_nothing, told_as}
use Rattle.event_player.proofs.Turning.{no_close, one_closed}
use Rattle.event_player.proofs.player.Player.put_close.Goals as goal

pub returns-then-not-closed : goal.returns-then-not-closed
returns-then-not-closed g c = λ scene is.
    let lines = closed_lines scene.policy scene.place c.args.slot c.args.closed in
    told_as (says g.T.Teller.Tells) scene (Ok tt) [] lines c.args.self.now c.args.self.now (no_close scene.policy scene.place c.args.slot c.args.closed c.if-not-closed.true) (told_nothing (says g.T.Teller.Tells) scene tt c.args.self.now is tt)

pub returns : goal.returns
returns g c = λ scene is.
    let line : Line = record { place = scene.place; saying = Close c.name_of-name.result.now } in
    told_as (says g.T.Teller.Tells) scene c.say.result (line ∷ []) (closed_lines scene.policy scene.place c.args.slot c.args.closed) c.args.self.now c.say.new.self
    (one_closed scene.policy scene.place c.args.slot c.name_of-name.result.now c.args.closed c.if-not-closed.false (c.name_of-name.ensures ∙ ap (λ (p : PolicyView). name_at p.slices c.args.slot) is.policy)) (c.say.ensures scene is)
