use Rattle.std.proofs.Common.{ℕ, Option, subst, sym}
use Rattle.event_player.specs.Telling.{says, state_lines}
use Rattle.event_player.specs.Players.{HasTold}
use Rattle.event_player.proofs.player.Player.put_state.Goals as goal

pub returns-in-Some : goal.returns-in-Some
returns-in-Some g c = λ scene h is quiet.
    subst (λ (speaking : Option ℕ). HasTold (says g.T.Teller.Tells) scene (Unit {0}) c.put_close.result (state_lines scene.policy scene.place h speaking c.args.closed) c.args.self.now c.put_close.new.self) (sym c.in-Some.is) (c.put_close.ensures scene is)

pub returns-in-None : goal.returns-in-None
returns-in-None g c = λ scene h is quiet.
    subst (λ (speaking : Option ℕ). HasTold (says g.T.Teller.Tells) scene (Unit {0}) c.put_end.result (state_lines scene.policy scene.place h speaking c.args.closed) c.args.self.now c.put_end.new.self) (sym c.in-None.is) (c.put_end.ensures scene h is quiet)
