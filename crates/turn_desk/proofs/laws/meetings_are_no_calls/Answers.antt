use Rattle.turn_desk.proofs.Making.{made_nothing}
use Rattle.turn_desk.proofs.laws.meetings_are_no_calls.Goals as goal

pub returns : goal.returns
returns g c = made_nothing g.O.Object.acts
