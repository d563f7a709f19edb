use Rattle.turn_desk.proofs.Making.{acted}
use Rattle.turn_desk.proofs.laws.replies_are_allowed.Goals as goal

pub returns : goal.returns
returns g c = acted g.O.Object.acts
