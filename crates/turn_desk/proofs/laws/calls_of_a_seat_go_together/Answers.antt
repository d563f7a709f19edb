use Rattle.turn_desk.proofs.Making.{made_one, made_more}
use Rattle.turn_desk.proofs.laws.calls_of_a_seat_go_together.Goals as goal

pub returns-clause-one : goal.returns-clause-one
returns-clause-one g c = made_one g.O.Object.acts

pub returns-clause-more : goal.returns-clause-more
returns-clause-more g c = made_more g.O.Object.acts
