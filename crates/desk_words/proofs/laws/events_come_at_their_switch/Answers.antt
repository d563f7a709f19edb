use Rattle.desk_words.proofs.Making.{gets_the_first, at_their_switch}
use Rattle.desk_words.proofs.laws.events_come_at_their_switch.Goals as goal

pub returns-clause-order : goal.returns-clause-order
returns-clause-order c = gets_the_first

pub returns-clause-place : goal.returns-clause-place
returns-clause-place c = at_their_switch
