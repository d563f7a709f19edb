use Rattle.flowspace.proofs.Placing.{places_within, no_places}
use Rattle.flowspace.proofs.switch.SwitchPolicy.write_places.Goals as goal

pub returns-in-Some-clause-within : goal.returns-in-Some-clause-within
returns-in-Some-clause-within c = rw c.deref.ensures.value (places_within c.args.self.now.rules c.args.slot c.in-Some.own.now.places.items c.in-Some.ensures.some.at_places)

pub returns-in-None-clause-value : goal.returns-in-None-clause-value
returns-in-None-clause-value c = no_places c.args.self.now.rules c.args.slot c.in-None.ensures.none
