use Rattle.event_player.proofs.Numbered.{desk_at, none_at, none_past}
use Rattle.event_player.proofs.desks.PlayedDesks.desk.Goals as goal

pub returns-in-Some-Some-clause-stands : goal.returns-in-Some-Some-clause-stands
returns-in-Some-Some-clause-stands c = λ p records stands.
    desk_at p records c.args.self.now c.deref.result.now c.args.number c.from.result c.in-Some-Some.field-0.now c.in-Some-Some.switch c.in-Some-Some.field-0-is c.deref.ensures.value c.from.ensures c.in-Some-Some.ensures.lookup.0 c.in-Some-Some.ensures.lookup.1 stands

pub returns-in-Some-None-clause-untouched : goal.returns-in-Some-None-clause-untouched
returns-in-Some-None-clause-untouched c = λ p records stands.
    none_at p records c.args.self.now c.deref.result.now c.args.number c.from.result c.in-Some-None.field-0.now c.in-Some-None.field-0-is c.deref.ensures.value c.from.ensures c.in-Some-None.ensures.lookup.0 c.in-Some-None.ensures.lookup.1 stands

pub returns-in-None-clause-untouched : goal.returns-in-None-clause-untouched
returns-in-None-clause-untouched c = λ p records stands.
    none_past p records c.args.self.now c.deref.result.now c.args.number c.from.result c.requires c.deref.ensures.value c.from.ensures c.in-None.ensures.lookup.0 stands
