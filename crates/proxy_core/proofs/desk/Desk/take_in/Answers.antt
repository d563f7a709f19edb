use Rattle.desk_words.specs.declared.event.Event.TheVariants.{SwitchMsg}
use Rattle.proxy_core.proofs.Sliced.{acts_stays}
use Rattle.proxy_core.proofs.desk.Desk.take_in.Goals as goal

pub returns-clause-ok : goal.returns-clause-ok
returns-clause-ok c moment =
    acts_stays c.args.self.now c.hear_switch.new.self c.keep.new.self (record { event = SwitchMsg c.args.frame; moment = moment }) c.in_ok-go.go (c.in_ok-go.ensures.ok moment) c.keep.ensures.stays
