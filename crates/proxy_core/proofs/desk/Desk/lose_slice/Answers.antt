use Rattle.std.proofs.Common.{Bool, refl, sym, subst}
use Rattle.desk_words.specs.declared.event.Event.TheVariants.{SliceDown}
use Rattle.proxy_core.specs.Desks.{Acts}
use Rattle.proxy_core.proofs.Events.{none_down}
use Rattle.proxy_core.proofs.Sliced.{went}
use Rattle.proxy_core.proofs.desk.Desk.lose_slice.Goals as goal

pub returns-in-Some-clause-acts : goal.returns-in-Some-clause-acts
returns-in-Some-clause-acts c moment = went c.args.self.now _ c.in-Some.session c.go.new.self c.args.slot moment c.go.result c.in-Some.is refl refl refl refl c.go.ensures.value c.go.ensures.change

pub returns-in-None-clause-acts : goal.returns-in-None-clause-acts
returns-in-None-clause-acts c moment =
    subst (λ (go : Bool). Acts c.args.self.now (record { event = SliceDown c.args.slot; moment = moment }) go c.args.self.now) (sym c.is_begun_with.ensures) (none_down c.args.self.now c.args.slot moment c.in-None.is)
