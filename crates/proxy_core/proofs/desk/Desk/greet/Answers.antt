use Rattle.std.proofs.Common.{List, ℕ, refl, subst}
use Rattle.proxy_core.specs.Slots.{HasMore}
use Rattle.proxy_core.proofs.Events.{greeted}
use Rattle.proxy_core.proofs.desk.Desk.greet.Goals as goal

pub returns-clause-ok : goal.returns-clause-ok
returns-clause-ok c moment =
    greeted c.args.self.now _ moment refl c.connected-self.ensures
    (subst (λ (m : List (List ℕ)). HasMore m c.args.self.now.lane c.push_all.new.waiting) c.in_ok-messages.ensures (λ limit q h. c.push_all.ensures limit q (c.make_room.ensures.stands limit q h))) refl
