use Rattle.std.proofs.Common.{List, ℕ, refl, ap, subst}
use Rattle.of10_port.specs.declared.features.Features.{Features}
use Rattle.of10_port.specs.Features.{features_of}
use Rattle.desk_words.specs.Openings.{features_said}
use Rattle.proxy_core.specs.Opening.{Begins}
use Rattle.proxy_core.specs.Slots.{HasMore}
use Rattle.std.proofs.lemmas.Result.{err_from_is_err_and}
use Rattle.proxy_core.proofs.Sliced.{stays_same}
use Rattle.proxy_core.proofs.Switched.{opened}
use Rattle.proxy_core.proofs.desk.Desk.open.Goals as goal

pub returns-clause-ok : goal.returns-clause-ok
returns-clause-ok c moment message told =
    opened c.args.self.now _ moment message (features_of c.args.told.now) c.in_ok-session.session refl refl
    (subst (λ (m : List (List ℕ)). HasMore m c.args.self.now.lane c.push_all.new.waiting) c.in_ok-messages.ensures (λ limit q h. c.push_all.ensures limit q (c.make_room.ensures.stands limit q h))) refl
    (ap features_said told) (subst (λ (features : Features). Begins c.args.self.now.policy features c.in_ok-session.session) c.in_ok-features.ensures.value c.in_ok-session.ensures)

pub returns-in_err-make_room-clause-err : goal.returns-in_err-make_room-clause-err
returns-in_err-make_room-clause-err c =
    let p = err_from_is_err_and c.from_residual-in_err-make_room.result c.from_residual-in_err-make_room.ensures.1 in
    rw p.1 (stays_same c.args.self.now _ refl refl c.make_room.ensures.stands refl)
