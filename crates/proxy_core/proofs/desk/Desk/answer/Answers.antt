use Rattle.std.proofs.Common.{refl}
use Rattle.std.proofs.lemmas.Result.{err_from_is_err_and}
use Rattle.proxy_core.proofs.Sliced.{stays_same}
use Rattle.proxy_core.proofs.Switched.{begun_answers}
use Rattle.proxy_core.proofs.desk.Desk.answer.Goals as goal

pub returns-in_err-make_room-clause-err : goal.returns-in_err-make_room-clause-err
returns-in_err-make_room-clause-err c =
    let p = err_from_is_err_and c.from_residual.result c.from_residual.ensures.1 in
    rw p.1 (stays_same c.args.self.now _ refl refl c.make_room.ensures.stands refl)

pub returns-clause-ok : goal.returns-clause-ok
returns-clause-ok c moment message said is good none answers =
    begun_answers c.args.self.now _ c.args.messages.items moment message said refl refl (λ limit q h. c.push_all.ensures limit q (c.make_room.ensures.stands limit q h)) refl is good none answers
