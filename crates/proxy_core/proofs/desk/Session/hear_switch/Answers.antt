use Rattle.std.proofs.Common.{length, refl, sym, ap, subst, ◌∙◌}
use Rattle.switch_side.specs.Changes.{StandOn}
use Rattle.switch_side.specs.Dispatches.{Surrounds, AllStand}
use Rattle.switch_side.proofs.Making.{none_stand}
use Rattle.std.proofs.lemmas.Result.{err_from_is_err_and}
use Rattle.proxy_core.proofs.Switched.{kept_queues, all_stand_on, stands_back, carried_out, closed_bad}
use Rattle.proxy_core.proofs.desk.Session.hear_switch.Goals as goal

pub returns-then-dispatch-clause-ok : goal.returns-then-dispatch-clause-ok
returns-then-dispatch-clause-ok c moment p switch sides qs open_ numbered s = (
  closed_bad moment c.args.frame.now c.args.self.now p switch sides qs c.react_in.new.spare.dispatch open_ numbered s
      (λ p2 switch2 sides2 moment2 around stand numbered2. c.in_ok-react_in.ensures.dispatch p2 switch2 sides2 moment2 (subst (λ v. Surrounds p2 switch2 v c.args.self.now.ports) (sym c.policy-2.ensures) around) (subst (AllStand p2 switch2 sides2) (sym c.deref.ensures.value) stand) numbered2) c.if-dispatch.true,
  record { told = s.told; slices = s.slices; rules = s.rules; swaps = s.swaps; known = s.known; states_count = s.states_count; queues_count = s.queues_count; each = s.each },
  refl,
)

pub returns-in_err-make_rooms-clause-err : goal.returns-in_err-make_rooms-clause-err
returns-in_err-make_rooms-clause-err c =
    let p = err_from_is_err_and c.from_residual-in_err-make_rooms.result c.from_residual-in_err-make_rooms.ensures.1 in
    rw p.1 (kept_queues c.args.self.now _ refl refl (none_stand c.args.self.now.states.items) refl c.make_rooms.ensures.same)

pub returns-in_err-reserve-clause-err : goal.returns-in_err-reserve-clause-err
returns-in_err-reserve-clause-err c =
    let p = err_from_is_err_and c.from_residual-in_err-reserve.result c.from_residual-in_err-reserve.ensures.1 in
    let old = c.args.self.now.states.items in
    let on = subst (λ before. StandOn before c.reserve.new.states) c.deref_mut.ensures.value c.reserve.ensures.stands in
    rw p.1 (kept_queues c.args.self.now _ refl refl (stands_back old c.reserve.new.states c.args.self.now.states.len on (sym c.deref_mut.ensures.len ∙ ap length c.deref_mut.ensures.value)) refl c.make_rooms.ensures.same)

pub returns-in_err-keep-clause-err : goal.returns-in_err-keep-clause-err
returns-in_err-keep-clause-err c =
    let p = err_from_is_err_and c.from_residual-in_err-keep.result c.from_residual-in_err-keep.ensures.1 in
    let old = c.args.self.now.states.items in
    let on = subst (λ before. StandOn before c.reserve.new.states) c.deref_mut.ensures.value c.reserve.ensures.stands in
    rw p.1
    (kept_queues c.args.self.now _ refl refl (stands_back old c.reserve.new.states c.args.self.now.states.len on (sym c.deref_mut.ensures.len ∙ ap length c.deref_mut.ensures.value))
    c.in_err-keep.ensures.err c.make_rooms.ensures.same)

pub returns-clause-ok : goal.returns-clause-ok
returns-clause-ok c moment p switch sides qs open_ numbered s =
    let old = c.args.self.now.states.items in
    let on = subst (λ before. StandOn before c.reserve.new.states) c.deref_mut.ensures.value c.reserve.ensures.stands in
    let back = stands_back old c.reserve.new.states c.args.self.now.states.len on (sym c.deref_mut.ensures.len ∙ ap length c.deref_mut.ensures.value) in
    carried_out moment c.args.frame.now c.args.self.now _ c.args.lane.now c.push_more.new.waiting c.make_rooms.new.queues.items p switch sides qs c.react_in.new.spare.dispatch open_ numbered s
    (λ p2 switch2 sides2 moment2 around stand numbered2. c.in_ok-react_in.ensures.dispatch p2 switch2 sides2 moment2 (subst (λ v. Surrounds p2 switch2 v c.args.self.now.ports) (sym c.policy-2.ensures) around) (subst (AllStand p2 switch2 sides2) (sym c.deref.ensures.value) stand) numbered2) c.if-dispatch.false
    refl refl (c.apply_all.ensures.count ∙ back.count)
    (λ all changes. c.apply_all.ensures.stands p switch sides moment c.args.frame.now (all_stand_on p switch sides old _ back all) changes)
    c.in_ok-keep.ensures.ok c.make_rooms.ensures.same c.hand_out.ensures.handed (λ limit q h. c.push_more.ensures.more limit q (c.make_room.ensures.stands limit q h))
