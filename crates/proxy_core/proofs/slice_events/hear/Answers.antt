use Rattle.std.proofs.Common.{List, ℕ, ap, not, subst}
use Rattle.proxy_core.specs.Slots.{HasMore}
use Rattle.proxy_core.proofs.slice_events.hear.Goals as goal

pub returns-clause-ok : goal.returns-clause-ok
returns-clause-ok c s sight stands sees =
    let is = c.in_ok-reaction.ensures.reaction s sight stands sees in
    record {
      stands = c.apply.ensures s sight _ (c.in_ok-reserve.ensures.stands s sight stands) is.change;
      to_slice = subst (λ (m : List (List ℕ)). HasMore m c.args.queue.now c.push_all.new.waiting) is.to_slice (λ limit q h. c.push_all.ensures limit q (c.make_room.ensures.stands limit q h));
      to_switch = subst (λ (m : List (List ℕ)). HasMore m c.args.lane.now c.push_all-2.new.waiting) is.to_switch (λ limit q h. c.push_all-2.ensures limit q (c.make_room-2.ensures.stands limit q h));
      goes_on = ap not is.close;
    }
