use Rattle.std.proofs.Common.{◌≡◌, length, ap, refl, inl, inr, arith}
use Rattle.outbox.proofs.Keeping.{stands-dropped, stands-kept}
use Rattle.outbox.proofs.queue.Outbox.push.Goals as goal
use Rattle.outbox.proofs.queue.Outbox.push.Goals.{then-self-via-then-self, then-self-via-else-self+then-size-saturating_sub}

pub returns-then-self-clause-stands : goal.returns-then-self-clause-stands
returns-then-self-clause-stands c limit q s =
    let long : length c.as_slice.result.now ≡ length c.args.frame = ap length c.as_slice.ensures.value in
    stands-dropped limit q _ c.args.frame (rw (← c.self.view_is) at s) (elim c.then-self.branch [
      | then-self-via-then-self w ↦ inl w.if-self.true
      | then-self-via-else-self+then-size-saturating_sub w ↦ inr (omega arith)
    ])

pub returns-clause-stands : goal.returns-clause-stands
returns-clause-stands c limit q s =
    let long : length c.as_slice.result.now ≡ length c.args.frame = ap length c.as_slice.ensures.value in
    let header = c.as_slice.ensures.frame.header in
    stands-kept limit q _ _ c.args.frame (rw (← c.self.view_is) at s) c.if-self.false (omega arith) (omega arith)
    c.push_back_reserved.ensures.items c.if-self.false (omega arith) refl
