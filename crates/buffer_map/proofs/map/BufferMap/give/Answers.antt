use Rattle.std.proofs.Common.{◌+◌, arith}
use Rattle.buffer_map.proofs.Places.{few}
use Rattle.buffer_map.proofs.Index.{IsIndex-add}
use Rattle.buffer_map.proofs.Standing.{BuffersStand-give}
use Rattle.buffer_map.proofs.map.BufferMap.give.Goals as goal

pub add-requires : goal.add-requires
add-requires c =
    let order = rw (← c.forget_oldest.ensures.given, ← c.self.view_is) at c.forget_oldest.ensures.order in
    omega (arith, c.self.invariant.1.same_length, few (c.self.inside.given + 1) c.self.inside.given c.self.inside.packets.items order (omega arith))

pub push_front_reserved-requires : goal.push_front_reserved-requires
push_front_reserved-requires c =
    let order = rw (← c.forget_oldest.ensures.given, ← c.self.view_is) at c.forget_oldest.ensures.order in
    omega (arith, c.self.inside.packets.ok.0, c.self.invariant.2, few (c.self.inside.given + 1) c.self.inside.given c.self.inside.packets.items order (omega arith))

pub invariant_of-self : goal.invariant_of-self
invariant_of-self c =
    let order = rw (← c.forget_oldest.ensures.given, ← c.self.view_is) at c.forget_oldest.ensures.order in (
      rw c.push_front_reserved.ensures.items (omega arith, omega arith, order),
      rw c.push_front_reserved.ensures.items (IsIndex-add c.self.inside.physicals c.add.new.self c.self.inside.packets.items _ c.self.invariant.1 c.add.ensures),
      omega (arith, c.self.invariant.2, c.push_front_reserved.ensures.capacity),
    )

pub returns-clause-stands : goal.returns-clause-stands
returns-clause-stands c calls s =
    rw c.push_front_reserved.ensures.items
    (BuffersStand-give c.args.self.now calls c.args.physical c.args.header c.self.inside.given c.self.inside.packets.items s
    (rw (← c.self.view_is) at c.forget_oldest.ensures.given) (rw (← c.self.view_is) at c.forget_oldest.ensures.held))
