use Rattle.std.proofs.Common.{◌+◌, ◌∷◌, subst, sym, arith}
use Rattle.std.specs.List.Sorted.{IsPermutation}
use Rattle.std.proofs.lemmas.List.Sorted.{IsPermutation-to_front}
use Rattle.buffer_map.specs.Buffers.{is_recent}
use Rattle.buffer_map.specs.Places.{IsInOrder}
use Rattle.buffer_map.proofs.Places.{IsInOrder-filter, IsInOrder-recent, oldest_forgotten, filter_all}
use Rattle.buffer_map.proofs.Index.{IsIndex-remove}
use Rattle.buffer_map.proofs.map.BufferMap.forget_oldest.Goals as goal

pub invariant_of-self : goal.invariant_of-self
invariant_of-self c =
    let count = c.self.inside.given in
    let xs = c.self.inside.packets.items in
    let ys = c.pop_back.new.self.items in
    let z = c.in-Some.oldest in
    let kept = oldest_forgotten count xs ys z c.self.invariant.0 c.in-Some.ensures.items c.if-is_oldest_past.ensures in
    let moved = subst (λ l. IsPermutation l (z ∷ ys)) (sym c.in-Some.ensures.items) (IsPermutation-to_front ys z) in (
      subst (IsInOrder count count) (sym kept) (IsInOrder-filter (is_recent (count + 1)) count count xs c.self.invariant.0),
      IsIndex-remove c.self.inside.physicals c.remove.new.self xs ys z c.self.invariant.1 moved c.remove.ensures,
      omega (arith, c.self.invariant.2, c.pop_back.ensures.capacity),
    )

pub returns-in-Some-clause-held : goal.returns-in-Some-clause-held
returns-in-Some-clause-held c =
    rw (← c.self.view_is)
    (oldest_forgotten c.self.inside.given c.self.inside.packets.items c.pop_back.new.self.items c.in-Some.oldest c.self.invariant.0 c.in-Some.ensures.items c.if-is_oldest_past.ensures)

pub returns-in-Some-clause-order : goal.returns-in-Some-clause-order
returns-in-Some-clause-order c =
    let count = c.self.inside.given in
    let xs = c.self.inside.packets.items in
    let kept = oldest_forgotten count xs c.pop_back.new.self.items c.in-Some.oldest c.self.invariant.0 c.in-Some.ensures.items c.if-is_oldest_past.ensures in
    rw (← c.self.view_is) (subst (IsInOrder (count + 1) count) (sym kept) (IsInOrder-recent count count xs c.self.invariant.0))

pub returns-else-is_oldest_past-clause-held : goal.returns-else-is_oldest_past-clause-held
returns-else-is_oldest_past-clause-held c =
    rw (← c.self.view_is) (sym (filter_all (is_recent (c.self.inside.given + 1)) c.self.inside.packets.items (sym c.if-is_oldest_past.ensures)))

pub returns-else-is_oldest_past-clause-order : goal.returns-else-is_oldest_past-clause-order
returns-else-is_oldest_past-clause-order c =
    let count = c.self.inside.given in
    let xs = c.self.inside.packets.items in
    let all = filter_all (is_recent (count + 1)) xs (sym c.if-is_oldest_past.ensures) in
    rw (← c.self.view_is) (subst (IsInOrder (count + 1) count) all (IsInOrder-recent count count xs c.self.invariant.0))
