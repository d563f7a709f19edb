use Rattle.std.proofs.Common.{not, ◌==◌, rules, arith, sym}
use Rattle.std.proofs.lemmas.Fn.{filter_same}
use Rattle.buffer_map.specs.declared.held.Held.{Held}
use Rattle.buffer_map.proofs.Places.{IsInOrder-filter}
use Rattle.buffer_map.proofs.Index.{IsIndex-lose, none_lost}
use Rattle.buffer_map.proofs.Standing.{BuffersStand-lose}
use Rattle.buffer_map.proofs.map.BufferMap.lose.Goals as goal

pub invariant_of-self : goal.invariant_of-self
invariant_of-self c =
    let left = filter_same _ (λ (b : Held). not (b.physical == c.args.physical)) _ (λ x b f' k. search rules) _ _ c.retain.ensures.filtered in (
      rw left (IsInOrder-filter (λ b. not (b.physical == c.args.physical)) c.self.inside.given c.self.inside.given c.self.inside.packets.items c.self.invariant.0),
      rw (left, c.remove_all.ensures) (IsIndex-lose c.self.inside.physicals c.self.inside.packets.items c.args.physical c.self.invariant.1),
      omega (arith, c.self.invariant.2, c.retain.ensures.capacity),
    )

pub returns-then-contains-clause-held : goal.returns-then-contains-clause-held
returns-then-contains-clause-held c =
    rw (← c.self.view_is) (filter_same _ (λ (b : Held). not (b.physical == c.args.physical)) _ (λ x b f' k. search rules) _ _ c.retain.ensures.filtered)

pub returns-then-contains-clause-stands : goal.returns-then-contains-clause-stands
returns-then-contains-clause-stands c calls s =
    let left = filter_same _ (λ (b : Held). not (b.physical == c.args.physical)) _ (λ x b f' k. search rules) _ _ c.retain.ensures.filtered in
    BuffersStand-lose _ calls c.args.physical c.retain.new.self.items (rw (← c.self.view_is) at s) left

pub returns-else-contains-clause-held : goal.returns-else-contains-clause-held
returns-else-contains-clause-held c =
    rw (← c.self.view_is) (sym (none_lost c.self.inside.physicals c.self.inside.packets.items c.args.physical c.self.invariant.1 (sym c.if-contains.ensures)))

pub returns-else-contains-clause-stands : goal.returns-else-contains-clause-stands
returns-else-contains-clause-stands c calls s =
    let all = none_lost c.self.inside.physicals c.self.inside.packets.items c.args.physical c.self.invariant.1 (sym c.if-contains.ensures) in
    rw (← c.self.view_is) (BuffersStand-lose _ calls c.args.physical c.self.inside.packets.items (rw (← c.self.view_is) at s) (sym all))
