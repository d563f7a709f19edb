use Rattle.std.proofs.Common.{not, ap, sym, subst, ◌∙◌, arith}
use Rattle.buffer_map.specs.Buffers.{numbered, held_under}
use Rattle.buffer_map.specs.Places.{IsInOrder}
use Rattle.buffer_map.proofs.Places.{IsInOrder-filter, found_at, taken_out, nowhere-position}
use Rattle.buffer_map.proofs.Index.{IsIndex-remove}
use Rattle.buffer_map.proofs.Standing.{BuffersStand-use}
use Rattle.buffer_map.proofs.map.BufferMap.use_up.Goals as goal

pub invariant_of-self : goal.invariant_of-self
invariant_of-self c =
    let count = c.self.inside.given in
    let xs = c.self.inside.packets.items in
    let z = c.index-used.result.now in
    let out = taken_out count c.args.number c.in-Some.place xs c.remove.new.self.items z c.self.invariant.0 c.in-Some.ensures.value c.index-used.ensures
    (λ within. rw (c.remove.ensures.succeeds z (omega (arith, within, c.self.inside.packets.ok.0))) at c.remove.ensures.items) in (
      subst (IsInOrder count count) (sym out.0) (IsInOrder-filter (λ b. not (numbered c.args.number b)) count count xs c.self.invariant.0),
      IsIndex-remove c.self.inside.physicals c.remove-in-Some.new.self xs c.remove.new.self.items z c.self.invariant.1 out.1 c.remove-in-Some.ensures,
      omega (arith, c.self.invariant.2, c.remove.ensures.capacity),
    )

pub returns-in-Some-clause-value : goal.returns-in-Some-clause-value
returns-in-Some-clause-value c =
    rw (← c.self.view_is) (found_at c.args.number c.in-Some.place c.self.inside.packets.items c.index-used.result.now c.in-Some.ensures.value c.index-used.ensures)

pub returns-in-Some-clause-packet : goal.returns-in-Some-clause-packet
returns-in-Some-clause-packet c calls s =
    found_at c.args.number c.in-Some.place c.self.inside.packets.items c.index-used.result.now c.in-Some.ensures.value c.index-used.ensures
    ∙ ap (held_under c.args.number) (rw (← c.self.view_is) at s.same_held)

pub returns-in-Some-clause-held : goal.returns-in-Some-clause-held
returns-in-Some-clause-held c =
    let z = c.index-used.result.now in
    rw (← c.self.view_is)
    (taken_out c.self.inside.given c.args.number c.in-Some.place c.self.inside.packets.items c.remove.new.self.items z c.self.invariant.0 c.in-Some.ensures.value c.index-used.ensures
    (λ within. rw (c.remove.ensures.succeeds z (omega (arith, within, c.self.inside.packets.ok.0))) at c.remove.ensures.items)).0

pub returns-in-Some-clause-stands : goal.returns-in-Some-clause-stands
returns-in-Some-clause-stands c calls s =
    let z = c.index-used.result.now in
    let out = taken_out c.self.inside.given c.args.number c.in-Some.place c.self.inside.packets.items c.remove.new.self.items z c.self.invariant.0 c.in-Some.ensures.value c.index-used.ensures
    (λ within. rw (c.remove.ensures.succeeds z (omega (arith, within, c.self.inside.packets.ok.0))) at c.remove.ensures.items) in
    BuffersStand-use _ calls c.args.number c.remove.new.self.items (rw (← c.self.view_is) at s) out.0

pub returns-in-None-clause-value : goal.returns-in-None-clause-value
returns-in-None-clause-value c = rw (← c.self.view_is) (sym (nowhere-position c.args.number c.self.inside.packets.items c.in-None.ensures.value).0)

pub returns-in-None-clause-packet : goal.returns-in-None-clause-packet
returns-in-None-clause-packet c calls s =
    sym (nowhere-position c.args.number c.self.inside.packets.items c.in-None.ensures.value).0 ∙ ap (held_under c.args.number) (rw (← c.self.view_is) at s.same_held)

pub returns-in-None-clause-held : goal.returns-in-None-clause-held
returns-in-None-clause-held c = rw (← c.self.view_is) (sym (nowhere-position c.args.number c.self.inside.packets.items c.in-None.ensures.value).1)

pub returns-in-None-clause-stands : goal.returns-in-None-clause-stands
returns-in-None-clause-stands c calls s =
    rw (← c.self.view_is)
    (BuffersStand-use _ calls c.args.number c.self.inside.packets.items (rw (← c.self.view_is) at s) (sym (nowhere-position c.args.number c.self.inside.packets.items c.in-None.ensures.value).1))
