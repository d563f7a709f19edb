use Rattle.std.proofs.Common.{ap, sym, ◌∙◌}
use Rattle.buffer_map.specs.Buffers.{held_under}
use Rattle.buffer_map.proofs.Places.{found_at, nowhere-position}
use Rattle.buffer_map.proofs.map.BufferMap.held.Goals as goal

pub returns-in-Some-clause-value : goal.returns-in-Some-clause-value
returns-in-Some-clause-value c = rw (← c.self.view_is) (found_at c.args.number c.in-Some.place c.self.inside.packets.items c.index.result.now c.in-Some.ensures.value c.index.ensures)

pub returns-in-Some-clause-packet : goal.returns-in-Some-clause-packet
returns-in-Some-clause-packet c calls s =
    found_at c.args.number c.in-Some.place c.self.inside.packets.items c.index.result.now c.in-Some.ensures.value c.index.ensures
    ∙ ap (held_under c.args.number) (rw (← c.self.view_is) at s.same_held)

pub returns-in-None-clause-value : goal.returns-in-None-clause-value
returns-in-None-clause-value c = rw (← c.self.view_is) (sym (nowhere-position c.args.number c.self.inside.packets.items c.in-None.ensures.value).0)

pub returns-in-None-clause-packet : goal.returns-in-None-clause-packet
returns-in-None-clause-packet c calls s =
    sym (nowhere-position c.args.number c.self.inside.packets.items c.in-None.ensures.value).0 ∙ ap (held_under c.args.number) (rw (← c.self.view_is) at s.same_held)
