use Rattle.std.proofs.Common.{ap, sym, ◌∙◌}
use Rattle.pattern_index.specs.Keys.{key_of}
use Rattle.pattern_index.proofs.Putting.{put_first}
use Rattle.pattern_index.proofs.group.Group.of.Goals as goal

pub returns : goal.returns
returns c =
    put_first c.args.m.now c.args.place c.of.result c.key_of-value.result c.new-places.result c.insert.new.self (c.of.ensures ∙ c.shape_of-shape.ensures)
    (c.key_of-value.ensures ∙ ap (λ s. key_of s c.args.m.now) (sym c.of.ensures)) c.new-places.ensures.empty c.in_ok-insert.ensures.updates.0
