use Rattle.std.proofs.Common.{ap, ap₂, ◌∙◌, ◌++◌}
use Rattle.stats_filter.specs.Keeping.{entries_in}
use Rattle.switch_side.specs.Collecting.{kept_within}
use Rattle.switch_side.proofs.Gathering.{entries_there, none_there, room_there}
use Rattle.switch_side.proofs.last_part.with_last.Goals as goal

pub returns-in_default : goal.returns-in_default
returns-in_default c calls stands among = absurd (none_there c.args.number calls among (c.in_default.ensures calls stands))

pub returns : goal.returns
returns c calls stands among =
    let entries = entries_there c.args.number calls c.in-Some.collected.now among (c.in-Some.ensures calls stands) in
    let room = c.room.ensures calls stands ∙ room_there c.args.number calls among in
    c.in_ok-extend_from_slice.ensures.items
    ∙ ap₂ (λ front back. front ++ back) (c.in_ok-entries.ensures.items ∙ entries) (c.kept_end-end.ensures.kept ∙ ap (λ n. kept_within n (entries_in c.args.kind c.args.last.now)) room)
