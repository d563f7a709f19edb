use Rattle.std.proofs.Common.{◌∙◌}
use Rattle.flow_book.proofs.Places.{is_booked-place}
use Rattle.flow_book.proofs.pairs.is_booked.Goals as goal

pub returns-clause-value : goal.returns-clause-value
returns-clause-value c =
    c.is_ok.ensures.value ∙ is_booked-place c.args.entries.now.booked c.args.pattern.now c.args.priority c.place_of.result c.requires c.place_of.ensures.normal c.place_of.ensures.found c.place_of.ensures.absent
