use Rattle.of10_stats.proofs.Sizes.{some_long, some_inside, some_entry, none_there}
use Rattle.of10_stats.proofs.entries.entry_size.Goals as goal

pub returns-clause-some : goal.returns-clause-some
returns-clause-some c = some_long c.args.kind c.args.rest.now c.first_size.result c.first_size.ensures

pub returns-clause-inside : goal.returns-clause-inside
returns-clause-inside c = some_inside c.args.kind c.args.rest.now c.first_size.result c.first_size.ensures

pub returns-clause-entry : goal.returns-clause-entry
returns-clause-entry c = some_entry c.args.kind c.args.rest.now c.first_size.result c.first_size.ensures

pub returns-clause-none : goal.returns-clause-none
returns-clause-none c = none_there c.args.kind c.args.rest.now c.first_size.result c.first_size.ensures
