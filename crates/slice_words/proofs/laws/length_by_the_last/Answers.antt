use Rattle.slice_words.proofs.Wanting.{set_last, forgotten, never_set}
use Rattle.slice_words.proofs.laws.length_by_the_last.Goals as goal

pub returns-clause-set : goal.returns-clause-set
returns-clause-set c = set_last

pub returns-clause-forgotten : goal.returns-clause-forgotten
returns-clause-forgotten c = forgotten

pub returns-clause-never : goal.returns-clause-never
returns-clause-never c = never_set
