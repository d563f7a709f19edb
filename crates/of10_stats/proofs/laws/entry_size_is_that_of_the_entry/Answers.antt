use Rattle.of10_stats.proofs.Sizes.{entry_there, there_entry}
use Rattle.of10_stats.proofs.laws.entry_size_is_that_of_the_entry.Goals as goal

pub returns : goal.returns
returns c = λ kind n rest. (entry_there kind n rest, λ h. there_entry kind n rest h.0 h.1)
