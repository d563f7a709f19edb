use Rattle.slice_words.proofs.Dismissing.{ends}
use Rattle.slice_words.proofs.laws.ends_exactly.Goals as goal

pub returns : goal.returns
returns c = ends
