use Rattle.of10_model.proofs.Spelling.{Norm-Spell}
use Rattle.of10_model.proofs.laws.normal_spelling_is_read_again.Goals as goal

pub returns : goal.returns
returns c = Norm-Spell
