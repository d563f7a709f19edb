use Rattle.desk_words.proofs.Erasing.{erasable}
use Rattle.desk_words.proofs.laws.erasure.Goals as goal

pub returns : goal.returns
returns c = erasable
