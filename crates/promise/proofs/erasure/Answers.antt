use Rattle.desk_words.proofs.Erasing.{erasable}
use Rattle.promise.proofs.erasure.Goals as goal

pub returns : goal.returns
returns c = erasable
