use Rattle.desk_words.proofs.Alone.{sent_alone}
use Rattle.promise.proofs.slice_is_served_alone.Goals as goal

pub returns : goal.returns
returns c = sent_alone
