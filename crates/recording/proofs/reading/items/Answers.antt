use Rattle.std.proofs.lemmas.Result.{IfOk-weaker}
use Rattle.recording.proofs.Forms.{read_item}
use Rattle.recording.proofs.reading.items.Goals as goal

pub returns-clause-within : goal.returns-clause-within
returns-clause-within c = IfOk-weaker c.read.result _ _ (λ v all k d lt. read_item c.args.slices c.args.bytes.now _ (all k d lt)) c.read.ensures.within
