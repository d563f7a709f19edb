use Rattle.of10_message.proofs.SwitchCases.{bad_length-read}
use Rattle.of10_message.proofs.laws.bad_length_is_read.Goals as goal

pub returns : goal.returns
returns c = bad_length-read
