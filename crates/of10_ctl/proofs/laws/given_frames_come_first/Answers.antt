use Rattle.of10_ctl.proofs.Answering.{given_first}
use Rattle.of10_ctl.proofs.laws.given_frames_come_first.Goals as goal

pub returns : goal.returns
returns c = given_first
