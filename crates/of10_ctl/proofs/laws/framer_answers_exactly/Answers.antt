use Rattle.of10_ctl.proofs.Answering.{frame_exact, need_more_exact, ended_exact}
use Rattle.of10_ctl.proofs.laws.framer_answers_exactly.Goals as goal

pub returns-clause-frame : goal.returns-clause-frame
returns-clause-frame c = frame_exact

pub returns-clause-need_more : goal.returns-clause-need_more
returns-clause-need_more c = need_more_exact

pub returns-clause-ended : goal.returns-clause-ended
returns-clause-ended c = ended_exact
