use Rattle.test_desk_words.proofs.Shown.{barrier_comes_back_shown, queues_come_back_shown}
use Rattle.test_desk_words.proofs.reply_comes_back.Goals as goal

pub returns-clause-barrier : goal.returns-clause-barrier
returns-clause-barrier c = barrier_comes_back_shown

pub returns-clause-queues : goal.returns-clause-queues
returns-clause-queues c = queues_come_back_shown
