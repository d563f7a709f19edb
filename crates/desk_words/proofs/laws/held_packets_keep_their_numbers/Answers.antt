use Rattle.desk_words.proofs.Numbering.{numbered}
use Rattle.desk_words.proofs.laws.held_packets_keep_their_numbers.Goals as goal

pub returns : goal.returns
returns c = numbered
