use Rattle.flowmod_expand.proofs.Walks.{flow_messages_length}
use Rattle.flowmod_expand.proofs.Again.{message_there}
use Rattle.flowmod_expand.proofs.laws.each_piece_has_its_message.Goals as goal

pub returns : goal.returns
returns c = record {
  count = λ o paired. flow_messages_length o.flow_mod o.xid o.pieces o.lists o.buffer paired;
  message = λ o paired at. message_there o paired at;
}
