use Rattle.desk_words.proofs.Taking.{slice_order, lane_order, slice_waits, lane_waits}
use Rattle.desk_words.proofs.laws.messages_are_taken_in_order.Goals as goal

pub returns-clause-slices : goal.returns-clause-slices
returns-clause-slices c = slice_order

pub returns-clause-lane : goal.returns-clause-lane
returns-clause-lane c = lane_order

pub returns-clause-slices_wait : goal.returns-clause-slices_wait
returns-clause-slices_wait c = slice_waits

pub returns-clause-lane_waits : goal.returns-clause-lane_waits
returns-clause-lane_waits c = lane_waits
