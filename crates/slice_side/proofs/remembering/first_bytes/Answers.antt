use Rattle.slice_side.proofs.Bytes.{first_is}
use Rattle.slice_side.proofs.remembering.first_bytes.Goals as goal

pub returns : goal.returns
returns c = rw c.copy_from_slice.ensures.after (first_is c.args.bytes.now c.min-size.result 0 c.min-size.ensures)
