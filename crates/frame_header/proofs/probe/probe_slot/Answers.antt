use Rattle.frame_header.proofs.Probes.{slot-exactly}
use Rattle.frame_header.proofs.probe.probe_slot.Goals as goal

pub returns-clause-exactly : goal.returns-clause-exactly
returns-clause-exactly c slot = rw c.slot_of.ensures (slot-exactly c.args.bytes.now slot)
