use Rattle.buffer_map.proofs.Calls.{held-IsHeld, IsHeld-held}
use Rattle.buffer_map.proofs.laws.packet_is_held_until_a_call_ends_it.Goals as goal

pub returns : goal.returns
returns c calls b = (held-IsHeld calls b, IsHeld-held calls b)
