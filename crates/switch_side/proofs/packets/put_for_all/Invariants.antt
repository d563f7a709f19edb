use Rattle.std.proofs.Common.{◌≡◌, ◌++◌, drop}
use Rattle.of10_flow.specs.PacketIns.{packet_of}
use Rattle.switch_side.specs.Carrying.{packet_for}
use Rattle.switch_side.specs.Dispatches.{said_from}
use Rattle.switch_side.proofs.packets.put_for_all.Given as goal

abbrev pub invariant-loop-place : goal.invariant-loop-place
invariant-loop-place l =
    l.spare.dispatch.to_slices.items ++ said_from (packet_for l.audience (packet_of l.packet)) l.place (drop l.place l.states) ≡ said_from (packet_for l.audience (packet_of l.packet)) 0 l.states
