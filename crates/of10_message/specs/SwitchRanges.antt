-- What is right of each message of a switch that is read from a frame: it fits its length field (OpenFlow 1.0.0, section 5.1), and a match is in normal form.
use Rattle.std.specs.Prelude.{◌+◌, ◌≤◌, length}
use Rattle.of10_model.specs.Normal.{IsNormal}
use Rattle.of10_message.specs.Queues.{AreQueues}
use Rattle.of10_message.specs.Switch.{SwitchMessage, EchoRequest, FeaturesReply, PacketIn, FlowRemoved, QueueGetConfigReply}

-- a message that was read from a frame
abbrev pub IsSaid : SwitchMessage → Type 0
IsSaid (EchoRequest body) = length body ≤ 65527
IsSaid (FeaturesReply features) = length features.ports ≤ 1364
IsSaid (PacketIn packet) = 18 + length packet.payload ≤ 65535
IsSaid (FlowRemoved entry) = IsNormal entry.pattern
IsSaid (QueueGetConfigReply queues) = AreQueues queues
IsSaid message = Unit {0}
