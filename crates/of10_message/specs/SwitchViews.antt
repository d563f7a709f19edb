-- What views of a switch's messages show.
use Rattle.std.specs.Prelude.{◌≡◌, Result, Err}
use Rattle.of10_model.specs.Results.{Answers}
use Rattle.of10_message.specs.Queues.{queues_of_view}
use Rattle.of10_flow.specs.FlowRemoveds.{removal_of}
use Rattle.of10_flow.specs.PacketIns.{packet_of}
use Rattle.of10_port.specs.PortStatus.{status_of}
use Rattle.of10_port.specs.Features.{features_of}
use Rattle.of10_message.specs.declared.fault.Unread.{Unread}
use Rattle.of10_message.specs.Errors.{error_of_view}
use Rattle.of10_message.specs.declared.switch.SwitchMessageView.{SwitchMessageView}
use Rattle.of10_message.specs.declared.switch.SwitchMessageView.TheVariants as views
use Rattle.of10_message.specs.Switch.{SwitchMessage, Hello, Error, EchoRequest, EchoReply, Vendor, FeaturesReply, GetConfigReply, PacketIn, FlowRemoved, PortStatus, StatsReply, BarrierReply, QueueGetConfigReply}

-- what a view of a message shows
abbrev pub said_by : SwitchMessageView → SwitchMessage
said_by views.Hello = Hello
said_by (views.Error error) = Error (error_of_view error)
said_by (views.EchoRequest body) = EchoRequest body
said_by views.EchoReply = EchoReply
said_by views.Vendor = Vendor
said_by (views.FeaturesReply features) = FeaturesReply (features_of features)
said_by (views.GetConfigReply config) = GetConfigReply config
said_by (views.PacketIn packet) = PacketIn (packet_of packet)
said_by (views.FlowRemoved entry) = FlowRemoved (removal_of entry)
said_by (views.PortStatus status) = PortStatus (status_of status)
said_by (views.StatsReply part entries) = StatsReply part entries.now
said_by views.BarrierReply = BarrierReply
said_by (views.QueueGetConfigReply queues) = QueueGetConfigReply (queues_of_view queues)

-- a call that takes no memory answers what is read
abbrev pub ReadsAsSaid : Result SwitchMessageView Unread → Result SwitchMessage Unread → Type 0
ReadsAsSaid called read = Answers (λ fault told. told ≡ Err fault) said_by called read
