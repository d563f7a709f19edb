-- What a list of actions is applied to, and what it is after some of them. All of this is the proxy's own rule.
use Rattle.std.specs.Prelude.{Bool, true, false}
use Rattle.of10_action.specs.declared.action.Action.{Action}
use Rattle.match_meet.specs.Rewriting.{rewritten, cover_of}
use Rattle.action_check.specs.declared.origin.Origin.{Origin}
use Rattle.action_check.specs.declared.origin.Origin.TheVariants.{Piece, Packet, Probe}

-- the actions are those of a packet-out, and not of a flow-mod
abbrev pub is_packet_out : Origin → Bool
is_packet_out (Piece m) = false
is_packet_out (Packet h) = true
is_packet_out (Probe in_port) = true

-- the image after one more action: of a piece its cover, of a packet its header, rewritten
abbrev pub image_after : Origin → Action → Origin
image_after (Piece cover) action = Piece (cover_of cover action)
image_after (Packet h) action = Packet (rewritten h action)
image_after (Probe in_port) action = Probe in_port
