-- What a slice may ask the switch (this proxy's own rule; numbers of ports are the standard's, OpenFlow 1.0.0, section 5.2.1).
use Rattle.std.specs.Prelude.{ℕ, ◌≡◌, ◌⊎◌, List, IsSome}
use Rattle.of10_port.specs.declared.protocol.TheConstants.{ALL, NONE}
use Rattle.of10_stats.specs.declared.request.StatsRequest.{StatsRequest}
use Rattle.of10_stats.specs.declared.request.StatsRequest.TheVariants as statistics
use Rattle.of10_message.specs.declared.controller.FromController.{FromController}
use Rattle.of10_message.specs.declared.controller.FromController.TheVariants as said
use Rattle.flowspace.specs.declared.rules.Rule.{Rule}
use Rattle.flowspace.specs.Owners.{HasPort}
use Rattle.stats_filter.specs.Asking.{asked_as}

-- statistics of ports or queues are asked for of all ports, or of one of the slice's: for those of ports NONE names all, for those of queues ALL does (section 5.3.5)
abbrev pub AsksOwnPort : List Rule → ℕ → StatsRequest → Type 0
AsksOwnPort rules slot (statistics.Port port) = (port ≡ NONE) ⊎ HasPort rules slot port
AsksOwnPort rules slot (statistics.Queue port queue) = (port ≡ ALL) ⊎ HasPort rules slot port
AsksOwnPort rules slot request = Unit {0}

-- what a slice may ask the switch: statistics other than of tables, a barrier, and the queues of a port of its own
abbrev pub MayBeAsked : List Rule → ℕ → FromController → Type 0
MayBeAsked rules slot (said.StatsRequest request) = IsSome (asked_as request) × AsksOwnPort rules slot request
MayBeAsked rules slot said.BarrierRequest = Unit {0}
MayBeAsked rules slot (said.QueueGetConfigRequest queues) = HasPort rules slot queues.port
MayBeAsked rules slot asked = ⊥
