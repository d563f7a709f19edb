-- What the switch is asked for a slice's request for statistics (OpenFlow 1.0.0, section 5.3.5). All of this is this proxy's own rule.
use Rattle.std.specs.Prelude.{ℕ, List, Option, Some, None, option_map}
use Rattle.of10_stats.specs.declared.request.StatsRequest.{StatsRequest}
use Rattle.of10_stats.specs.declared.request.StatsRequest.TheVariants.{Desc, Flow, Aggregate, Table, Port, Queue}
use Rattle.of10_stats.specs.declared.protocol.TheConstants as statistics
use Rattle.of10_stats.specs.Requests.{spell_request}
use Rattle.xid_map.specs.declared.asked.AskKind.{AskKind}
use Rattle.xid_map.specs.declared.asked.AskKind.TheVariants as kinds

-- a sum of flows is asked for as single flows, of which the slice's are summed; for tables the switch isn't asked
abbrev pub asked_as : StatsRequest → Option StatsRequest
asked_as Desc = Some Desc
asked_as (Flow pattern table out_port) = Some (Flow pattern table out_port)
asked_as (Aggregate pattern table out_port) = Some (Flow pattern table out_port)
asked_as Table = None
asked_as (Port port) = Some (Port port)
asked_as (Queue port queue) = Some (Queue port queue)

-- the message for the switch, under a transaction id
abbrev pub question_for : StatsRequest → ℕ → Option (List ℕ)
question_for request xid = option_map (λ sent. spell_request sent xid) (asked_as request)

-- the type of statistics that is asked for with a request of a kind, if it is one for statistics
abbrev pub type_sent : AskKind → Option ℕ
type_sent kinds.FlowMod = None
type_sent kinds.PacketOut = None
type_sent kinds.Barrier = None
type_sent kinds.QueueConfig = None
type_sent kinds.Desc = Some statistics.DESC
type_sent kinds.Flow = Some statistics.FLOW
type_sent kinds.Aggregate = Some statistics.FLOW
type_sent kinds.Port = Some statistics.PORT
type_sent kinds.Queue = Some statistics.QUEUE
