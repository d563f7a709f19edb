-- What follows from a slice's requests for statistics (OpenFlow 1.0.0, section 5.3.5), questions for queues (5.3.4) and barriers (5.3.7). For which ports a slice may ask is this proxy's own rule.
use Rattle.std.specs.Prelude.{ℕ, ◌==◌, ◌||◌, Bool, true, List, [], ◌∷◌, length, Some, None}
use Rattle.of10_port.specs.declared.protocol.TheConstants.{NONE, ALL}
use Rattle.of10_stats.specs.declared.request.StatsRequest.{StatsRequest}
use Rattle.of10_stats.specs.declared.request.StatsRequest.TheVariants as statistics
use Rattle.of10_message.specs.Heads.{xid_of}
use Rattle.of10_message.specs.declared.queues.QueuesQuestion.{QueuesQuestion}
use Rattle.stats_filter.specs.Asking.{asked_as}
use Rattle.stats_filter.specs.Replies.{table_reply}
use Rattle.slice_words.specs.Items.{is_own_port}
use Rattle.slice_words.specs.Pasts.{Inquiry, ForStatistics, ForBarrier, ForQueues, Asks, Answer, told, forwarded}
use Rattle.slice_words.specs.FlowMods.{Ground}

-- a slice may ask for its own ports and for all: for statistics of ports NONE names all, for those of queues ALL does
abbrev pub may_ask : Ground → StatsRequest → Bool
may_ask g (statistics.Port port) = port == NONE || is_own_port g.slot g.patterns port
may_ask g (statistics.Queue port queue) = port == ALL || is_own_port g.slot g.patterns port
may_ask g request = true

-- an inquiry under the transaction id that the slice gets next
abbrev pub asking : Ground → Inquiry → Answer
asking g inquiry = forwarded (Asks inquiry g.xid ∷ [])

-- a request for statistics is sent on as what it is asked as; the slice's table is reported at once
abbrev pub statistics_asked : Ground → StatsRequest → List ℕ → Answer
statistics_asked g request message =
    elim (asked_as request) [ None ↦ told (table_reply (length g.booked) g.quota (xid_of message) ∷ []) | Some asked ↦ asking g (ForStatistics asked) ]

-- so is a barrier
abbrev pub barrier_asked : Ground → Answer
barrier_asked g = asking g ForBarrier

-- and a question for queues, as it is
abbrev pub queues_asked : Ground → QueuesQuestion → Answer
queues_asked g queues = asking g (ForQueues queues)
