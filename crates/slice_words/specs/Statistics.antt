-- What a slice is sent of what the switch replies to its requests: to barriers (OpenFlow 1.0.0, section 5.3.7), to questions for queues (5.3.4) and to requests for statistics (5.3.5). Statistics are collected until the last part has come. What is collected, and how it is replied, is this proxy's own rule.
use Rattle.std.specs.Prelude.{ℕ, ◌==◌, ◌&&◌, not, Bool, true, false, if◌then◌else◌, List, [], ◌∷◌, Option, Some, None, is_some}
use Rattle.of10_model.specs.Normal.{is_value}
use Rattle.of10_ctl.specs.declared.kind.TheConstants.{BARRIER_REPLY}
use Rattle.of10_ctl.specs.Frames.{message_of}
use Rattle.of10_message.specs.Queues.{port_of_queues, spell_queues_reply}
use Rattle.of10_stats.specs.Replies.{flow_of}
use Rattle.xid_map.specs.declared.asked.Issued.{Issued}
use Rattle.xid_map.specs.declared.asked.AskKind.{AskKind}
use Rattle.xid_map.specs.declared.asked.AskKind.TheVariants as kinds
use Rattle.xid_map.specs.Collections.{CollectionCall, Start, Add, Sum, Finish, Gathered, gathered, is_among, collecting}
use Rattle.stats_filter.specs.Asking.{type_sent}
use Rattle.stats_filter.specs.Replies.{replies_for, sum_reply}

-- ---- kinds of requests

-- a request is a barrier
abbrev pub is_barrier : AskKind → Bool
is_barrier kinds.Barrier = true
is_barrier kind = false

-- a request asks for the queues of a port
abbrev pub asks_queues : AskKind → Bool
asks_queues kinds.QueueConfig = true
asks_queues kind = false

-- a request is one for statistics that are collected
abbrev pub asks_statistics : AskKind → Bool
asks_statistics kind = is_some (type_sent kind)

-- ---- what is collected

-- a request collects statistics of a type: they were asked for with it, and its last part hasn't come
abbrev pub collects : Issued → ℕ → List CollectionCall → Bool
collects request kind before = is_value kind (type_sent request.asked.kind) && is_among request.number (collecting before)

-- a request for statistics begins to collect
abbrev pub begun : ℕ → AskKind → List CollectionCall
begun number kind = if asks_statistics kind then Start number ∷ [] else []

-- an entry is added to what a request collects, or for a sum of flows its packets and bytes are
abbrev pub entry_call : AskKind → ℕ → List ℕ → CollectionCall
entry_call kinds.Aggregate number entry = Sum number (flow_of entry).1 (flow_of entry).2
entry_call kind number entry = Add number entry

-- an entry of a type is kept for a request that collects it
abbrev pub entry_kept : Option Issued → ℕ → List ℕ → List CollectionCall → List CollectionCall
entry_kept None kind entry before = []
entry_kept (Some request) kind entry before = if collects request kind before then entry_call request.asked.kind request.number entry ∷ [] else []

-- a request collects no more
abbrev pub finished : Option Issued → List CollectionCall
finished None = []
finished (Some request) = Finish request.number ∷ []

-- ---- what the slice is sent, under its own transaction id

-- the reply to a barrier, once
abbrev pub barrier_told : Option Issued → List (List ℕ)
barrier_told None = []
barrier_told (Some request) = if is_barrier request.asked.kind && not request.done then message_of BARRIER_REPLY request.asked.xid [] ∷ [] else []

-- the reply on the queues of the port that was asked for, once and as it is
abbrev pub queues_told : Option Issued → List ℕ → List (List ℕ)
queues_told None body = []
queues_told (Some request) body =
    if asks_queues request.asked.kind && request.asked.port == port_of_queues body && not request.done
    then spell_queues_reply request.asked.xid body ∷ []
    else []

-- the replies with what was collected for a request of a kind: for a sum of flows the sums
abbrev pub collected_replies : AskKind → Gathered → ℕ → List (List ℕ)
collected_replies kinds.Aggregate g xid = sum_reply g.packets g.bytes g.flows xid ∷ []
collected_replies kind g xid = replies_for kind g.entries xid

-- with the last part of a reply the slice gets what was collected for the request
abbrev pub statistics_told : Option Issued → ℕ → List CollectionCall → List (List ℕ)
statistics_told None kind before = []
statistics_told (Some request) kind before =
    if collects request kind before then collected_replies request.asked.kind (gathered request.number before) request.asked.xid else []
