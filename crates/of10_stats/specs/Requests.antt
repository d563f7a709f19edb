-- STATS_REQUEST (OpenFlow 1.0.0, section 5.3.5).
use Rattle.std.specs.Prelude.{ℕ, ◌+◌, ◌<◌, ◌^◌, ◌==◌, ◌||◌, nat_lt, if◌then◌else◌, List, [], ◌∷◌, ◌++◌, length, slice_index, Result, Ok, Err}
use Rattle.byteorder.specs.Endian.{big_bytes}
use Rattle.of10_model.specs.declared.pattern.Pattern.{Pattern}
use Rattle.of10_model.specs.Normal.{number_at, match_at, IsNormal}
use Rattle.of10_model.specs.Spelling.{Spell}
use Rattle.of10_action.specs.Actions.{padding}
use Rattle.of10_action.specs.declared.fault.WireFault.{WireFault}
use Rattle.of10_action.specs.declared.fault.WireFault.TheVariants.{Length, StatKind, StatVendor}
use Rattle.of10_ctl.specs.declared.kind.TheConstants.{STATS_REQUEST}
use Rattle.of10_ctl.specs.Frames.{message_of}
use Rattle.of10_stats.specs.declared.request.StatsRequest.{StatsRequest}
use Rattle.of10_stats.specs.declared.request.StatsRequest.TheVariants.{Desc, Flow, Aggregate, Table, Port, Queue}

-- each field lies in the range of its place, and a match is normal (section 5.3.5)
abbrev pub IsRequest : StatsRequest → Type 0
IsRequest Desc = Unit {0}
IsRequest (Flow pattern table out_port) = IsNormal pattern × (table < 2 ^ 8) × (out_port < 2 ^ 16)
IsRequest (Aggregate pattern table out_port) = IsNormal pattern × (table < 2 ^ 8) × (out_port < 2 ^ 16)
IsRequest Table = Unit {0}
IsRequest (Port port) = port < 2 ^ 16
IsRequest (Queue port queue) = (port < 2 ^ 16) × (queue < 2 ^ 32)

-- ---- spelling

-- the number of each type of statistics (section 5.3.5)
abbrev pub statistics_kind : StatsRequest → ℕ
statistics_kind Desc = 0
statistics_kind (Flow pattern table out_port) = 1
statistics_kind (Aggregate pattern table out_port) = 2
statistics_kind Table = 3
statistics_kind (Port port) = 4
statistics_kind (Queue port queue) = 5

-- what a request for flow entries asks, padding zero (section 5.3.5)
abbrev pub flow_body : Pattern → ℕ → ℕ → List ℕ
flow_body pattern table out_port = Spell pattern ++ (table ∷ []) ++ padding 1 ++ big_bytes 2 out_port

-- what a request asks, padding zero (section 5.3.5)
abbrev pub request_body : StatsRequest → List ℕ
request_body Desc = []
request_body (Flow pattern table out_port) = flow_body pattern table out_port
request_body (Aggregate pattern table out_port) = flow_body pattern table out_port
request_body Table = []
request_body (Port port) = big_bytes 2 port ++ padding 6
request_body (Queue port queue) = big_bytes 2 port ++ padding 2 ++ big_bytes 4 queue

-- the message: its type of statistics, no flags, and what it asks (section 5.3.5)
unfoldable pub spell_request : StatsRequest → ℕ → List ℕ
spell_request r xid = message_of STATS_REQUEST xid (big_bytes 2 (statistics_kind r) ++ big_bytes 2 0 ++ request_body r)

-- ---- reading

-- bytes of what a request of each type asks (section 5.3.5)
abbrev pub body_size : ℕ → ℕ
body_size kind = if kind == 1 || kind == 2 then 44 else (if kind == 4 || kind == 5 then 8 else 0)

-- the request of a type that the message makes, padding disregarded (section 5.3.5)
unfoldable pub request_of : ℕ → List ℕ → StatsRequest
request_of kind bytes =
    if kind == 0 then Desc
    else if kind == 1 then Flow (match_at bytes 12) (slice_index bytes 52) (number_at bytes 54 2)
    else if kind == 2 then Aggregate (match_at bytes 12) (slice_index bytes 52) (number_at bytes 54 2)
    else if kind == 3 then Table
    else if kind == 4 then Port (number_at bytes 12 2)
    else Queue (number_at bytes 12 2) (number_at bytes 16 4)

-- what the message asks, or what is wrong with it, in the order of the tests, which is this proxy's own rule (section 5.3.5)
unfoldable pub read_request : List ℕ → Result StatsRequest WireFault
read_request bytes =
    let kind = number_at bytes 8 2 in
    if nat_lt (length bytes) 12 then Err (Length (length bytes))
    else if kind == 0xffff then Err StatVendor
    else if nat_lt 5 kind then Err (StatKind kind)
    else if length bytes == 12 + body_size kind then Ok (request_of kind bytes)
    else Err (Length (length bytes))
