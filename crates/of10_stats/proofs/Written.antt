-- A request as it is written, one field after the other.
use Rattle.std.proofs.Common.{◌≡◌, ℕ, ◌+◌, ◌++◌, length, refl, ap, arith}
use Rattle.byteorder.specs.Endian.{big_bytes}
use Rattle.of10_model.specs.declared.pattern.Pattern.{Pattern}
use Rattle.of10_model.specs.Spelling.{Spell}
use Rattle.of10_ctl.specs.Heads.{head_bytes}
use Rattle.of10_stats.specs.declared.request.StatsRequest.{StatsRequest}
use Rattle.of10_stats.specs.declared.request.StatsRequest.TheVariants.{Desc, Flow, Aggregate, Table, Port, Queue}
use Rattle.of10_stats.specs.Requests.{statistics_kind, flow_body, request_body, body_size, spell_request}

length-flow_body : (pattern : Pattern) (table out_port : ℕ) → length (flow_body pattern table out_port) ≡ 44
unfolding Spell
length-flow_body pattern table out_port = refl

pub length-request_body : (r : StatsRequest) → length (request_body r) ≡ body_size (statistics_kind r)
length-request_body Desc = refl
length-request_body (Flow pattern table out_port) = length-flow_body pattern table out_port
length-request_body (Aggregate pattern table out_port) = length-flow_body pattern table out_port
length-request_body Table = refl
length-request_body (Port port) = refl
length-request_body (Queue port queue) = refl

pub request_written : (r : StatsRequest) (xid : ℕ)
    → spell_request r xid ≡ ((head_bytes 16 (8 + (4 + body_size (statistics_kind r))) xid ++ big_bytes 2 (statistics_kind r)) ++ big_bytes 2 0) ++ request_body r
unfolding spell_request
request_written r xid =
    let long = length-request_body r in
    let same : 8 + length (big_bytes 2 (statistics_kind r) ++ big_bytes 2 0 ++ request_body r) ≡ 8 + (4 + body_size (statistics_kind r)) = omega (arith, long) in
    ap (λ (n : ℕ). head_bytes 16 n xid ++ (big_bytes 2 (statistics_kind r) ++ big_bytes 2 0 ++ request_body r)) same
