-- What is spelled is a request, and is read again.
use Rattle.std.proofs.Common.{◌≡◌, ℕ, ◌+◌, ◌≤◌, ltb, eqb, true, false, List, [], ◌++◌, length, Ok, refl, ap, ◌∙◌, arith}
use Rattle.std.proofs.lemmas.Bool.{le-ltb, eq-eqb, ne_eqb}
use Rattle.byteorder.specs.Endian.{big_bytes}
use Rattle.byteorder.specs.Numbers.{big_number-reads_back}
use Rattle.of10_model.specs.Normal.{number_at, match_at}
use Rattle.of10_model.specs.Spelling.{Spell}
use Rattle.of10_model.proofs.Spelling.{Norm-Spell}
use Rattle.of10_ctl.specs.declared.kind.TheConstants.{STATS_REQUEST}
use Rattle.of10_ctl.specs.Kinds.{IsOf}
use Rattle.of10_ctl.proofs.Reading.{IsOf-message}
use Rattle.of10_stats.specs.declared.request.StatsRequest.{StatsRequest}
use Rattle.of10_stats.specs.declared.request.StatsRequest.TheVariants.{Desc, Flow, Aggregate, Table, Port, Queue}
use Rattle.of10_stats.specs.Requests.{IsRequest, statistics_kind, request_body, body_size, spell_request, request_of, read_request}
use Rattle.of10_stats.proofs.Written.{length-request_body}

-- no body has more than 44 bytes
pub small_body : (r : StatsRequest) → body_size (statistics_kind r) ≤ 44
small_body Desc = omega arith
small_body (Flow pattern table out_port) = omega arith
small_body (Aggregate pattern table out_port) = omega arith
small_body Table = omega arith
small_body (Port port) = omega arith
small_body (Queue port queue) = omega arith

pub IsOf-request : (r : StatsRequest) (xid : ℕ) → IsOf STATS_REQUEST (spell_request r xid)
unfolding spell_request
IsOf-request r xid =
    let long = length-request_body r in
    IsOf-message 16 xid (big_bytes 2 (statistics_kind r) ++ big_bytes 2 0 ++ request_body r) (omega (arith, long, small_body r))

length-request : (r : StatsRequest) (xid : ℕ) → length (spell_request r xid) ≡ 12 + body_size (statistics_kind r)
unfolding spell_request
length-request r xid = let long = length-request_body r in omega (arith, long)

-- a message of a known type and of the length for it
known : (bytes : List ℕ) (kind : ℕ) → number_at bytes 8 2 ≡ kind → kind ≤ 5 → length bytes ≡ 12 + body_size kind → read_request bytes ≡ Ok (request_of kind bytes)
unfolding read_request
known bytes kind is few long =
    let some : ltb (length bytes) 12 ≡ false = le-ltb (length bytes) 12 (omega arith) in
    let standard : eqb kind 65535 ≡ false = ne_eqb kind 65535 (λ e. omega (arith, e)) in
    let listed : ltb 5 kind ≡ false = le-ltb 5 kind (omega arith) in
    let whole : eqb (length bytes) (12 + body_size kind) ≡ true = eq-eqb (length bytes) (12 + body_size kind) long in
    rw (is, some, standard, listed, whole) refl

kind-request : (r : StatsRequest) (xid : ℕ) → number_at (spell_request r xid) 8 2 ≡ statistics_kind r
unfolding spell_request
kind-request Desc xid = refl
kind-request (Flow pattern table out_port) xid = refl
kind-request (Aggregate pattern table out_port) xid = refl
kind-request Table xid = refl
kind-request (Port port) xid = refl
kind-request (Queue port queue) xid = refl

few_kinds : (r : StatsRequest) → statistics_kind r ≤ 5
few_kinds Desc = omega arith
few_kinds (Flow pattern table out_port) = omega arith
few_kinds (Aggregate pattern table out_port) = omega arith
few_kinds Table = omega arith
few_kinds (Port port) = omega arith
few_kinds (Queue port queue) = omega arith

-- what a message of its kind asks
asked_again : (r : StatsRequest) (xid : ℕ) → IsRequest r → request_of (statistics_kind r) (spell_request r xid) ≡ r
unfolding spell_request request_of Spell
asked_again Desc xid h = refl
asked_again (Flow pattern table out_port) xid h =
    let bytes = spell_request (Flow pattern table out_port) xid in
    let is_pattern : match_at bytes 12 ≡ pattern = Norm-Spell pattern h.0 in
    let is_port : number_at bytes 54 2 ≡ out_port = big_number-reads_back 2 out_port [] h.2 in
    rw (is_pattern, is_port) refl
asked_again (Aggregate pattern table out_port) xid h =
    let bytes = spell_request (Aggregate pattern table out_port) xid in
    let is_pattern : match_at bytes 12 ≡ pattern = Norm-Spell pattern h.0 in
    let is_port : number_at bytes 54 2 ≡ out_port = big_number-reads_back 2 out_port [] h.2 in
    rw (is_pattern, is_port) refl
asked_again Table xid h = refl
asked_again (Port port) xid h = ap Port (big_number-reads_back 2 port [] h)
asked_again (Queue port queue) xid h =
    let bytes = spell_request (Queue port queue) xid in
    let is_port : number_at bytes 12 2 ≡ port = big_number-reads_back 2 port [] h.0 in
    let is_queue : number_at bytes 16 4 ≡ queue = big_number-reads_back 4 queue [] h.1 in
    rw (is_port, is_queue) refl

pub request_again : (r : StatsRequest) (xid : ℕ) → IsRequest r → read_request (spell_request r xid) ≡ Ok r
request_again r xid h =
    known (spell_request r xid) (statistics_kind r) (kind-request r xid) (few_kinds r) (length-request r xid) ∙ ap (λ (q : StatsRequest). Ok q) (asked_again r xid h)
