-- What the switch is asked.
use Rattle.std.proofs.Common.{◌≡◌, ℕ, ◌≤◌, List, length, Option, Some, None, Ok, option_map, refl, sym, ap, subst, ◌∙◌, arith}
use Rattle.of10_ctl.specs.declared.kind.TheConstants.{STATS_REQUEST}
use Rattle.of10_ctl.specs.Kinds.{IsOf}
use Rattle.of10_stats.specs.declared.request.StatsRequest.{StatsRequest}
use Rattle.of10_stats.specs.declared.request.StatsRequest.TheVariants.{Desc, Flow, Aggregate, Table, Port, Queue}
use Rattle.of10_stats.specs.Requests.{IsRequest, spell_request, read_request}
use Rattle.of10_stats.proofs.Written.{length-request_body}
use Rattle.of10_stats.proofs.Again.{IsOf-request, request_again, small_body}
use Rattle.stats_filter.specs.Asking.{asked_as, question_for}

asked_in_range : (request sent : StatsRequest) → IsRequest request → asked_as request ≡ Some sent → IsRequest sent
asked_in_range Desc sent is e = let same : Desc ≡ sent = cc in subst IsRequest same is
asked_in_range (Flow pattern table out_port) sent is e = let same : Flow pattern table out_port ≡ sent = cc in subst IsRequest same is
asked_in_range (Aggregate pattern table out_port) sent is e = let same : Flow pattern table out_port ≡ sent = cc in subst IsRequest same is
asked_in_range Table sent is e = absurd (cc)
asked_in_range (Port port) sent is e = let same : Port port ≡ sent = cc in subst IsRequest same is
asked_in_range (Queue port queue) sent is e = let same : Queue port queue ≡ sent = cc in subst IsRequest same is

-- the question is what is spelled of what is sent
pub question_is : (request sent : StatsRequest) (xid : ℕ) (message : List ℕ) → asked_as request ≡ Some sent → question_for request xid ≡ Some message → message ≡ spell_request sent xid
question_is request sent xid message sends asks =
    let made : Some (spell_request sent xid) ≡ Some message = ap (option_map (λ s. spell_request s xid)) (sym sends) ∙ asks in
    cc

pub question_again : (request sent : StatsRequest) (xid : ℕ) (message : List ℕ) → IsRequest request → asked_as request ≡ Some sent → question_for request xid ≡ Some message
    → IsOf STATS_REQUEST message × (read_request message ≡ Ok sent)
question_again request sent xid message is sends asks =
    let spelled = question_is request sent xid message sends asks in
    (subst (IsOf STATS_REQUEST) (sym spelled) (IsOf-request sent xid), ap read_request spelled ∙ request_again sent xid (asked_in_range request sent is sends))

short_request : (r : StatsRequest) (xid : ℕ) → length (spell_request r xid) ≤ 56
unfolding spell_request
short_request r xid = let long = length-request_body r in let short = small_body r in omega arith

-- the question has at most 56 bytes
pub short_question : (request : StatsRequest) (xid : ℕ) (message : List ℕ) → question_for request xid ≡ Some message → length message ≤ 56
short_question request xid message asks = by_sent (asked_as request) refl
  where
    by_sent : (o : Option StatsRequest) → asked_as request ≡ o → length message ≤ 56
    by_sent None e = let none : None ≡ Some message = ap (option_map (λ s. spell_request s xid)) (sym e) ∙ asks in absurd (cc)
    by_sent (Some sent) e = rw (question_is request sent xid message e asks) (short_request sent xid)
