use Rattle.std.proofs.Common.{subst}
use Rattle.slice_side.specs.declared.change.Change.{Change}
use Rattle.slice_side.specs.Reactions.{IsChange}
use Rattle.slice_side.proofs.Changing.{heard, set, dismissed, rated, sent_out}
use Rattle.slice_side.proofs.applying.apply.Goals as goal

pub returns-in-Heard : goal.returns-in-Heard
returns-in-Heard c s sight item stands is =
    heard s sight item c.in-Heard.moment c.max-state.result c.args.state.now c.max-state.ensures stands (subst (λ (k : Change). IsChange s sight item k) c.in-Heard.is is)

pub returns-in-Set : goal.returns-in-Set
returns-in-Set c s sight item stands is =
    set s sight item c.in-Set.moment c.in-Set.miss_send_len c.max-state-in-Set.result c.args.state.now c.max-state-in-Set.ensures stands (subst (λ (k : Change). IsChange s sight item k) c.in-Set.is is)

pub returns-in-Dismissed : goal.returns-in-Dismissed
returns-in-Dismissed c s sight item stands is =
    let forgot = c.forget.ensures in
    dismissed s sight item c.in-Dismissed.moment c.max-state-in-Dismissed.result c.args.state.now c.forget.new.state c.max-state-in-Dismissed.ensures
    (record {
      requests = forgot.requests;
      collections = forgot.collections;
      length_is = forgot.miss_send_len;
      same_bucket = forgot.bucket;
      same_book = forgot.book;
      same_moment = forgot.moment;
      same_given = forgot.given;
      none_held = forgot.held;
    }) stands (subst (λ (k : Change). IsChange s sight item k) c.in-Dismissed.is is)

pub returns-in-Rated : goal.returns-in-Rated
returns-in-Rated c s sight item stands is =
    rated s sight item c.in-Rated.moment c.max-state-in-Rated.result c.args.state.now c.ask.new.self c.max-state-in-Rated.ensures
    (record { stands = c.ask.ensures.stands; rate = c.ask.ensures.rate; burst = c.ask.ensures.burst }) stands (subst (λ (k : Change). IsChange s sight item k) c.in-Rated.is is)

pub returns-in-SentOut : goal.returns-in-SentOut
returns-in-SentOut c s sight item stands is =
    sent_out s sight item c.in-SentOut.moment c.in-SentOut.asked c.in-SentOut.used c.args.state.now c.request.new.state c.request.ensures stands (subst (λ (k : Change). IsChange s sight item k) c.in-SentOut.is is)
