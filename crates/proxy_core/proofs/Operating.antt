-- Operations: what a desk stands for with one step or one take more.
use Rattle.std.proofs.Common.{◌≡◌, ℕ, suc, arith, ◌+◌, ◌^◌, ◌||◌, ◌==◌, leb, not, Bool, true, false, if◌then◌else◌, List, [], ◌∷◌, length, slice_get, refl, ap, ap₂, sym, ◌∙◌, true≢false, Option, Some, None, Ok, Err}
use Rattle.std.specs.declared.alloc.AllocError.{AllocError}
use Rattle.std.proofs.lemmas.Bool.{or_parts}
use Rattle.flowspace.specs.Policies.{PolicyView}
use Rattle.outbox.specs.Queues.{Queue, without_first}
use Rattle.desk_words.specs.declared.event.Timed.{Timed}
use Rattle.desk_words.specs.declared.phase.Phase.{Phase}
use Rattle.desk_words.specs.declared.dest.Dest.{Dest}
use Rattle.desk_words.specs.declared.dest.Dest.TheVariants.{Switch, Slice}
use Rattle.desk_words.specs.declared.verdict.Verdict.TheVariants as verdicts
use Rattle.desk_words.specs.declared.verdict.Verdict.TheVariants.{Go, Close}
use Rattle.desk_words.specs.declared.taken.Taken.{Taken}
use Rattle.desk_words.specs.declared.taken.Taken.TheVariants.{Message}
use Rattle.desk_words.specs.Openings.{phase_of, switch_of}
use Rattle.desk_words.specs.Histories.{side_of}
use Rattle.desk_words.specs.Verdicts.{is_ended, is_over, is_down, closes, verdict}
use Rattle.desk_words.specs.Operations.{Operation, Step, Take, events_of, queue_of, lane_of, waiting_in, waiting_of, empty_reply}
use Rattle.proxy_core.specs.declared.desk.Desk.{Desk}
use Rattle.proxy_core.specs.Desks.{Body, Acted, Acts, Stays, DeskStands, Replied, Answered, TakesNext, IsSilence, queues_less, lane_less}
use Rattle.proxy_core.proofs.Fitting.{coherent}

-- ---- steps

over_is : (p : PolicyView) (ops : List Operation) (desk : Desk) (b : Bool) → DeskStands p ops desk → (is_ended desk.phase || leb (2 ^ 60) desk.events) ≡ b → is_over (events_of ops) ≡ b
over_is p ops desk b s is = sym (ap₂ (λ (phase : Phase) (n : ℕ). is_ended phase || leb (2 ^ 60) n) s.body.phase s.events) ∙ is

-- memory ran out
pub refused : (p : PolicyView) (ops : List Operation) (timed : Timed) (fault : AllocError) (old new : Desk) → DeskStands p ops old → (is_ended old.phase || leb (2 ^ 60) old.events) ≡ false
    → Stays old new → new.events ≡ old.events → is_down timed.event ≡ false → Replied p ops timed (Err fault) new
refused p ops timed fault old new s is stays same up =
    record {
      right = up;
      stands = record { body = stays p _ _ _ _ s.body; events = same ∙ s.events };
    }

-- all but the count of events
counted : (p : PolicyView) (ops : List Operation) (n : ℕ) (desk : Desk) → Body p (switch_of (events_of ops)) (λ slot. side_of p slot (events_of ops)) (λ slot. queue_of p slot ops) (lane_of p ops) desk → n ≡ length (events_of ops)
    → DeskStands p ops (record desk { events = n })
counted p ops n desk b is = record {
  body = record { same_policy = b.same_policy; phase = b.phase; lane = b.lane; opens = b.opens; beyond = b.beyond };
  events = is;
}

go_on : (over_ closing go : Bool) → over_ ≡ false → go ≡ not closing → (if go then Go else Close) ≡ (if over_ then verdicts.Ended else if closing then Close else Go)
go_on over_ true go on is = rw (on, is) refl
go_on over_ false go on is = rw (on, is) refl

by_go : (p : PolicyView) (ops : List Operation) (timed : Timed) (go : Bool) (new : Desk) (n : ℕ) → (if go then Go else Close) ≡ verdict p (events_of ops) timed
    → Acted p (switch_of (events_of ops)) (λ slot. side_of p slot (events_of ops)) (λ slot. queue_of p slot ops) (lane_of p ops) timed go new → n ≡ suc (length (events_of ops))
    → Replied p ops timed (Ok (if go then Go else Close)) (record new { events = n })
by_go p ops timed true new n is acted count = record { right = is; stands = counted p (Step timed (Ok Go) ∷ ops) n new acted.body count }
by_go p ops timed false new n is acted count = record { right = is; stands = counted p (Step timed (Ok Close) ∷ ops) n new acted.body count }

one_longer : (n k m : ℕ) → n ≡ k + 1 → k ≡ m → n ≡ suc m
one_longer n k m a b = omega arith

-- an event was taken in
pub stepped : (p : PolicyView) (ops : List Operation) (timed : Timed) (go : Bool) (old new : Desk) (n : ℕ) → DeskStands p ops old → (is_ended old.phase || leb (2 ^ 60) old.events) ≡ false
    → Acts old timed go new → n ≡ old.events + 1 → Replied p ops timed (Ok (if go then Go else Close)) (record new { events = n })
stepped p ops timed go old new n s is acts count =
    let on = over_is p ops old false s is in
    let acted = acts p _ _ _ _ (coherent p (events_of ops)) s.body ((or_parts (is_ended (phase_of (events_of ops))) (leb (2 ^ 60) (length (events_of ops))) on).0) in
    by_go p ops timed go new n (go_on (is_over (events_of ops)) (closes p (events_of ops) timed) go on acted.goes_on) acted (one_longer n old.events (length (events_of ops)) count s.events)

-- ---- takes

first_of : (pending : List (List ℕ)) (message : List ℕ) (empty : Taken) → Some message ≡ slice_get pending 0 → Message message ≡ elim pending [ [] ↦ empty | m ∷ later ↦ Message m ]
first_of [] message empty is = absurd (true≢false (ap (λ (o : Option (List ℕ)). elim o [ None ↦ false | Some m ↦ true ]) is))
first_of (m ∷ later) message empty is = ap (λ (o : Option (List ℕ)). elim o [ None ↦ Message message | Some k ↦ Message k ]) is

none_of : (pending : List (List ℕ)) (empty : Taken) → None ≡ slice_get pending 0 → empty ≡ elim pending [ [] ↦ empty | m ∷ later ↦ Message m ]
none_of [] empty is = refl
none_of (m ∷ later) empty is = absurd (true≢false (sym (ap (λ (o : Option (List ℕ)). elim o [ None ↦ false | Some m ↦ true ]) is)))

stands_less : (p : PolicyView) (ops : List Operation) (dest : Dest) (taken : Taken) (desk : Desk)
    → Body p (switch_of (events_of ops)) (λ slot. side_of p slot (events_of ops)) (queues_less dest (λ slot. queue_of p slot ops)) (lane_less dest (lane_of p ops)) desk
    → desk.events ≡ length (events_of ops) → DeskStands p (Take dest taken ∷ ops) desk
stands_less p ops dest taken desk b count = record { body = b; events = count }

-- a message was taken
pub took : (p : PolicyView) (ops : List Operation) (dest : Dest) (message : List ℕ) (old new : Desk) → DeskStands p ops old → TakesNext old dest (Some message) new → new.events ≡ old.events
    → Answered p ops dest (Message message) new
took p ops dest message old new s takes same =
    let t = takes p _ _ _ _ s.body in
    record {
      right = first_of (waiting_of p dest ops).pending message _ t.first;
      stands = stands_less p ops dest (Message message) new t.body (same ∙ s.events);
    }

same_if : (b : Bool) (q : Queue) → (if b then without_first q else q).choked ≡ q.choked
same_if true q = refl
same_if false q = refl

choked_less : (p : PolicyView) (ops : List Operation) (dest : Dest)
    → (waiting_in dest (queues_less dest (λ slot. queue_of p slot ops)) (lane_less dest (lane_of p ops))).choked ≡ (waiting_of p dest ops).choked
choked_less p ops Switch = refl
choked_less p ops (Slice slot) = same_if (slot == slot) (queue_of p slot ops)

-- nothing waits
pub silent : (p : PolicyView) (ops : List Operation) (dest : Dest) (taken : Taken) (old new : Desk) → DeskStands p ops old → TakesNext old dest None new → new.events ≡ old.events → IsSilence new dest taken
    → Answered p ops dest taken new
silent p ops dest taken old new s takes same is =
    let t = takes p _ _ _ _ s.body in
    let q = waiting_of p dest ops in
    let said = is p _ _ _ _ (coherent p (events_of ops)) t.body in
    record {
      right = said ∙ ap (empty_reply p (events_of ops) dest) (choked_less p ops dest) ∙ none_of q.pending (empty_reply p (events_of ops) dest q.choked) t.first;
      stands = stands_less p ops dest taken new t.body (same ∙ s.events);
    }
