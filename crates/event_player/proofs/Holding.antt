-- What a desk stands for after a take and after a step.
use Rattle.std.proofs.Common.{◌≡◌, ◌≤◌, ◌+◌, ◌==◌, ◌||◌, ◌&&◌, not, ltb, ℕ, Bool, true, false, if◌then◌else◌, List, [], ◌∷◌, drop, length, refl, sym, ap, ◌∙◌, subst, true≢false, eqb-true, eq-eqb, None, Ok, slice_get, arith}
use Rattle.std.proofs.lemmas.Bool.{ne_eqb}
use Rattle.std.proofs.lemmas.Bool.Decides.{nat_tests}
use Rattle.flowspace.specs.Policies.{PolicyView}
use Rattle.outbox.specs.Queues.{Queue, no_messages, size, push_all, without_first, waiting}
use Rattle.outbox.proofs.Keeping.{push_all-kept}
use Rattle.desk_words.specs.declared.event.Timed.{Timed}
use Rattle.desk_words.specs.declared.dest.Dest.TheVariants.{Switch, Slice}
use Rattle.desk_words.specs.declared.verdict.Verdict.{Verdict}
use Rattle.desk_words.specs.declared.verdict.Verdict.TheVariants as verdicts
use Rattle.desk_words.specs.declared.verdict.Verdict.TheVariants.{Go, Close}
use Rattle.desk_words.specs.declared.taken.Taken.{Taken}
use Rattle.desk_words.specs.declared.taken.Taken.TheVariants.{Message, Nothing, Choked, Ended, NotOpen}
use Rattle.desk_words.specs.Openings.{phase_of}
use Rattle.desk_words.specs.Histories.{is_slot, is_open, is_slice_up}
use Rattle.desk_words.specs.Verdicts.{is_ended, is_fresh, is_over, closes, verdict}
use Rattle.desk_words.specs.Sent.{sent_by, lane_by}
use Rattle.desk_words.specs.Operations.{Step, Take, takes_in, events_of, slice_limit, lane_limit, empties_slice, ends, queue_of, lane_of, empty_reply, message_taken}
use Rattle.answer_bounds.specs.Bounds.{IsFramed, AreFramed}
use Rattle.answer_bounds.proofs.Fitting.{answers_fit}
use Rattle.proxy_core.specs.declared.desk.Desk.{Desk}
use Rattle.proxy_core.proofs.Acting.{either_empty}
use Rattle.proxy_core.specs.Desks.{Takes, Steps, TellsEnd, TellsUp, TellsWaiting}
use Rattle.event_player.specs.Holding.{Holds, nothing, IsQuiet, with_waiting, After}
use Rattle.event_player.proofs.Slices.{from_slot}

-- ---- what waits, said otherwise

pub holds_same : (p : PolicyView) (h : List Timed) (a b : ℕ → List (List ℕ)) (lane : List (List ℕ)) (desk : Desk) → ((slot : ℕ) → a slot ≡ b slot) → Holds p h a lane desk → Holds p h b lane desk
holds_same p h a b lane desk same holds = record {
  operations = holds.operations;
  stands = holds.stands;
  events = holds.events;
  queues = λ slot. holds.queues slot ∙ ap waiting (same slot);
  lane_queue = holds.lane_queue;
}

own_waiting : (b : Bool) (slot other : ℕ) (slices : ℕ → List (List ℕ)) → (slot == other) ≡ b → slices other ≡ (if b then slices slot else slices other)
own_waiting true slot other slices is = ap slices (sym (eqb-true slot other is))
own_waiting false slot other slices is = refl

-- of each slice waits what waits
pub holds_own : (p : PolicyView) (h : List Timed) (slot : ℕ) (slices : ℕ → List (List ℕ)) (lane : List (List ℕ)) (desk : Desk) → Holds p h slices lane desk → Holds p h (with_waiting slot (slices slot) slices) lane desk
holds_own p h slot slices lane desk holds = holds_same p h slices (with_waiting slot (slices slot) slices) lane desk (λ other. own_waiting (slot == other) slot other slices refl) holds

-- ---- takes

no_message : (a b c : Bool) → message_taken (if a then Ended else if b then NotOpen else if c then Choked else Nothing) ≡ None
no_message true b c = refl
no_message false true c = refl
no_message false false true = refl
no_message false false false = refl

taken_first : (messages : List (List ℕ)) (a b c : Bool) → message_taken (elim messages [ [] ↦ (if a then Ended else if b then NotOpen else if c then Choked else Nothing) | message ∷ later ↦ Message message ]) ≡ slice_get messages 0
taken_first [] a b c = no_message a b c
taken_first (message ∷ later) a b c = refl

-- the first message for the switch is taken
pub take_lane : (p : PolicyView) (h : List Timed) (slices : ℕ → List (List ℕ)) (lane : List (List ℕ)) (old new : Desk) (taken : Taken) → Takes old Switch taken new → Holds p h slices lane old
    → (message_taken taken ≡ slice_get lane 0) × Holds p h slices (drop 1 lane) new
take_lane p h slices lane old new taken takes holds =
    let answered = takes p holds.operations holds.stands in
    let first : message_taken taken ≡ slice_get lane 0 =
    ap message_taken answered.right
    ∙ ap (λ (q : Queue). message_taken (elim q.pending [ [] ↦ empty_reply p (events_of holds.operations) Switch q.choked | message ∷ later ↦ Message message ])) holds.lane_queue
    ∙ taken_first lane (is_ended (phase_of (events_of holds.operations))) (is_fresh (phase_of (events_of holds.operations))) false in (
      first,
      record {
        operations = Take Switch taken ∷ holds.operations;
        stands = answered.stands;
        events = holds.events;
        queues = holds.queues;
        lane_queue = ap without_first holds.lane_queue;
      },
    )

queue_less : (b : Bool) (q : Queue) (messages others : List (List ℕ)) → q ≡ waiting (if b then messages else others) → (if b then without_first q else q) ≡ waiting (if b then drop 1 messages else others)
queue_less true q messages others is = ap without_first is
queue_less false q messages others is = is

own_queue : (slot : ℕ) (messages others : List (List ℕ)) (b : Bool) (q : Queue) → b ≡ true → q ≡ waiting (if b then messages else others) → q ≡ waiting messages
own_queue slot messages others b q own is = subst (λ (k : Bool). q ≡ waiting (if k then messages else others)) own is

-- the first message for a slice is taken
pub take_slice : (p : PolicyView) (h : List Timed) (slot : ℕ) (slices : ℕ → List (List ℕ)) (messages lane : List (List ℕ)) (old new : Desk) (taken : Taken) → Takes old (Slice slot) taken new
    → Holds p h (with_waiting slot messages slices) lane old → (message_taken taken ≡ slice_get messages 0) × Holds p h (with_waiting slot (drop 1 messages) slices) lane new
take_slice p h slot slices messages lane old new taken takes holds =
    let answered = takes p holds.operations holds.stands in
    let evs = events_of holds.operations in
    let own : queue_of p slot holds.operations ≡ waiting messages = own_queue slot messages (slices slot) (slot == slot) (queue_of p slot holds.operations) (eq-eqb slot slot refl) (holds.queues slot) in
    let first : message_taken taken ≡ slice_get messages 0 =
    ap message_taken answered.right
    ∙ ap (λ (q : Queue). message_taken (elim q.pending [ [] ↦ empty_reply p evs (Slice slot) q.choked | message ∷ later ↦ Message message ])) own
    ∙ taken_first messages (is_ended (phase_of evs) || not (is_slot p slot) || (is_open (phase_of evs) && not (is_slice_up p slot evs))) (not (is_open (phase_of evs))) false in (
      first,
      record {
        operations = Take (Slice slot) taken ∷ holds.operations;
        stands = answered.stands;
        events = holds.events;
        queues = λ other. queue_less (slot == other) (queue_of p other holds.operations) messages (slices other) (holds.queues other);
        lane_queue = holds.lane_queue;
      },
    )

-- nothing is there, so that a take may be left out
none_there : (messages : List (List ℕ)) → false ≡ not (length messages == 0) → messages ≡ []
none_there [] is = refl
none_there (message ∷ later) is = absurd (true≢false (sym (is ∙ ap not (ne_eqb (length (message ∷ later)) 0 (λ e. absurd (omega (arith, e)))))))

pub unasked_lane : (p : PolicyView) (h : List Timed) (slices : ℕ → List (List ℕ)) (lane : List (List ℕ)) (desk : Desk) → TellsWaiting desk Switch false → Holds p h slices lane desk
    → (None ≡ slice_get lane 0) × Holds p h slices (drop 1 lane) desk
unasked_lane p h slices lane desk told holds =
    let none = none_there lane (told p holds.operations holds.stands ∙ ap (λ (q : Queue). not (length q.pending == 0)) holds.lane_queue) in (
      sym (ap (λ messages. slice_get messages 0) none),
      subst (λ messages. Holds p h slices (drop 1 messages) desk) (sym none) (subst (λ messages. Holds p h slices messages desk) none holds),
    )

pub unasked_slice : (p : PolicyView) (h : List Timed) (slot : ℕ) (slices : ℕ → List (List ℕ)) (messages lane : List (List ℕ)) (desk : Desk) → TellsWaiting desk (Slice slot) false
    → Holds p h (with_waiting slot messages slices) lane desk → (None ≡ slice_get messages 0) × Holds p h (with_waiting slot (drop 1 messages) slices) lane desk
unasked_slice p h slot slices messages lane desk told holds =
    let own : queue_of p slot holds.operations ≡ waiting messages = own_queue slot messages (slices slot) (slot == slot) (queue_of p slot holds.operations) (eq-eqb slot slot refl) (holds.queues slot) in
    let none = none_there messages (told p holds.operations holds.stands ∙ ap (λ (q : Queue). not (length q.pending == 0)) own) in (
      sym (ap (λ ms. slice_get ms 0) none),
      subst (λ ms. Holds p h (with_waiting slot (drop 1 ms) slices) lane desk) (sym none) (subst (λ ms. Holds p h (with_waiting slot ms slices) lane desk) none holds),
    )

-- ---- questions

-- whether a slice is up
pub up_told : (p : PolicyView) (h : List Timed) (slot : ℕ) (desk : Desk) (up : Bool) → TellsUp desk slot up → IsQuiet p h desk → up ≡ is_slice_up p slot h
up_told p h slot desk up told quiet = told p quiet.operations quiet.stands ∙ ap (is_slice_up p slot) quiet.events

-- whether the switch's connection has ended
pub end_told : (p : PolicyView) (h : List Timed) (desk : Desk) (ended : Bool) → TellsEnd desk ended → IsQuiet p h desk → ended ≡ is_ended (phase_of h)
end_told p h desk ended told quiet = told p quiet.operations quiet.stands ∙ ap (λ events. is_ended (phase_of events)) quiet.events

-- ---- steps

-- what waits for one destination after an event, where nothing waited
all_wait : (limit : ℕ) (b : Bool) (q : Queue) (messages : List (List ℕ)) → q ≡ waiting [] → size messages ≤ limit → push_all limit (if b then no_messages else q) messages ≡ waiting messages
all_wait limit b q messages is fits = ap (λ k. push_all limit k messages) (either_empty b q is) ∙ push_all-kept limit [] messages (omega arith)

verdict_over : (a b : Bool) → verdicts.Ended ≡ (if a then verdicts.Ended else if b then Close else Go) → a ≡ true
verdict_over true b is = refl
verdict_over false true is = absurd cc
verdict_over false false is = absurd cc

verdict_on : (v : Verdict) (a b : Bool) → (v ≡ verdicts.Ended → ⊥) → v ≡ (if a then verdicts.Ended else if b then Close else Go) → a ≡ false
verdict_on v true b unlike is = absurd (unlike is)
verdict_on v false b unlike is = refl

-- an event that isn't taken in
pub step_over : (p : PolicyView) (h : List Timed) (timed : Timed) (old new : Desk) → Steps old timed (Ok verdicts.Ended) new → IsQuiet p h old → After p h timed false new
step_over p h timed old new steps quiet =
    let replied = steps p quiet.operations quiet.stands in
    let evs = events_of quiet.operations in (
      subst (λ events. is_over events ≡ true) quiet.events (verdict_over (is_over evs) (closes p evs timed) replied.right),
      record { operations = Step timed (Ok verdicts.Ended) ∷ quiet.operations; stands = replied.stands; events = quiet.events; queues = quiet.queues; lane_queue = quiet.lane_queue },
    )

-- an event that is taken in
step_in : (p : PolicyView) (h : List Timed) (timed : Timed) (old new : Desk) (v : Verdict) → takes_in (Ok v) ≡ true → Steps old timed (Ok v) new → IsQuiet p h old → AreFramed h → IsFramed timed.event → After p h timed true new
step_in p h timed old new v takes steps quiet framed one =
    let replied = steps p quiet.operations quiet.stands in
    let evs = events_of quiet.operations in
    let fits = answers_fit p evs timed (subst AreFramed (sym quiet.events) framed) one in
    subst (λ events. After p events timed true new) quiet.events (
      verdict_on v (is_over evs) (closes p evs timed) (λ e. true≢false (sym takes ∙ ap (λ (w : Verdict). takes_in (Ok w)) e)) replied.right,
      record {
        operations = Step timed (Ok v) ∷ quiet.operations;
        stands = replied.stands;
        events = rw takes refl;
        queues = λ slot. rw takes (all_wait slice_limit (empties_slice p slot evs timed) (queue_of p slot quiet.operations) (sent_by p slot evs timed) (quiet.queues slot) (fits.slices slot));
        lane_queue = rw takes (all_wait lane_limit (ends evs timed) (lane_of p quiet.operations) (lane_by p evs timed) quiet.lane_queue fits.lane);
      },
    )

-- an event with a verdict
pub stepped : (p : PolicyView) (h : List Timed) (timed : Timed) (old new : Desk) (v : Verdict) (b : Bool) → Steps old timed (Ok v) new → b ≡ takes_in (Ok v) → IsQuiet p h old → AreFramed h → IsFramed timed.event → After p h timed b new
stepped p h timed old new Go b steps is quiet framed one = subst (λ (k : Bool). After p h timed k new) (sym is) (step_in p h timed old new Go refl steps quiet framed one)
stepped p h timed old new Close b steps is quiet framed one = subst (λ (k : Bool). After p h timed k new) (sym is) (step_in p h timed old new Close refl steps quiet framed one)
stepped p h timed old new verdicts.Ended b steps is quiet framed one = subst (λ (k : Bool). After p h timed k new) (sym is) (step_over p h timed old new steps quiet)

-- the verdict on it
pub answered : (p : PolicyView) (h : List Timed) (timed : Timed) (old new : Desk) (v : Verdict) → Steps old timed (Ok v) new → IsQuiet p h old → v ≡ verdict p h timed
answered p h timed old new v steps quiet = (steps p quiet.operations quiet.stands).right ∙ ap (λ events. verdict p events timed) quiet.events

-- ---- slices one after another

below : (other at : ℕ) → at ≡ other → ltb other (at + 1) ≡ true
below other at same = grind (arith, nat_tests, same)

not_yet : (other at : ℕ) → (at == other) ≡ false → ltb other (at + 1) ≡ ltb other at
not_yet other at is = grind (arith, nat_tests, is)

next_slot : (at other : ℕ) (b : Bool) (slices : ℕ → List (List ℕ)) → (at == other) ≡ b → (if b then [] else if ltb other at then [] else slices other) ≡ (if ltb other (at + 1) then [] else slices other)
next_slot at other true slices is = let same = eqb-true at other is in rw (below other at same) refl
next_slot at other false slices is = rw (not_yet other at is) refl

-- one slot more was emptied
pub holds_next : (p : PolicyView) (h : List Timed) (at : ℕ) (slices : ℕ → List (List ℕ)) (lane : List (List ℕ)) (desk : Desk) → Holds p h (with_waiting at [] (from_slot at slices)) lane desk → Holds p h (from_slot (at + 1) slices) lane desk
holds_next p h at slices lane desk holds = holds_same p h (with_waiting at [] (from_slot at slices)) (from_slot (at + 1) slices) lane desk (λ other. next_slot at other (at == other) slices refl) holds

none_waits : (b : Bool) (q : Queue) (messages : List (List ℕ)) → (b ≡ false → q ≡ waiting []) → q ≡ waiting (if b then [] else messages) → q ≡ waiting []
none_waits true q messages beyond is = is
none_waits false q messages beyond is = beyond refl

-- all slots were emptied
pub holds_none : (p : PolicyView) (h : List Timed) (slices : ℕ → List (List ℕ)) (lane : List (List ℕ)) (desk : Desk) → Holds p h (from_slot (length p.slices) slices) lane desk → Holds p h nothing lane desk
holds_none p h slices lane desk holds = record {
  operations = holds.operations;
  stands = holds.stands;
  events = holds.events;
  queues = λ slot. none_waits (is_slot p slot) (queue_of p slot holds.operations) (slices slot) (holds.stands.body.beyond slot) (holds.queues slot);
  lane_queue = holds.lane_queue;
}
