-- What is taken of a queue is what was sent, in order, up to what was dropped.
use Rattle.std.proofs.Common.{◌≡◌, ℕ, ◌+◌, ◌≤◌, ◌||◌, nat_lt, Bool, true, false, if◌then◌else◌, List, [], ◌∷◌, ◌++◌, length, Result, refl, ap, sym, subst, arith, ◌∙◌, append_assoc, append-nil, true≢false, eqb-true}
use Rattle.std.proofs.lemmas.Bool.{or_parts}
use Rattle.flowspace.specs.Policies.{PolicyView}
use Rattle.std.specs.declared.alloc.AllocError.{AllocError}
use Rattle.outbox.specs.Queues.{Queue, no_messages, size, push, push_all, without_first}
use Rattle.outbox.proofs.Keeping.{push_all-kept}
use Rattle.desk_words.specs.declared.event.Timed.{Timed}
use Rattle.desk_words.specs.declared.dest.Dest.{Dest}
use Rattle.desk_words.specs.declared.dest.Dest.TheVariants.{Switch, Slice}
use Rattle.desk_words.specs.declared.verdict.Verdict.{Verdict}
use Rattle.desk_words.specs.declared.taken.Taken.{Taken}
use Rattle.desk_words.specs.declared.taken.Taken.TheVariants.{Message, Nothing, Choked, Ended, NotOpen}
use Rattle.desk_words.specs.Openings.{phase_of}
use Rattle.desk_words.specs.Histories.{is_slice_up}
use Rattle.desk_words.specs.Sent.{sent_by, lane_by}
use Rattle.desk_words.specs.Operations.{Operation, Step, Take, takes_in, events_of, empties_slice, ends, queue_event, lane_event, slice_limit, lane_limit, is_switch, is_slice, queue_of, lane_of, waiting_of, is_gone, is_early, empty_reply, take_reply, IsLegal}
use Rattle.desk_words.specs.Laws.{message_in, sent_since, taken_since, lane_since, lane_taken_since, AreInOrder, AllWait, SliceWaits, LaneWaits}

-- ---- messages are put

in_order_choked : (messages taken : List (List ℕ)) (q : Queue) (m : List ℕ) → AreInOrder messages taken q → AreInOrder (messages ++ m ∷ []) taken (record q { choked = true })
in_order_choked messages taken q m o = record {
  dropped = o.dropped ++ m ∷ [];
  order =
      ap (λ (rest : List (List ℕ)). taken ++ rest) (sym (append_assoc q.pending o.dropped (m ∷ [])))
      ∙ sym (append_assoc taken (q.pending ++ o.dropped) (m ∷ [])) ∙ ap (λ (all : List (List ℕ)). all ++ m ∷ []) o.order;
  kept = λ free. absurd (true≢false free);
}

in_order_kept : (messages taken : List (List ℕ)) (q : Queue) (m : List ℕ) → q.choked ≡ false → AreInOrder messages taken q → AreInOrder (messages ++ m ∷ []) taken (record q { pending = q.pending ++ m ∷ [] })
in_order_kept messages taken q m free o = record {
  dropped = [];
  order =
      ap (λ (rest : List (List ℕ)). taken ++ rest) (append-nil (q.pending ++ m ∷ []))
      ∙ sym (append_assoc taken q.pending (m ∷ []))
      ∙ ap (λ (all : List (List ℕ)). all ++ m ∷ []) (ap (λ (rest : List (List ℕ)). taken ++ rest) (sym (append-nil q.pending ∙ refl)) ∙ ap (λ (rest : List (List ℕ)). taken ++ (q.pending ++ rest)) (sym (o.kept free)) ∙ o.order);
  kept = λ _. refl;
}

by_test : (messages taken : List (List ℕ)) (q : Queue) (m : List ℕ) (full : Bool) → ((full ≡ false) → q.choked ≡ false) → AreInOrder messages taken q
    → AreInOrder (messages ++ m ∷ []) taken (if full then record q { choked = true } else record q { pending = q.pending ++ m ∷ [] })
by_test messages taken q m true free o = in_order_choked messages taken q m o
by_test messages taken q m false free o = in_order_kept messages taken q m (free refl) o

pushed : (limit : ℕ) (messages taken : List (List ℕ)) (q : Queue) (m : List ℕ) → AreInOrder messages taken q → AreInOrder (messages ++ m ∷ []) taken (push limit q m)
unfolding push
pushed limit messages taken q m o =
    by_test messages taken q m (q.choked || nat_lt limit (size q.pending + length m)) (λ free. (or_parts q.choked (nat_lt limit (size q.pending + length m)) free).0) o

pushed_all : (limit : ℕ) (messages taken : List (List ℕ)) (q : Queue) (more : List (List ℕ)) → AreInOrder messages taken q → AreInOrder (messages ++ more) taken (push_all limit q more)
unfolding push_all
pushed_all limit messages taken q [] o = subst (λ (all : List (List ℕ)). AreInOrder all taken q) (sym (append-nil messages)) o
pushed_all limit messages taken q (m ∷ more) o =
    subst (λ (all : List (List ℕ)). AreInOrder all taken (push_all limit (push limit q m) more)) (append_assoc messages (m ∷ []) more)
    (pushed_all limit (messages ++ m ∷ []) taken (push limit q m) more (pushed limit messages taken q m o))

empty_order : AreInOrder [] [] no_messages
empty_order = record { dropped = []; order = refl; kept = λ _. refl }

-- a queue is emptied, or stays, before messages are put
after_event : (limit : ℕ) (empties : Bool) (messages taken : List (List ℕ)) (q : Queue) (more : List (List ℕ)) → AreInOrder messages taken q
    → AreInOrder ((if empties then [] else messages) ++ more) (if empties then [] else taken) (push_all limit (if empties then no_messages else q) more)
after_event limit true messages taken q more o = pushed_all limit [] [] no_messages more empty_order
after_event limit false messages taken q more o = pushed_all limit messages taken q more o

-- ---- messages are taken

taken_one : (messages taken pending : List (List ℕ)) (choked : Bool) (reply empty : Taken) → AreInOrder messages taken (record { pending = pending; choked = choked }) → message_in empty ≡ []
    → reply ≡ elim pending [ [] ↦ empty | m ∷ later ↦ Message m ] → AreInOrder messages (taken ++ message_in reply) (without_first (record { pending = pending; choked = choked }))
taken_one messages taken [] choked reply empty o none is = record {
  dropped = o.dropped;
  order = ap (λ (m : List (List ℕ)). (taken ++ m) ++ o.dropped) (ap message_in is ∙ none) ∙ ap (λ (m : List (List ℕ)). m ++ o.dropped) (append-nil taken) ∙ o.order;
  kept = o.kept;
}
taken_one messages taken (m ∷ later) choked reply empty o none is = record {
  dropped = o.dropped;
  order = ap (λ (t : Taken). (taken ++ message_in t) ++ (later ++ o.dropped)) is ∙ append_assoc taken (m ∷ []) (later ++ o.dropped) ∙ o.order;
  kept = o.kept;
}

no_message : (policy : PolicyView) (h : List Timed) (dest : Dest) (choked : Bool) (gone early : Bool)
    → message_in (if gone then Ended else if early then NotOpen else if choked then Choked else Nothing) ≡ []
no_message policy h dest choked true early = refl
no_message policy h dest choked false true = refl
no_message policy h dest true false false = refl
no_message policy h dest false false false = refl

-- ---- one operation

-- a step changes what was sent and taken where it is taken in
step_order : (limit : ℕ) (empties : Bool) (messages taken : List (List ℕ)) (q : Queue) (more : List (List ℕ)) (taken_in : Bool) → AreInOrder messages taken q
    → AreInOrder (if taken_in then (if empties then [] else messages) ++ more else messages) (if taken_in then (if empties then [] else taken) else taken)
    (if taken_in then push_all limit (if empties then no_messages else q) more else q)
step_order limit empties messages taken q more true o = after_event limit empties messages taken q more o
step_order limit empties messages taken q more false o = o

-- a take is of this queue or leaves it
take_order : (policy : PolicyView) (before : List Operation) (dest : Dest) (reply : Taken) (messages taken : List (List ℕ)) (q : Queue) (own : Bool)
    → (own ≡ true → waiting_of policy dest before ≡ q) → AreInOrder messages taken q → reply ≡ take_reply policy before dest
    → AreInOrder messages (if own then taken ++ message_in reply else taken) (if own then without_first q else q)
take_order policy before dest reply messages taken q true same o is =
    taken_one messages taken q.pending q.choked reply (empty_reply policy (events_of before) dest q.choked) o
    (no_message policy (events_of before) dest q.choked (is_gone policy (phase_of (events_of before)) (λ s. is_slice_up policy s (events_of before)) dest) (is_early (phase_of (events_of before)) dest))
    (is ∙ ap (λ (w : Queue). elim w.pending [ [] ↦ empty_reply policy (events_of before) dest w.choked | m ∷ later ↦ Message m ]) (same refl))
take_order policy before dest reply messages taken q false same o is = o

-- ---- a slice's queue

own_queue : (policy : PolicyView) (slot : ℕ) (before : List Operation) (dest : Dest) → is_slice slot dest ≡ true → waiting_of policy dest before ≡ queue_of policy slot before
own_queue policy slot before Switch is = absurd (true≢false (sym is))
own_queue policy slot before (Slice other) is = ap (λ (s : ℕ). queue_of policy s before) (eqb-true other slot is)

pub slice_order : (policy : PolicyView) (slot : ℕ) (ops : List Operation) → IsLegal policy ops → AreInOrder (sent_since policy slot ops) (taken_since policy slot ops) (queue_of policy slot ops)
slice_order policy slot [] legal = empty_order
slice_order policy slot (Step timed reply ∷ before) legal =
    step_order slice_limit (empties_slice policy slot (events_of before) timed) (sent_since policy slot before) (taken_since policy slot before) (queue_of policy slot before)
    (sent_by policy slot (events_of before) timed) (takes_in reply) (slice_order policy slot before legal.1)
slice_order policy slot (Take dest reply ∷ before) legal =
    take_order policy before dest reply (sent_since policy slot before) (taken_since policy slot before) (queue_of policy slot before) (is_slice slot dest)
    (own_queue policy slot before dest) (slice_order policy slot before legal.1) legal.0

-- ---- the switch's queue

own_lane : (policy : PolicyView) (before : List Operation) (dest : Dest) → is_switch dest ≡ true → waiting_of policy dest before ≡ lane_of policy before
own_lane policy before Switch is = refl
own_lane policy before (Slice other) is = absurd (true≢false (sym is))

pub lane_order : (policy : PolicyView) (ops : List Operation) → IsLegal policy ops → AreInOrder (lane_since policy ops) (lane_taken_since policy ops) (lane_of policy ops)
lane_order policy [] legal = empty_order
lane_order policy (Step timed reply ∷ before) legal =
    step_order lane_limit (ends (events_of before) timed) (lane_since policy before) (lane_taken_since policy before) (lane_of policy before)
    (lane_by policy (events_of before) timed) (takes_in reply) (lane_order policy before legal.1)
lane_order policy (Take dest reply ∷ before) legal =
    take_order policy before dest reply (lane_since policy before) (lane_taken_since policy before) (lane_of policy before) (is_switch dest)
    (own_lane policy before dest) (lane_order policy before legal.1) legal.0

-- ---- what waits where there is room

unchoked_waits : (limit : ℕ) (pending messages : List (List ℕ)) (choked : Bool) → choked ≡ false → size pending + size messages ≤ limit
    → push_all limit (record { pending = pending; choked = choked }) messages ≡ record { pending = pending ++ messages; choked = false }
unchoked_waits limit pending messages true free room = absurd (true≢false free)
unchoked_waits limit pending messages false free room = push_all-kept limit pending messages room

all_wait : (limit : ℕ) (empties : Bool) (messages : List (List ℕ)) (q : Queue) → AllWait limit empties messages q (push_all limit (if empties then no_messages else q) messages)
all_wait limit true messages q = record {
  alone = λ _ room. push_all-kept limit [] messages (omega arith);
  behind = λ stays. absurd (true≢false stays);
}
all_wait limit false messages q = record {
  alone = λ emptied. absurd (true≢false (sym emptied));
  behind = λ _ free room. unchoked_waits limit q.pending messages q.choked free room;
}

pub slice_waits : (policy : PolicyView) (slot : ℕ) (before : List Operation) (timed : Timed) (reply : Result Verdict AllocError) → SliceWaits policy slot before timed reply
slice_waits policy slot before timed reply is =
    let h = events_of before in
    let q = queue_of policy slot before in
    subst (λ (in_it : Bool). AllWait slice_limit (empties_slice policy slot h timed) (sent_by policy slot h timed) q (if in_it then queue_event policy slot h timed q else q))
    (sym is) (all_wait slice_limit (empties_slice policy slot h timed) (sent_by policy slot h timed) q)

pub lane_waits : (policy : PolicyView) (before : List Operation) (timed : Timed) (reply : Result Verdict AllocError) → LaneWaits policy before timed reply
lane_waits policy before timed reply is =
    let h = events_of before in
    let q = lane_of policy before in
    subst (λ (in_it : Bool). AllWait lane_limit (ends h timed) (lane_by policy h timed) q (if in_it then lane_event policy h timed q else q))
    (sym is) (all_wait lane_limit (ends h timed) (lane_by policy h timed) q)
