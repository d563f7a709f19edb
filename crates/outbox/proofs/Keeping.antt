-- What a queue makes of messages that are within the limit, and of those that aren't.
use Rattle.std.proofs.Common.{◌≡◌, ◌⊎◌, ℕ, ◌+◌, ◌-◌, ◌<◌, ◌≤◌, ◌||◌, true, false, ltb, List, [], ◌∷◌, ◌++◌, length, refl, sym, ap, ◌∙◌, inl, inr, arith, append_assoc}
use Rattle.std.proofs.lemmas.Bool.{cases_Bool, lt-ltb, le-ltb, ltb-false, or_parts, or_left, or_right}
use Rattle.std.proofs.lemmas.List.{append-nil}
use Rattle.std.proofs.lemmas.List.Sums.{sum_by-append, sum_by-cons}
use Rattle.outbox.specs.Queues.{Queue, size, push, push_all, OutboxState, QueueStands}

-- one message behind others
pub size-push : (pending : List (List ℕ)) (message : List ℕ) → size (pending ++ message ∷ []) ≡ size pending + length message
size-push pending message = sum_by-append length pending (message ∷ []) ∙ omega arith

pub push-kept : (limit : ℕ) (pending : List (List ℕ)) (message : List ℕ) → size pending + length message ≤ limit
    → push limit (record { pending = pending; choked = false }) message ≡ record { pending = pending ++ message ∷ []; choked = false }
unfolding push
push-kept limit pending message h = rw (le-ltb limit (size pending + length message) h) refl

pub push-passing : (limit : ℕ) (pending : List (List ℕ)) (message : List ℕ) → limit < size pending + length message
    → push limit (record { pending = pending; choked = false }) message ≡ record { pending = pending; choked = true }
unfolding push
push-passing limit pending message h = rw (lt-ltb limit (size pending + length message) h) refl

pub push-choked : (limit : ℕ) (pending : List (List ℕ)) (message : List ℕ)
    → push limit (record { pending = pending; choked = true }) message ≡ record { pending = pending; choked = true }
unfolding push
push-choked limit pending message = refl

pub push_all-kept : (limit : ℕ) (pending messages : List (List ℕ)) → size pending + size messages ≤ limit
    → push_all limit (record { pending = pending; choked = false }) messages ≡ record { pending = pending ++ messages; choked = false }
unfolding push_all
push_all-kept limit pending [] h = ap (λ (p : List (List ℕ)). let q : Queue = record { pending = p; choked = false } in q) (sym (append-nil pending))
push_all-kept limit pending (message ∷ later) h =
    let whole = size-push pending message in
    let all = sum_by-cons length message later in
    ap (λ q. push_all limit q later) (push-kept limit pending message (omega arith))
    ∙ push_all-kept limit (pending ++ message ∷ []) later (omega arith)
    ∙ ap (λ (p : List (List ℕ)). let q : Queue = record { pending = p; choked = false } in q) (append_assoc pending (message ∷ []) later)

pub push_all-choked : (limit : ℕ) (pending messages : List (List ℕ))
    → push_all limit (record { pending = pending; choked = true }) messages ≡ record { pending = pending; choked = true }
unfolding push_all
push_all-choked limit pending [] = refl
push_all-choked limit pending (message ∷ later) =
    ap (λ q. push_all limit q later) (push-choked limit pending message) ∙ push_all-choked limit pending later

pub push_all-none : (limit : ℕ) (q : Queue) → push_all limit q [] ≡ q
unfolding push_all
push_all-none limit q = refl

pub push_all-one : (limit : ℕ) (q : Queue) (message : List ℕ) → push_all limit q (message ∷ []) ≡ push limit q message
unfolding push_all
push_all-one limit q message = refl

pub push_all-append : (limit : ℕ) (q : Queue) (messages later : List (List ℕ)) → push_all limit q (messages ++ later) ≡ push_all limit (push_all limit q messages) later
unfolding push_all
push_all-append limit q [] later = refl
push_all-append limit q (message ∷ messages) later = push_all-append limit (push limit q message) messages later

push-within : (limit : ℕ) (q : Queue) (message : List ℕ) → size q.pending ≤ limit → size (push limit q message).pending ≤ limit
unfolding push
push-within limit q message h = elim (cases_Bool (q.choked || ltb limit (size q.pending + length message))) [
  | inl dropped ↦ rw dropped h
  | inr kept ↦
      let fits = ltb-false limit (size q.pending + length message) (or_parts q.choked (ltb limit (size q.pending + length message)) kept).1 in
      rw kept (rw (size-push q.pending message) (omega arith))
]

pub push_all-within : (limit : ℕ) (q : Queue) (messages : List (List ℕ)) → size q.pending ≤ limit → size (push_all limit q messages).pending ≤ limit
unfolding push_all
push_all-within limit q [] h = h
push_all-within limit q (message ∷ later) h = push_all-within limit (push limit q message) later (push-within limit q message h)

-- ---- what an outbox keeps after one message more

pub stands-dropped : (limit : ℕ) (q : Queue) (kept : OutboxState) (message : List ℕ) → QueueStands limit q kept
    → (kept.choked ≡ true) ⊎ (kept.limit - kept.bytes < length message) → QueueStands limit (push limit q message) (record kept { choked = true })
unfolding push
stands-dropped limit q kept message s cause =
    let dropped : (q.choked || ltb limit (size q.pending + length message)) ≡ true = elim cause [
      | inl choked ↦ or_left q.choked (ltb limit (size q.pending + length message)) (sym s.choked ∙ choked)
      | inr long ↦ or_right q.choked (ltb limit (size q.pending + length message)) (lt-ltb limit (size q.pending + length message) (omega arith))
    ] in
    rw dropped (record { pending = s.pending; choked = refl; bytes = s.bytes; bound = s.bound; within = s.within })

pub stands-kept : (limit : ℕ) (q : Queue) (kept after : OutboxState) (message : List ℕ) → QueueStands limit q kept
    → kept.choked ≡ false → 1 ≤ length message → length message ≤ kept.limit - kept.bytes
    → after.pending ≡ kept.pending ++ message ∷ [] → after.choked ≡ false → after.bytes ≡ kept.bytes + length message → after.limit ≡ kept.limit
    → QueueStands limit (push limit q message) after
unfolding push
stands-kept limit q kept after message s free some fits pending choked bytes bound =
    let was = s.bytes in
    let same = s.bound in
    let within = s.within in
    let is : (q.choked || ltb limit (size q.pending + length message)) ≡ false =
    rw (sym s.choked ∙ free, le-ltb limit (size q.pending + length message) (omega arith)) refl in
    let longer = size-push q.pending message in
    rw is (record {
      pending = pending ∙ ap (λ (p : List (List ℕ)). p ++ message ∷ []) s.pending;
      choked = choked ∙ sym free ∙ s.choked;
      bytes = omega arith;
      bound = bound ∙ s.bound;
      within = omega arith;
    })
