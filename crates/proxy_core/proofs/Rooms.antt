-- Queues and states, as they are made; the places of a session; and loops over messages.
use Rattle.std.proofs.Common.{◌≡◌, ℕ, ◌+◌, ◌<◌, ◌&&◌, Bool, true, false, List, [], ◌∷◌, ◌++◌, length, set, get_or, slice_get, refl, ap, ap₂, sym, ◌∙◌, subst, inl, inr, Option, Some, None, arith}
use Rattle.std.specs.Prelude.{ltb}
use Rattle.std.proofs.lemmas.Bool.{lt-ltb, ltb-true, and_parts}
use Rattle.std.proofs.lemmas.List.{length-append, length-set}
use Rattle.std.proofs.lemmas.Option.{none-some, same_Some, slice_get_read}
use Rattle.flowspace.specs.declared.slices.Slice.{Slice}
use Rattle.flow_book.specs.declared.state.SliceState.{SliceState}
use Rattle.flow_book.specs.States.{IsFreshState}
use Rattle.outbox.specs.Queues.{Queue, push, push_all, OutboxState}
use Rattle.proxy_core.specs.declared.desk.Session.{Session}
use Rattle.proxy_core.specs.Desks.{pending_at}
use Rattle.proxy_core.specs.Opening.{has_side_at, is_up_at, AtSlot}
use Rattle.proxy_core.proofs.Lists.{there, within}
use Rattle.proxy_core.proofs.Places.{get_set, get_other, get_more, set_there}

pub pushed_more : (limit : ℕ) (now : Queue) (message : List ℕ) (later all : List (List ℕ)) → all ≡ message ∷ later → push_all limit (push limit now message) later ≡ push_all limit now all
unfolding push_all
pushed_more limit now message later all is = sym (ap (push_all limit now) is)

pub all_pushed : (limit : ℕ) (now q : Queue) (left all messages : List (List ℕ)) → left ≡ [] → push_all limit now left ≡ push_all limit q all → all ≡ messages → now ≡ push_all limit q messages
unfolding push_all
all_pushed limit now q left all messages none same is = sym (ap (push_all limit now) none) ∙ same ∙ ap (push_all limit q) is

-- ---- queues and states that are made

pub fresh_first : (slices : List Slice) (states : List SliceState) → states ≡ []
    → (slot : ℕ) (slice : Slice) (state : SliceState) → slice_get slices slot ≡ Some slice → slice_get states slot ≡ Some state → IsFreshState slot slice state
fresh_first slices states none slot slice state gs g = absurd (none-some state (sym (ap (λ (l : List SliceState). slice_get l slot) none) ∙ g))

pub fresh_more : (slices : List Slice) (states more : List SliceState) (place : ℕ) (slice : Slice) (state : SliceState) → length states ≡ place → slice_get slices place ≡ Some slice → IsFreshState place slice state
    → more ≡ states ++ state ∷ []
    → ((slot : ℕ) (one : Slice) (its : SliceState) → slice_get slices slot ≡ Some one → slice_get states slot ≡ Some its → IsFreshState slot one its)
    → (slot : ℕ) (one : Slice) (its : SliceState) → slice_get slices slot ≡ Some one → slice_get more slot ≡ Some its → IsFreshState slot one its
fresh_more slices states more place slice state count at fresh is before slot one its go g = elim (get_more states state slot its (subst (λ (l : List SliceState). slice_get l slot ≡ Some its) is g)) [
  | inl early ↦ before slot one its go early
  | inr last ↦
      let here : slot ≡ place = last.0 ∙ count in
      let same : slice ≡ one = same_Some _ _ (sym at ∙ subst (λ (k : ℕ). slice_get slices k ≡ Some one) here go) in
      subst (λ (k : ℕ). IsFreshState k one its) (sym here) (subst (λ (s : Slice). IsFreshState place s its) same (subst (λ (k : SliceState). IsFreshState place slice k) last.1 fresh))
]

pub one_longer : {A : Type 0} (xs zs : List A) (x : A) (n : ℕ) → zs ≡ xs ++ x ∷ [] → length xs ≡ n → length zs ≡ n + 1
one_longer xs zs x n is count = ap length is ∙ length-append xs (x ∷ []) ∙ omega (arith, count)

-- ---- one slot of a session

in_states : (session : Session) (slot : ℕ) → has_side_at session slot ≡ true → slot < length session.states.items
in_states session slot is = ltb-true slot (length session.states.items) ((and_parts (ltb slot (length session.states.items)) (ltb slot (length session.queues.items)) is).0)

pub there_up : (session : Session) (slot : ℕ) → is_up_at session slot ≡ true → has_side_at session slot ≡ true
there_up session slot is = (and_parts (has_side_at session slot) (elim (slice_get session.states.items slot) as (λ o. Bool) [ None ↦ false | Some state ↦ state.up ]) is).0

in_queues : (session : Session) (slot : ℕ) → has_side_at session slot ≡ true → slot < length session.queues.items
in_queues session slot is = ltb-true slot (length session.queues.items) ((and_parts (ltb slot (length session.states.items)) (ltb slot (length session.queues.items)) is).1)

placed : (slot at : ℕ) (Becomes : SliceState → OutboxState → SliceState → OutboxState → Type 0) (old new : Session) (a x : SliceState) (b y : OutboxState) → at ≡ slot
    → new.policy ≡ old.policy → new.features ≡ old.features → new.ports ≡ old.ports
    → new.states.items ≡ set old.states.items at x → new.queues.items ≡ set old.queues.items at y
    → slice_get old.states.items at ≡ Some a → slice_get old.queues.items at ≡ Some b → Becomes a b x y → AtSlot slot Becomes old new
placed slot at Becomes old new a x b y here policy features ports states queues ga gb becomes = record {
  policy = policy;
  features = features;
  ports = ports;
  states_count = ap length states ∙ length-set old.states.items at x;
  queues_count = ap length queues ∙ length-set old.queues.items at y;
  own = λ a2 b2 x2 y2 ga2 gb2 gx2 gy2.
      let is_a : a ≡ a2 = same_Some _ _ (sym ga ∙ subst (λ (k : ℕ). slice_get old.states.items k ≡ Some a2) (sym here) ga2) in
      let is_b : b ≡ b2 = same_Some _ _ (sym gb ∙ subst (λ (k : ℕ). slice_get old.queues.items k ≡ Some b2) (sym here) gb2) in
      let is_x : x ≡ x2 = same_Some _ _ (sym (get_set old.states.items at a x ga) ∙ subst (λ (l : List SliceState). slice_get l at ≡ Some x2) states (subst (λ (k : ℕ). slice_get new.states.items k ≡ Some x2) (sym here) gx2)) in
      let is_y : y ≡ y2 = same_Some _ _ (sym (get_set old.queues.items at b y gb) ∙ subst (λ (l : List OutboxState). slice_get l at ≡ Some y2) queues (subst (λ (k : ℕ). slice_get new.queues.items k ≡ Some y2) (sym here) gy2)) in
      subst (λ (k : SliceState). Becomes k b2 x2 y2) is_a (subst (λ (k : OutboxState). Becomes a k x2 y2) is_b (subst (λ (k : SliceState). Becomes a b k y2) is_x (subst (λ (k : OutboxState). Becomes a b x k) is_y becomes)));
  others = λ i far. (
    ap (λ (l : List SliceState). slice_get l i) states ∙ get_other old.states.items at i x (λ e. far (e ∙ here)),
    ap (λ (l : List OutboxState). slice_get l i) queues ∙ get_other old.queues.items at i y (λ e. far (e ∙ here)),
  );
}

is_there : (session : Session) (slot : ℕ) (a : SliceState) (b : OutboxState) → slice_get session.states.items slot ≡ Some a → slice_get session.queues.items slot ≡ Some b → has_side_at session slot ≡ true
is_there session slot a b ga gb = ap₂ (λ (x y : Bool). x && y) (within session.states.items slot a ga) (within session.queues.items slot b gb)

-- the queue that was read at a place
pub queue_read : (slot at : ℕ) (session : Session) (queue : OutboxState) → at ≡ slot → has_side_at session slot ≡ true → queue ≡ get_or session.queues.items at queue → slice_get session.queues.items at ≡ Some queue
queue_read slot at session queue here has read =
    let q = in_queues session slot has in
    slice_get_read session.queues.items (length session.queues.items) at queue refl (omega (arith, q, here)) read

-- the state that was read at a place
pub state_read : (slot at : ℕ) (session : Session) (read : SliceState) → at ≡ slot → has_side_at session slot ≡ true → read ≡ get_or session.states.items at read
    → (state : SliceState) → slice_get session.states.items slot ≡ Some state → read ≡ state
state_read slot at session read here has is state g =
    let s = in_states session slot has in
    same_Some _ _ (sym (slice_get_read session.states.items (length session.states.items) at read refl (omega (arith, s, here)) is)
    ∙ subst (λ (k : ℕ). slice_get session.states.items k ≡ Some state) (sym here) g)

-- what was at a place, where the state and the queue were read there
pub placed_here : (slot at : ℕ) (Becomes : SliceState → OutboxState → SliceState → OutboxState → Type 0) (old new : Session) (a x : SliceState) (b y : OutboxState) → at ≡ slot → has_side_at old slot ≡ true
    → new.policy ≡ old.policy → new.features ≡ old.features → new.ports ≡ old.ports
    → new.states.items ≡ set old.states.items at x → new.queues.items ≡ set old.queues.items at y
    → a ≡ get_or old.states.items at a → b ≡ get_or old.queues.items at b → Becomes a b x y → AtSlot slot Becomes old new
placed_here slot at Becomes old new a x b y here has policy features ports states queues ga gb becomes =
    let s = in_states old slot has in
    placed slot at Becomes old new a x b y here policy features ports states queues
    (slice_get_read old.states.items (length old.states.items) at a refl (omega (arith, s, here)) ga) (queue_read slot at old b here has gb) becomes

-- the queue at a place was changed
pub placed_queue : (slot at : ℕ) (Becomes : SliceState → OutboxState → SliceState → OutboxState → Type 0) (old new : Session) (b y : OutboxState) → at ≡ slot → has_side_at old slot ≡ true
    → new.policy ≡ old.policy → new.features ≡ old.features → new.ports ≡ old.ports
    → new.states.items ≡ old.states.items → new.queues.items ≡ set old.queues.items at y
    → slice_get old.queues.items at ≡ Some b → ((a : SliceState) → Becomes a b a y) → AtSlot slot Becomes old new
placed_queue slot at Becomes old new b y here has policy features ports states queues gb becomes =
    let s = in_states old slot has in
    let a = there old.states.items at (lt-ltb at (length old.states.items) (omega (arith, s, here))) in
    placed slot at Becomes old new a.0 a.0 b y here policy features ports (states ∙ sym (set_there old.states.items at a.0 a.1)) queues a.1 gb (becomes a.0)

-- how many messages wait at a place
pub waits_at : (session : Session) (slot : ℕ) (queue : OutboxState) → slice_get session.queues.items slot ≡ Some queue → length queue.pending ≡ pending_at slot (Some session)
waits_at session slot queue g = sym (ap (λ (o : Option OutboxState). elim o [ None ↦ 0 | Some q ↦ length q.pending ]) g)
