-- A desk after a take.
use Rattle.std.proofs.Common.{◌≡◌, ℕ, ◌==◌, ◌&&◌, ◌||◌, not, Bool, true, false, if◌then◌else◌, List, slice_get, refl, ap, ap₂, subst, sym, ◌∙◌, true≢false, inl, inr, ◌⊎◌, Option, Some, None}
use Rattle.std.proofs.lemmas.Bool.{eq-eqb, ne_eqb}
use Rattle.flowspace.specs.Policies.{PolicyView}
use Rattle.flow_book.specs.declared.state.SliceState.{SliceState}
use Rattle.outbox.specs.Queues.{Queue, no_messages, without_first, OutboxState, QueueStands}
use Rattle.slice_words.specs.Items.{is_up}
use Rattle.slice_words.specs.Standing.{SliceStands}
use Rattle.desk_words.specs.declared.phase.Phase.{Phase}
use Rattle.desk_words.specs.declared.phase.Phase.TheVariants.{Fresh, Begun, Opened}
use Rattle.desk_words.specs.declared.dest.Dest.{Dest}
use Rattle.desk_words.specs.declared.dest.Dest.TheVariants.{Switch, Slice}
use Rattle.desk_words.specs.declared.taken.Taken.{Taken}
use Rattle.desk_words.specs.declared.taken.Taken.TheVariants as takens
use Rattle.desk_words.specs.declared.taken.Taken.TheVariants.{Message, Nothing, Choked, NotOpen}
use Rattle.desk_words.specs.Openings.{KnownSwitch as Known}
use Rattle.desk_words.specs.Histories.{is_slot, settings_at, SliceSide, is_open}
use Rattle.desk_words.specs.Verdicts.{is_ended}
use Rattle.desk_words.specs.Operations.{slice_limit, lane_limit, why_none}
use Rattle.proxy_core.specs.declared.desk.Session.{Session}
use Rattle.proxy_core.specs.declared.desk.Desk.{Desk}
use Rattle.proxy_core.specs.Desks.{SessionStands, Opens, up_now, queues_less, TakesNext, silence_before, IsSilence, is_message, Shrinks}
use Rattle.proxy_core.specs.Opening.{has_side_at, is_up_at, AtSlot, IsNext, silence_at}
use Rattle.proxy_core.proofs.Standing.{slots_are, slot_becomes, slot_there, change_there}
use Rattle.proxy_core.proofs.Acting.{is_opened}
use Rattle.proxy_core.proofs.Events.{before_in, shut_before}
use Rattle.proxy_core.proofs.Sliced.{up_state}

-- ---- the first message of a slice

less_if : (b : Bool) (q : Queue) → q ≡ no_messages → (if b then without_first q else q) ≡ no_messages
less_if true q is = ap without_first is
less_if false q is = is

by_place : (p : PolicyView) (switch : Known) (sides : ℕ → SliceSide) (qs : ℕ → Queue) (a : Session) (slot : ℕ) (next : Option (List ℕ)) (b : Session) → SessionStands p switch sides qs a → AtSlot slot (IsNext next) a b → (has_side_at a slot ≡ false → next ≡ None)
    → (is_slot p slot ≡ false → qs slot ≡ no_messages) → (here : Bool) → is_slot p slot ≡ here → next ≡ slice_get (qs slot).pending 0
by_place p switch sides qs a slot next b s at nowhere beyond false is =
    nowhere (slots_are p switch sides qs a slot s ∙ is) ∙ sym (ap (λ (q : Queue). slice_get q.pending 0) (beyond is))
by_place p switch sides qs a slot next b s at nowhere beyond true is =
    let c = change_there p switch sides qs slot (IsNext next) a b s at is in
    (c.4.1 slice_limit (qs slot) c.5.queue_stands).0

less_one : (slot i : ℕ) (q : Queue) (b : Bool) → (slot == i) ≡ b → (if slot == i then without_first q else q) ≡ (if b then without_first q else q)
less_one slot i q b is = ap (λ (k : Bool). if k then without_first q else q) is

session_less : (p : PolicyView) (switch : Known) (sides : ℕ → SliceSide) (qs : ℕ → Queue) (a : Session) (slot : ℕ) (next : Option (List ℕ)) (b : Session) → SessionStands p switch sides qs a → AtSlot slot (IsNext next) a b
    → SessionStands p switch sides (queues_less (Slice slot) qs) b
session_less p switch sides qs a slot next b s at = slot_becomes p switch sides qs (queues_less (Slice slot) qs) slot (IsNext next) a b s at
    (λ x y z w was taken. record {
      state_stands = subst (λ (state : SliceState). SliceStands (settings_at p slot switch.features) (sides slot).sight state) (sym taken.0) was.state_stands;
      queue_stands = subst (λ (q : Queue). QueueStands slice_limit q w) (sym (less_one slot slot (qs slot) true (eq-eqb slot slot refl))) (taken.1 slice_limit (qs slot) was.queue_stands).1;
    })
    (λ i far. less_one slot i (qs i) false (ne_eqb slot i (λ e. far (sym e))))

pub took_slice : (old : Desk) (a b : Session) (slot : ℕ) (next : Option (List ℕ)) → old.session ≡ Some a → AtSlot slot (IsNext next) a b → (has_side_at a slot ≡ false → next ≡ None)
    → TakesNext old (Slice slot) next (record old { session = Some b })
took_slice old a b slot next was at nowhere p switch sides qs ql body =
    let s = subst (λ (o : Option Session). Opens p switch sides qs o) was body.opens in
    record {
      first = by_place p switch sides qs a slot next b s at nowhere (body.beyond slot) (is_slot p slot) refl;
      body = record {
        same_policy = body.same_policy;
        phase = body.phase;
        lane = body.lane;
        opens = session_less p switch sides qs a slot next b s at;
        beyond = λ i out. less_if (slot == i) (qs i) (body.beyond i out);
      };
    }

pub took_none : (old : Desk) (slot : ℕ) → old.session ≡ None → TakesNext old (Slice slot) None old
took_none old slot was p switch sides qs ql body =
    let s = subst (λ (o : Option Session). Opens p switch sides qs o) was body.opens in
    record {
      first = sym (ap (λ (q : Queue). slice_get q.pending 0) (s.1 slot));
      body = record {
        same_policy = body.same_policy;
        phase = body.phase;
        lane = body.lane;
        opens = subst (λ (o : Option Session). Opens p switch sides (queues_less (Slice slot) qs) o) (sym was) (s.0, λ i. less_if (slot == i) (qs i) (s.1 i));
        beyond = λ i out. less_if (slot == i) (qs i) (body.beyond i out);
      };
    }

-- ---- the first message for the switch

pub took_lane : (old : Desk) (lane : OutboxState) (next : Option (List ℕ)) → ((limit : ℕ) (q : Queue) → QueueStands limit q old.lane → next ≡ slice_get q.pending 0)
    → ((limit : ℕ) (q : Queue) → QueueStands limit q old.lane → QueueStands limit (without_first q) lane) → TakesNext old Switch next (record old { lane = lane })
took_lane old lane next value stands p switch sides qs ql body = record {
  first = value lane_limit ql body.lane;
  body = record { same_policy = body.same_policy; phase = body.phase; lane = stands lane_limit ql body.lane; opens = body.opens; beyond = body.beyond };
}

-- ---- nothing waits

silent_up : (open_ here up : Bool) (choked : Bool) (phase : Phase) (said : Taken) → phase ≡ Opened → here ≡ true → up ≡ true → said ≡ (if choked then Choked else Nothing)
    → said ≡ (if is_ended phase || not here || (is_open phase && not (is_open phase && up)) then takens.Ended else if not (is_open phase) then NotOpen else if choked then Choked else Nothing)
silent_up open_ here up choked phase said o h u is = is ∙ sym (rw (o, h, u) refl)

silent_gone : (here up choked : Bool) (phase : Phase) → phase ≡ Opened → (here && up) ≡ false
    → takens.Ended ≡ (if is_ended phase || not here || (is_open phase && not (is_open phase && up)) then takens.Ended else if not (is_open phase) then NotOpen else if choked then Choked else Nothing)
silent_gone true true choked phase o gone = absurd (true≢false gone)
silent_gone true false choked phase o gone = sym (rw o refl)
silent_gone false up choked phase o gone = sym (rw o refl)

at_up : (a : Session) (slot : ℕ) (queue : OutboxState) → is_up_at a slot ≡ true → slice_get a.queues.items slot ≡ Some queue → silence_at slot a ≡ (if queue.choked then Choked else Nothing)
at_up a slot queue up g =
    ap₂ (λ (b : Bool) (o : Option OutboxState). if b then elim o [ None ↦ takens.Ended | Some q ↦ if q.choked then Choked else Nothing ] else takens.Ended) up g

at_down : (a : Session) (slot : ℕ) → is_up_at a slot ≡ false → silence_at slot a ≡ takens.Ended
at_down a slot down = ap (λ (b : Bool). if b then elim (slice_get a.queues.items slot) [ None ↦ takens.Ended | Some q ↦ if q.choked then Choked else Nothing ] else takens.Ended) down

not_here : (a : Session) (slot : ℕ) → has_side_at a slot ≡ false → is_up_at a slot ≡ false
not_here a slot out = ap (λ (b : Bool). b && elim (slice_get a.states.items slot) [ None ↦ false | Some state ↦ state.up ]) out

silence_cases : (p : PolicyView) (switch : Known) (sides : ℕ → SliceSide) (qs : ℕ → Queue) (a : Session) (slot : ℕ) (here up : Bool) → SessionStands p switch sides qs a → switch.phase ≡ Opened → is_slot p slot ≡ here → is_up (sides slot).sight.view ≡ up
    → silence_at slot a ≡ why_none p switch.phase (up_now switch sides) (Slice slot) (qs slot).choked
silence_cases p switch sides qs a slot false up s open_ here is =
    at_down a slot (not_here a slot (slots_are p switch sides qs a slot s ∙ here))
    ∙ silent_gone (is_slot p slot) (is_up (sides slot).sight.view) (qs slot).choked switch.phase open_ (ap (λ (b : Bool). b && is_up (sides slot).sight.view) here)
silence_cases p switch sides qs a slot true false s open_ here is =
    at_down a slot (up_state p switch sides qs a slot s here ∙ is)
    ∙ silent_gone (is_slot p slot) (is_up (sides slot).sight.view) (qs slot).choked switch.phase open_ (ap₂ (λ (b c : Bool). b && c) here is)
silence_cases p switch sides qs a slot true true s open_ here is =
    let at = slot_there p switch sides qs a slot s here in
    silent_up true (is_slot p slot) (is_up (sides slot).sight.view) (qs slot).choked switch.phase (silence_at slot a) open_ here is
    (at_up a slot at.1 (up_state p switch sides qs a slot s here ∙ is) at.3 ∙ ap (λ (b : Bool). if b then Choked else Nothing) at.4.queue_stands.choked)

not_ended : (phase : Phase) → (phase ≡ Fresh) ⊎ ((phase ≡ Begun) ⊎ (phase ≡ Opened)) → is_ended phase ≡ false
not_ended phase (inl is) = ap is_ended is
not_ended phase (inr (inl is)) = ap is_ended is
not_ended phase (inr (inr is)) = ap is_ended is

pub silence_known : (desk : Desk) (a : Session) (slot : ℕ) (taken : Taken) → desk.session ≡ Some a → (desk.phase ≡ Fresh) ⊎ ((desk.phase ≡ Begun) ⊎ (desk.phase ≡ Opened)) → taken ≡ silence_at slot a → IsSilence desk (Slice slot) taken
silence_known desk a slot taken was on is p switch sides qs ql fit body =
    let s = subst (λ (o : Option Session). Opens p switch sides qs o) was body.opens in
    let alive : is_ended switch.phase ≡ false = ap is_ended (sym body.phase) ∙ not_ended desk.phase on in
    is ∙ silence_cases p switch sides qs a slot (is_slot p slot) (is_up (sides slot).sight.view) s (is_opened p switch sides qs a fit s alive) refl refl

early_cases : (ended open_ here up choked : Bool) → ended ≡ false → open_ ≡ false
    → (if here then NotOpen else takens.Ended) ≡ (if ended || not here || (open_ && not (open_ && up)) then takens.Ended else if not open_ then NotOpen else if choked then Choked else Nothing)
early_cases ended open_ true up choked e o = sym (rw (e, o) refl)
early_cases ended open_ false up choked e o = sym (rw e refl)

pub silence_early : (desk : Desk) (slot : ℕ) (taken : Taken) → desk.session ≡ None → (desk.phase ≡ Fresh) ⊎ ((desk.phase ≡ Begun) ⊎ (desk.phase ≡ Opened)) → taken ≡ silence_before desk.policy slot → IsSilence desk (Slice slot) taken
silence_early desk slot taken was on is p switch sides qs ql fit body =
    let s = subst (λ (o : Option Session). Opens p switch sides qs o) was body.opens in
    let alive : is_ended switch.phase ≡ false = ap is_ended (sym body.phase) ∙ not_ended desk.phase on in
    is ∙ ap (λ (v : PolicyView). silence_before v slot) body.same_policy
    ∙ early_cases (is_ended switch.phase) (is_open switch.phase) (is_slot p slot) (is_up (sides slot).sight.view) (qs slot).choked alive (shut_before switch.phase (before_in p switch sides qs fit s alive))

-- what is no message makes nothing shorter
pub shrinks_not : (dest : Dest) (taken : Taken) (old new : Desk) → is_message taken ≡ false → Shrinks dest taken old new
shrinks_not dest (Message message) old new is = absurd (true≢false is)
shrinks_not dest Nothing old new is = tt
shrinks_not dest Choked old new is = tt
shrinks_not dest takens.Ended old new is = tt
shrinks_not dest NotOpen old new is = tt
