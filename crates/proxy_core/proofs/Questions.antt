-- What a desk says without a change of it.
use Rattle.std.proofs.Common.{◌≡◌, ℕ, ◌==◌, ◌&&◌, ltb, not, Bool, true, false, List, length, refl, ap, ap₂, subst, sym, ◌∙◌, Option, Some, None, option_map, slice_get, arith}
use Rattle.std.proofs.lemmas.Bool.{ltb-false, lt-ltb}
use Rattle.std.proofs.lemmas.Option.{slice_get_past, slice_get_within}
use Rattle.of10_port.specs.declared.features.Features.{Features}
use Rattle.flowspace.specs.Policies.{PolicyView}
use Rattle.flow_book.specs.declared.state.SliceState.{SliceState}
use Rattle.outbox.specs.Queues.{Queue, no_messages, OutboxState}
use Rattle.slice_words.specs.Items.{is_up}
use Rattle.slice_words.specs.Standing.{SliceStands}
use Rattle.desk_words.specs.declared.dest.Dest.TheVariants.{Switch, Slice}
use Rattle.desk_words.specs.Openings.{KnownSwitch as Known, switch_of, phase_of}
use Rattle.desk_words.specs.Histories.{is_slot, settings_at, SliceSide, side_of, is_open}
use Rattle.desk_words.specs.Verdicts.{is_ended}
use Rattle.desk_words.specs.Operations.{Operation, events_of, queue_of}
use Rattle.proxy_core.specs.declared.desk.Session.{Session}
use Rattle.proxy_core.specs.declared.desk.Desk.{Desk}
use Rattle.proxy_core.specs.Desks.{SessionStands, Opens, DeskStands, TellsWaiting, TellsEnd, TellsOpening, TellsUp, TellsStates, TellsDatapath, left, pending_at}
use Rattle.proxy_core.specs.Opening.{is_up_at}
use Rattle.proxy_core.proofs.Standing.{slots_are, slot_there}
use Rattle.proxy_core.proofs.Acting.{shut_in}
use Rattle.proxy_core.proofs.Sliced.{up_state}
use Rattle.proxy_core.proofs.Fitting.{coherent}

-- as many messages wait at a slot as its queue has
queue_length : (p : PolicyView) (switch : Known) (sides : ℕ → SliceSide) (qs : ℕ → Queue) (a : Session) (slot : ℕ) → SessionStands p switch sides qs a → (is_slot p slot ≡ false → qs slot ≡ no_messages)
    → (here : Bool) → is_slot p slot ≡ here → pending_at slot (Some a) ≡ length (qs slot).pending
queue_length p switch sides qs a slot s beyond false out =
    ap (λ (o : Option OutboxState). elim o [ None ↦ 0 | Some queue ↦ length queue.pending ]) (slice_get_past a.queues.items slot (ltb-false slot (length a.queues.items) (ap (λ (n : ℕ). ltb slot n) s.queues_count ∙ out)))
    ∙ sym (ap (λ (q : Queue). length q.pending) (beyond out))
queue_length p switch sides qs a slot s beyond true here =
    let at = slot_there p switch sides qs a slot s here in
    ap (λ (o : Option OutboxState). elim o [ None ↦ 0 | Some queue ↦ length queue.pending ]) at.3 ∙ ap length at.4.queue_stands.pending

slice_length : (desk : Desk) (p : PolicyView) (ops : List Operation) (slot : ℕ) (o : Option Session) → desk.session ≡ o → DeskStands p ops desk → pending_at slot o ≡ length (queue_of p slot ops).pending
slice_length desk p ops slot None was s =
    let opens = subst (λ (o : Option Session). Opens p (switch_of (events_of ops)) (λ i. side_of p i (events_of ops)) (λ i. queue_of p i ops) o) was s.body.opens in
    sym (ap (λ (q : Queue). length q.pending) (opens.1 slot))
slice_length desk p ops slot (Some a) was s =
    let opens = subst (λ (o : Option Session). Opens p (switch_of (events_of ops)) (λ i. side_of p i (events_of ops)) (λ i. queue_of p i ops) o) was s.body.opens in
    queue_length p (switch_of (events_of ops)) (λ i. side_of p i (events_of ops)) (λ i. queue_of p i ops) a slot opens (s.body.beyond slot) (is_slot p slot) refl

pub slice_waits : (desk : Desk) (slot : ℕ) → TellsWaiting desk (Slice slot) (not (left (Slice slot) desk == 0))
slice_waits desk slot p ops s = ap (λ (n : ℕ). not (n == 0)) (slice_length desk p ops slot desk.session refl s)

pub lane_waits : (desk : Desk) → TellsWaiting desk Switch (not (left Switch desk == 0))
lane_waits desk p ops s = ap (λ (messages : List (List ℕ)). not (length messages == 0)) s.body.lane.pending

-- ---- who is up

with_session : (p : PolicyView) (switch : Known) (sides : ℕ → SliceSide) (qs : ℕ → Queue) (a : Session) (slot : ℕ) (open_ : Bool) → SessionStands p switch sides qs a → (is_slot p slot ≡ false → is_up (sides slot).sight.view ≡ false)
    → (here : Bool) → is_slot p slot ≡ here → (open_ && is_up_at a slot) ≡ (open_ && is_up (sides slot).sight.view)
with_session p switch sides qs a slot open_ s beyond true here = ap (λ (up : Bool). open_ && up) (up_state p switch sides qs a slot s here)
with_session p switch sides qs a slot open_ s beyond false out =
    ap₂ (λ (b up : Bool). open_ && (b && up)) (slots_are p switch sides qs a slot s ∙ out) refl ∙ sym (ap (λ (up : Bool). open_ && up) (beyond out))

up_with : (desk : Desk) (p : PolicyView) (ops : List Operation) (slot : ℕ) (a : Session) (open_ : Bool) → desk.session ≡ Some a → open_ ≡ is_open desk.phase → DeskStands p ops desk
    → (open_ && is_up_at a slot) ≡ (is_open (phase_of (events_of ops)) && is_up (side_of p slot (events_of ops)).sight.view)
up_with desk p ops slot a open_ was is s =
    let h = events_of ops in
    let opens = subst (λ (o : Option Session). Opens p (switch_of h) (λ i. side_of p i h) (λ i. queue_of p i ops) o) was s.body.opens in
    let down : is_slot p slot ≡ false → is_up (side_of p slot h).sight.view ≡ false = λ out. ap (λ sight. is_up sight.view) ((coherent p h).beyond slot out) in
    with_session p (switch_of h) (λ i. side_of p i h) (λ i. queue_of p i ops) a slot open_ opens down (is_slot p slot) refl
    ∙ ap (λ (b : Bool). b && is_up (side_of p slot h).sight.view) (is ∙ ap is_open s.body.phase)

pub up_in_session : (desk : Desk) (slot : ℕ) (a : Session) (open_ : Bool) → desk.session ≡ Some a → open_ ≡ is_open desk.phase → TellsUp desk slot (open_ && is_up_at a slot)
up_in_session desk slot a open_ was is p ops s = up_with desk p ops slot a open_ was is s

pub nobody_up : (desk : Desk) (slot : ℕ) → desk.session ≡ None → TellsUp desk slot false
nobody_up desk slot was p ops s =
    let h = events_of ops in
    let opens = subst (λ (o : Option Session). Opens p (switch_of h) (λ i. side_of p i h) (λ i. queue_of p i ops) o) was s.body.opens in
    sym (ap (λ (b : Bool). b && is_up (side_of p slot h).sight.view) (shut_in (phase_of h) (switch_of h).features (coherent p h).open_told opens.0))

pub end_told : (desk : Desk) → TellsEnd desk (is_ended desk.phase)
end_told desk p ops s = ap is_ended s.body.phase

pub opening_told : (desk : Desk) → TellsOpening desk (is_open desk.phase)
opening_told desk p ops s = ap is_open s.body.phase

-- ---- what is kept

opened : (desk : Desk) (p : PolicyView) (ops : List Operation) (o : Option Session) → desk.session ≡ o → DeskStands p ops desk → Opens p (switch_of (events_of ops)) (λ i. side_of p i (events_of ops)) (λ i. queue_of p i ops) o
opened desk p ops o was s = subst (λ (o : Option Session). Opens p (switch_of (events_of ops)) (λ i. side_of p i (events_of ops)) (λ i. queue_of p i ops) o) was s.body.opens

state_kept : (p : PolicyView) (switch : Known) (sides : ℕ → SliceSide) (qs : ℕ → Queue) (a : Session) → SessionStands p switch sides qs a → (slot : ℕ) (state : SliceState) → slice_get a.states.items slot ≡ Some state
    → SliceStands (settings_at p slot (Some a.features)) (sides slot).sight state
state_kept p switch sides qs a s slot state is =
    let within = slice_get_within a.states.items slot state is in
    let here : is_slot p slot ≡ true = lt-ltb slot (length p.slices) (omega (arith, within, s.states_count)) in
    let at = slot_there p switch sides qs a slot s here in
    subst (λ (told : Option Features). SliceStands (settings_at p slot told) (sides slot).sight state) s.told (s.each slot state at.1 is at.3).state_stands

pub states_told : (desk : Desk) (a : Session) → desk.session ≡ Some a → TellsStates desk (Some a.states.items)
states_told desk a was p ops s =
    let h = events_of ops in
    let stands : SessionStands p (switch_of h) (λ i. side_of p i h) (λ i. queue_of p i ops) a = opened desk p ops (Some a) was s in
    (a.features, stands.told, stands.states_count, state_kept p (switch_of h) (λ i. side_of p i h) (λ i. queue_of p i ops) a stands)

pub nothing_kept : (desk : Desk) → desk.session ≡ None → TellsStates desk None
nothing_kept desk was p ops s = (opened desk p ops None was s).0

pub datapath_told : (desk : Desk) (a : Session) → desk.session ≡ Some a → TellsDatapath desk (Some a.features.datapath)
datapath_told desk a was p ops s =
    let h = events_of ops in
    let stands : SessionStands p (switch_of h) (λ i. side_of p i h) (λ i. queue_of p i ops) a = opened desk p ops (Some a) was s in
    sym (ap (option_map (λ (features : Features). features.datapath)) stands.told)

pub no_datapath : (desk : Desk) → desk.session ≡ None → TellsDatapath desk None
no_datapath desk was p ops s = sym (ap (option_map (λ (features : Features). features.datapath)) (opened desk p ops None was s).0)
