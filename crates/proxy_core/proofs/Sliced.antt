-- A desk with a session after an event of a slice's connection.
use Rattle.std.proofs.Common.{◌≡◌, ◌≢◌, ℕ, ◌==◌, ◌&&◌, ◌||◌, not, Bool, true, false, if◌then◌else◌, List, [], ◌∷◌, map, slice_get, refl, ap, ap₂, subst, sym, ◌∙◌, true≢false, eqb-true, append-nil, inl, inr, Option, Some, None, option_map}
use Rattle.std.proofs.lemmas.Bool.{cases_Bool, eqb-false, and_parts}
use Rattle.of10_port.specs.declared.features.Features.{Features}
use Rattle.flowspace.specs.declared.slices.Slice.{Slice}
use Rattle.flowspace.specs.declared.rules.Rule.{Rule}
use Rattle.flowspace.specs.declared.swaps.Swap.{Swap}
use Rattle.flowmod_expand.specs.Pieces.{writes_of}
use Rattle.flowspace.specs.Policies.{PolicyView}
use Rattle.flowspace.specs.Swaps.{pairs_of}
use Rattle.port_view.specs.SlicePorts.{ports_of_slice}
use Rattle.flow_book.specs.declared.state.SliceState.{SliceState}
use Rattle.outbox.specs.Queues.{Queue, push_all, OutboxState, QueueStands}
use Rattle.slice_words.specs.Messages.{is_dismissing}
use Rattle.slice_words.specs.Items.{Settings, Item, Msg, is_up}
use Rattle.slice_words.specs.Alone.{put_for, answer_to, shown_to, with_items, rendered}
use Rattle.slice_words.proofs.Dismissing.{ends}
use Rattle.slice_side.specs.Reactions.{Sees}
use Rattle.desk_words.specs.declared.event.Event.{Event}
use Rattle.desk_words.specs.declared.event.Event.TheVariants.{SliceUp, SliceMsg, SliceDown}
use Rattle.desk_words.specs.declared.event.Timed.{Timed}
use Rattle.desk_words.specs.declared.phase.Phase.{Phase}
use Rattle.desk_words.specs.declared.phase.Phase.TheVariants.{Opened}
use Rattle.desk_words.specs.Openings.{rules_of, phase_after, known_after, KnownSwitch, switch_after}
use Rattle.desk_words.specs.Histories.{is_slot, settings_at, own_features, SliceSide, items_of, is_open}
use Rattle.desk_words.specs.Sent.{lane_in, put_with}
use Rattle.desk_words.specs.Verdicts.{is_fresh, is_ended}
use Rattle.desk_words.specs.Operations.{slice_limit, lane_limit, empties, is_ending}
use Rattle.desk_words.proofs.Erasing.{slices_switch}
use Rattle.switch_side.specs.declared.spare.Spare.{Spare}
use Rattle.proxy_core.specs.declared.desk.Session.{Session}
use Rattle.proxy_core.specs.declared.desk.Desk.{Desk}
use Rattle.proxy_core.specs.Slots.{Comes, Keeps, Heard, Hears, SameQueue}
use Rattle.proxy_core.specs.Desks.{SlotStands, SessionStands, Opens, Body, Coherent, sides_after, up_after, queues_after, lane_after, closes_now, Acts, Stays}
use Rattle.proxy_core.specs.Opening.{has_side_at, is_up_at, AtSlot, Goes, StandsOn}
use Rattle.proxy_core.proofs.Lists.{there}
use Rattle.proxy_core.proofs.Fitting.{settings_known, ports_same}
use Rattle.proxy_core.proofs.Standing.{slot_after, items_opened, slots_are, slot_there, change_there}
use Rattle.proxy_core.proofs.Slices.{one_slot, kept_slot, others_up, others_down, others_msg, shown_msg, up_comes, comes_slot, goes_slot}
use Rattle.proxy_core.proofs.Acting.{body_after, is_opened, session_passes, lane_is, lane_stays}

-- ---- the desk has a session

pub stands_in : (p : PolicyView) (switch : KnownSwitch) (sides : ℕ → SliceSide) (qs : ℕ → Queue) (session : Session) (o : Option Session) → o ≡ Some session → Opens p switch sides qs o → SessionStands p switch sides qs session
stands_in p switch sides qs session o is opens = subst (λ (k : Option Session). Opens p switch sides qs k) is opens

-- a lack of memory changes nothing
pub stays_on : (old new : Desk) (a b : Session) → old.session ≡ Some a → new.policy ≡ old.policy → new.phase ≡ old.phase → SameQueue old.lane new.lane → new.session ≡ Some b → StandsOn a b → Stays old new
stays_on old new a b was policy phase lane now on p switch sides qs ql body = record {
  same_policy = policy ∙ body.same_policy;
  phase = phase ∙ body.phase;
  lane = lane _ ql body.lane;
  opens = subst (λ (k : Option Session). Opens p switch sides qs k) (sym now) (on p switch sides qs (stands_in p switch sides qs a old.session was body.opens));
  beyond = body.beyond;
}

pub stays_kept : (old new : Desk) (a b : Session) (slot : ℕ) → old.session ≡ Some a → new.policy ≡ old.policy → new.phase ≡ old.phase → SameQueue old.lane new.lane → new.session ≡ Some b → AtSlot slot Keeps a b → Stays old new
stays_kept old new a b slot was policy phase lane now at = stays_on old new a b was policy phase lane now (kept_slot slot a b at)

-- the lane alone
pub stays_same : (old new : Desk) → new.policy ≡ old.policy → new.phase ≡ old.phase → SameQueue old.lane new.lane → new.session ≡ old.session → Stays old new
stays_same old new policy phase lane now p switch sides qs ql body = record {
  same_policy = policy ∙ body.same_policy;
  phase = phase ∙ body.phase;
  lane = lane _ ql body.lane;
  opens = subst (λ (k : Option Session). Opens p switch sides qs k) (sym now) body.opens;
  beyond = body.beyond;
}

-- memory that a session keeps changes nothing
pub spare_stands : (session : Session) (spare : Spare) → StandsOn session (record session { spare = spare })
spare_stands session spare p switch sides qs s = record { told = s.told; slices = s.slices; rules = s.rules; swaps = s.swaps; known = s.known; states_count = s.states_count; queues_count = s.queues_count; each = s.each }

-- what it stood for after an event it stands for still
pub acts_stays : (old mid new : Desk) (timed : Timed) (go : Bool) → Acts old timed go mid → Stays mid new → Acts old timed go new
acts_stays old mid new timed go acts stays p switch sides qs ql fit body on =
    let acted = acts p switch sides qs ql fit body on in
    record { body = stays p _ _ _ _ acted.body; goes_on = acted.goes_on }

-- ---- verdicts

phase_same : (switch : KnownSwitch) (event : Event) → switch_after switch event ≡ switch → phase_after switch.phase event ≡ switch.phase
phase_same switch event is = ap (λ (k : KnownSwitch). k.phase) is

known_same : (switch : KnownSwitch) (event : Event) → switch_after switch event ≡ switch → known_after switch.phase switch.known event ≡ switch.known
known_same switch event is = ap (λ (k : KnownSwitch). k.known) is

no_end : (switch : KnownSwitch) (timed : Timed) → phase_after switch.phase timed.event ≡ switch.phase → is_ended switch.phase ≡ false → is_ending switch.phase timed.event ≡ false
no_end switch timed stays on = ap₂ (λ (a b : Bool). not a && b) on (ap is_ended stays ∙ on)

goes_up : (fresh there here up : Bool) → fresh ≡ false → there ≡ here → (here ≡ true → up ≡ true) → there ≡ not ((fresh && true) || not here || (not false && not up))
goes_up fresh there true up f is comes = is ∙ sym (rw (f, comes refl) refl)
goes_up fresh there false up f is comes = is ∙ sym (rw f refl)

goes_down : (fresh there here : Bool) → fresh ≡ false → there ≡ here → there ≡ not ((fresh && true) || not here || false)
goes_down fresh there true f is = is ∙ sym (rw f refl)
goes_down fresh there false f is = is ∙ sym (rw f refl)

-- ---- the desk after an event of a slice

-- nothing that a slice does changes what is known of the switch
abbrev StaysSame : Event → Type 0
StaysSame event = (switch : KnownSwitch) → switch_after switch event ≡ switch

-- by the lane and the session after it
slice_body : (p : PolicyView) (switch : KnownSwitch) (sides : ℕ → SliceSide) (qs : ℕ → Queue) (ql : Queue) (timed : Timed) (old new : Desk) (b : Session) → StaysSame timed.event
    → Body p switch sides qs ql old → new.policy ≡ old.policy → new.phase ≡ old.phase → new.session ≡ Some b
    → QueueStands lane_limit (lane_after p switch sides ql timed) new.lane
    → SessionStands p (switch_after switch timed.event) (sides_after p switch sides timed) (queues_after p switch sides qs timed) b
    → Body p (switch_after switch timed.event) (sides_after p switch sides timed) (queues_after p switch sides qs timed) (lane_after p switch sides ql timed) new
slice_body p switch sides qs ql timed old new b still body policy phase now lane stands =
    body_after p switch sides qs ql timed old new body policy (phase ∙ body.phase ∙ sym (phase_same switch timed.event (still switch))) lane
    (subst (λ (k : Option Session). Opens p (switch_after switch timed.event) (sides_after p switch sides timed) (queues_after p switch sides qs timed) k) (sym now) stands)

-- the lane as it was
lane_same : (p : PolicyView) (switch : KnownSwitch) (sides : ℕ → SliceSide) (ql : Queue) (timed : Timed) (old new : OutboxState) → StaysSame timed.event → is_ended switch.phase ≡ false → switch.phase ≡ Opened
    → lane_in (λ i. put_with p i switch (sides i) timed) Opened timed.event ≡ [] → QueueStands lane_limit ql old → new ≡ old → QueueStands lane_limit (lane_after p switch sides ql timed) new
lane_same p switch sides ql timed old new still on opened silent stands same =
    subst (λ (k : OutboxState). QueueStands lane_limit (lane_after p switch sides ql timed) k) (sym same)
    (lane_stays p switch sides ql timed old stands (no_end switch timed (phase_same switch timed.event (still switch)) on)
    (ap (λ (k : Phase). lane_in (λ i. put_with p i switch (sides i) timed) k timed.event) opened ∙ silent))

-- what becomes of a slot at an event of its slice
abbrev Follows : ℕ → Event → ℕ → (SliceState → OutboxState → SliceState → OutboxState → Type 0) → Type 0
Follows slot event moment Becomes =
    (p : PolicyView) (switch : KnownSwitch) (sides : ℕ → SliceSide) (qs : ℕ → Queue) (a : SliceState) (b : OutboxState) (x : SliceState) (y : OutboxState) → switch.phase ≡ Opened → is_slot p slot ≡ true
    → SlotStands p slot switch (sides slot) (qs slot) a b → Becomes a b x y
    → SlotStands p slot switch (sides_after p switch sides (record { event = event; moment = moment }) slot) (queues_after p switch sides qs (record { event = event; moment = moment }) slot) x y

-- the slice's connection began or ended
moved : (old new : Desk) (a b : Session) (slot moment : ℕ) (event : Event) (Becomes : SliceState → OutboxState → SliceState → OutboxState → Type 0) (there_ : Bool) → StaysSame event
    → old.session ≡ Some a → new.policy ≡ old.policy → new.phase ≡ old.phase → new.lane ≡ old.lane → new.session ≡ Some b → there_ ≡ has_side_at a slot → AtSlot slot Becomes a b
    → ((f : ℕ → List (List ℕ)) → lane_in f Opened event ≡ [])
    → ((p : PolicyView) (switch : KnownSwitch) (sides : ℕ → SliceSide) (i : ℕ) → i ≢ slot
    → (items_of p i switch (sides i) (record { event = event; moment = moment }) ≡ []) × (empties i (up_after p switch sides (record { event = event; moment = moment }) i) event ≡ false))
    → Follows slot event moment Becomes
    → ((p : PolicyView) (switch : KnownSwitch) (sides : ℕ → SliceSide) → switch.phase ≡ Opened → there_ ≡ is_slot p slot → there_ ≡ not (closes_now p switch sides (record { event = event; moment = moment })))
    → Acts old (record { event = event; moment = moment }) there_ new
moved old new a b slot moment event Becomes there_ still was policy phase lane now is at silent others own goes p switch sides qs ql fit body on =
    let timed : Timed = record { event = event; moment = moment } in
    let stands = stands_in p switch sides qs a old.session was body.opens in
    let opened = is_opened p switch sides qs a fit stands on in
    record {
      body = slice_body p switch sides qs ql timed old new b still body policy phase now
          (lane_same p switch sides ql timed old.lane new.lane still on opened (silent (λ i. put_with p i switch (sides i) timed)) body.lane lane)
          (one_slot p switch sides qs timed slot Becomes a b stands at (known_same switch event (still switch)) (others p switch sides) (λ x y z w. own p switch sides qs x y z w opened));
      goes_on = goes p switch sides opened (is ∙ slots_are p switch sides qs a slot stands);
    }

pub came : (old new : Desk) (a b : Session) (slot moment : ℕ) (there_ : Bool) → old.session ≡ Some a → new.policy ≡ old.policy → new.phase ≡ old.phase → new.lane ≡ old.lane → new.session ≡ Some b
    → there_ ≡ has_side_at a slot → AtSlot slot Comes a b → Acts old (record { event = SliceUp slot; moment = moment }) there_ new
came old new a b slot moment there_ was policy phase lane now is at =
    moved old new a b slot moment (SliceUp slot) Comes there_ (λ switch. slices_switch switch (SliceUp slot) refl) was policy phase lane now is at (λ f. refl)
    (λ p switch sides. others_up p switch sides slot moment) (λ p switch sides qs. comes_slot p switch sides qs slot moment)
    (λ p switch sides opened here. goes_up (is_fresh switch.phase) there_ (is_slot p slot) (up_after p switch sides (record { event = SliceUp slot; moment = moment }) slot) (ap is_fresh opened) here
    (λ is_here. up_comes p switch sides slot moment opened is_here))

pub went : (old new : Desk) (a b : Session) (slot moment : ℕ) (there_ : Bool) → old.session ≡ Some a → new.policy ≡ old.policy → new.phase ≡ old.phase → new.lane ≡ old.lane → new.session ≡ Some b
    → there_ ≡ has_side_at a slot → AtSlot slot Goes a b → Acts old (record { event = SliceDown slot; moment = moment }) there_ new
went old new a b slot moment there_ was policy phase lane now is at =
    moved old new a b slot moment (SliceDown slot) Goes there_ (λ switch. slices_switch switch (SliceDown slot) refl) was policy phase lane now is at (λ f. refl)
    (λ p switch sides. others_down p switch sides slot moment) (λ p switch sides qs. goes_slot p switch sides qs slot moment)
    (λ p switch sides opened here. goes_down (is_fresh switch.phase) there_ (is_slot p slot) (ap is_fresh opened) here)

-- ---- a message of it, where it is up

-- what the slice is sent of its switch is what it saw
pub sees : (p : PolicyView) (switch : KnownSwitch) (sides : ℕ → SliceSide) (qs : ℕ → Queue) (a : Session) (slot : ℕ) → Coherent p switch sides → SessionStands p switch sides qs a → is_slot p slot ≡ true → is_up (sides slot).sight.view ≡ true
    → Sees (settings_at p slot switch.features) (sides slot).sight.view a.policy a.ports a.features slot
sees p switch sides qs a slot fit s here up =
    let saw = fit.seen a.features s.told slot here in
    let slice = there p.slices slot here in
    let known = settings_known p slot switch.features slice.0 slice.1 in
    record {
      same_slot = ap (λ (k : Settings). k.slot) known;
      same_patterns = ap (λ (k : Settings). k.patterns) known ∙ ap (λ (rules : List Rule). writes_of rules slot) (sym s.rules);
      same_swaps = ap (λ (k : Settings). k.swaps) known ∙ ap (λ (swaps : List Swap). pairs_of swaps slot) (sym s.swaps);
      same_quota = ap (λ (slices : List Slice). option_map (λ (of : Slice). of.quota) (slice_get slices slot)) s.slices ∙ ap (option_map (λ (of : Slice). of.quota)) slice.1 ∙ ap (λ (k : Settings). Some k.quota) (sym known);
      opening = own_features (settings_at p slot (Some a.features)) a.features;
      opened = saw.features_seen;
      same_features = refl;
      same_ports = saw.ports_known ∙ ports_same p slot (Some a.features) switch.known here
          ∙ ap (λ (t : Option Features). ports_of_slice (rules_of p t) slot switch.known) (sym s.told) ∙ ap₂ (λ r (k : List (List ℕ)). ports_of_slice r slot k) (sym s.rules) (sym s.known);
      up = up;
    }

-- what follows for the slice at the slot
heard_at : (p : PolicyView) (switch : KnownSwitch) (sides : ℕ → SliceSide) (qs : ℕ → Queue) (a : Session) (slot moment : ℕ) (message : List ℕ) (on : Bool) (lane new_lane : OutboxState) (x : SliceState) (y : OutboxState) (z : SliceState) (w : OutboxState)
    → Coherent p switch sides → SessionStands p switch sides qs a → is_slot p slot ≡ true → is_up (sides slot).sight.view ≡ true → SlotStands p slot switch (sides slot) (qs slot) x y
    → Hears a.policy a.ports a.features slot message moment on x y lane z w new_lane
    → Heard (settings_at p slot switch.features) (sides slot).sight (Msg message moment) on y lane z w new_lane
heard_at p switch sides qs a slot moment message on lane new_lane x y z w fit s here up one hears =
    hears (settings_at p slot switch.features) (sides slot).sight one.state_stands (sees p switch sides qs a slot fit s here up)

hears_slot : (p : PolicyView) (switch : KnownSwitch) (sides : ℕ → SliceSide) (qs : ℕ → Queue) (slot moment : ℕ) (message : List ℕ) (on : Bool) (lane new_lane : OutboxState) (x : SliceState) (y : OutboxState) (z : SliceState) (w : OutboxState) → switch.phase ≡ Opened
    → is_slot p slot ≡ true → is_up (sides slot).sight.view ≡ true → SlotStands p slot switch (sides slot) (qs slot) x y
    → Heard (settings_at p slot switch.features) (sides slot).sight (Msg message moment) on y lane z w new_lane
    → SlotStands p slot switch (sides_after p switch sides (record { event = SliceMsg slot message; moment = moment }) slot) (queues_after p switch sides qs (record { event = SliceMsg slot message; moment = moment }) slot) z w
hears_slot p switch sides qs slot moment message on lane new_lane x y z w opened here up one heard =
    slot_after p switch sides qs (record { event = SliceMsg slot message; moment = moment }) slot (Msg message moment ∷ []) false z w
    (shown_msg p switch (sides slot) slot moment message opened here up) refl refl (
      heard.stands,
      subst (λ (m : List (List ℕ)). QueueStands slice_limit (push_all slice_limit (qs slot) m) w)
          (sym (append-nil (shown_to (settings_at p slot switch.features) (answer_to (settings_at p slot switch.features) (sides slot).sight.view (Msg message moment)).to_slice))) (heard.to_slice slice_limit (qs slot) one.queue_stands),
    )

pub put_heard : (p : PolicyView) (switch : KnownSwitch) (sides : ℕ → SliceSide) (slot moment : ℕ) (message : List ℕ) → switch.phase ≡ Opened → is_slot p slot ≡ true → is_up (sides slot).sight.view ≡ true
    → put_with p slot switch (sides slot) (record { event = SliceMsg slot message; moment = moment })
    ≡ map (rendered (sides slot).sight.came) (answer_to (settings_at p slot switch.features) (sides slot).sight.view (Msg message moment)).to_switch
put_heard p switch sides slot moment message opened here up =
    ap (λ (items : List Item). map (rendered (sides slot).sight.came) (put_for (settings_at p slot switch.features) (sides slot).sight.view items)) (shown_msg p switch (sides slot) slot moment message opened here up)
    ∙ ap (map (rendered (sides slot).sight.came)) (append-nil (answer_to (settings_at p slot switch.features) (sides slot).sight.view (Msg message moment)).to_switch)

goes_heard : (fresh on here up dismissing up_then : Bool) → fresh ≡ false → here ≡ true → up ≡ true → on ≡ not (up && dismissing) → up_then ≡ (if dismissing then false else up)
    → on ≡ not ((fresh && true) || not here || (not false && not up_then))
goes_heard fresh on here up true up_then f h u is then_ = is ∙ rw (f, h, u, then_) refl
goes_heard fresh on here up false up_then f h u is then_ = is ∙ rw (f, h, then_, u) refl

up_heard : (p : PolicyView) (switch : KnownSwitch) (sides : ℕ → SliceSide) (slot moment : ℕ) (message : List ℕ) → switch.phase ≡ Opened → is_slot p slot ≡ true → is_up (sides slot).sight.view ≡ true
    → up_after p switch sides (record { event = SliceMsg slot message; moment = moment }) slot ≡ (if is_dismissing message then false else is_up (sides slot).sight.view)
up_heard p switch sides slot moment message opened here up =
    ap₂ (λ (phase : Phase) (items : List Item). is_open (phase_after phase (SliceMsg slot message)) && is_up (with_items items (sides slot).sight.view)) opened
    (shown_msg p switch (sides slot) slot moment message opened here up)

-- who is up, by the state
up_there : (a : Session) (slot : ℕ) (state : SliceState) (here : Bool) → has_side_at a slot ≡ here → slice_get a.states.items slot ≡ Some state → is_up_at a slot ≡ (here && state.up)
up_there a slot state here is g = ap₂ (λ (b : Bool) (o : Option SliceState). b && elim o [ None ↦ false | Some k ↦ k.up ]) is g

pub up_state : (p : PolicyView) (switch : KnownSwitch) (sides : ℕ → SliceSide) (qs : ℕ → Queue) (a : Session) (slot : ℕ) → SessionStands p switch sides qs a → is_slot p slot ≡ true → is_up_at a slot ≡ is_up (sides slot).sight.view
up_state p switch sides qs a slot s here =
    let at = slot_there p switch sides qs a slot s here in
    up_there a slot at.0 true (slots_are p switch sides qs a slot s ∙ here) at.2 ∙ at.4.state_stands.up

pub heard_up : (old new : Desk) (a b : Session) (slot moment : ℕ) (message : List ℕ) (on : Bool) → old.session ≡ Some a → new.policy ≡ old.policy → new.phase ≡ old.phase → new.session ≡ Some b
    → is_up_at a slot ≡ true → AtSlot slot (λ x y z w. Hears a.policy a.ports a.features slot message moment on x y old.lane z w new.lane) a b
    → Acts old (record { event = SliceMsg slot message; moment = moment }) on new
heard_up old new a b slot moment message on was policy phase now is at p switch sides qs ql fit body alive =
    let timed : Timed = record { event = SliceMsg slot message; moment = moment } in
    let stands = stands_in p switch sides qs a old.session was body.opens in
    let opened = is_opened p switch sides qs a fit stands alive in
    let still : StaysSame (SliceMsg slot message) = λ k. slices_switch k (SliceMsg slot message) refl in
    let here : is_slot p slot ≡ true = sym (slots_are p switch sides qs a slot stands) ∙ (and_parts (has_side_at a slot) (elim (slice_get a.states.items slot) as (λ o. Bool) [ None ↦ false | Some k ↦ k.up ]) is).0 in
    let up : is_up (sides slot).sight.view ≡ true = sym (up_state p switch sides qs a slot stands here) ∙ is in
    let c = change_there p switch sides qs slot (λ x y z w. Hears a.policy a.ports a.features slot message moment on x y old.lane z w new.lane) a b stands at here in
    let heard = heard_at p switch sides qs a slot moment message on old.lane new.lane c.0 c.1 c.2 c.3 fit stands here up c.5 c.4 in
    record {
      body = slice_body p switch sides qs ql timed old new b still body policy phase now
          (lane_is p switch sides ql timed false (map (rendered (sides slot).sight.came) (answer_to (settings_at p slot switch.features) (sides slot).sight.view (Msg message moment)).to_switch) new.lane
          (no_end switch timed (phase_same switch (SliceMsg slot message) (still switch)) alive)
          (ap (λ (k : Phase). lane_in (λ i. put_with p i switch (sides i) timed) k (SliceMsg slot message)) opened ∙ put_heard p switch sides slot moment message opened here up)
          (heard.to_switch lane_limit ql body.lane))
          (one_slot p switch sides qs timed slot (λ x y z w. Hears a.policy a.ports a.features slot message moment on x y old.lane z w new.lane) a b stands at (known_same switch (SliceMsg slot message) (still switch)) (others_msg p switch sides slot moment message)
          (λ x y z w h one hears. hears_slot p switch sides qs slot moment message on old.lane new.lane x y z w opened h up one
          (heard_at p switch sides qs a slot moment message on old.lane new.lane x y z w fit stands h up one hears)));
      goes_on = goes_heard (is_fresh switch.phase) on (is_slot p slot) (is_up (sides slot).sight.view) (is_dismissing message) (up_after p switch sides timed slot) (ap is_fresh opened) here up
          (heard.goes_on ∙ ap not (ends (settings_at p slot switch.features) (sides slot).sight.view (Msg message moment))) (up_heard p switch sides slot moment message opened here up);
    }

-- ---- a message of it, where it isn't up

not_shown : (here own up : Bool) (items : List Item) → (here && up) ≡ false → (if here then (if own && up then items else []) else []) ≡ []
not_shown true true true items down = absurd (true≢false down)
not_shown true false true items down = refl
not_shown true true false items down = refl
not_shown true false false items down = refl
not_shown false own up items down = refl

by_slot : (here up said : Bool) → (here ≡ true → said ≡ up) → said ≡ false → (here && up) ≡ false
by_slot true up said is no_ = sym (is refl) ∙ no_
by_slot false up said is no_ = refl

unshown : (p : PolicyView) (switch : KnownSwitch) (sides : ℕ → SliceSide) (slot moment : ℕ) (message : List ℕ) → switch.phase ≡ Opened → (is_slot p slot && is_up (sides slot).sight.view) ≡ false
    → items_of p slot switch (sides slot) (record { event = SliceMsg slot message; moment = moment }) ≡ []
unshown p switch sides slot moment message opened down =
    items_opened p slot switch (sides slot) (record { event = SliceMsg slot message; moment = moment }) opened
    ∙ not_shown (is_slot p slot) (slot == slot) (is_up (sides slot).sight.view) (Msg message moment ∷ []) down

unshown_all : (p : PolicyView) (switch : KnownSwitch) (sides : ℕ → SliceSide) (slot moment : ℕ) (message : List ℕ) → switch.phase ≡ Opened → (is_slot p slot && is_up (sides slot).sight.view) ≡ false
    → (i : ℕ) → items_of p i switch (sides i) (record { event = SliceMsg slot message; moment = moment }) ≡ []
unshown_all p switch sides slot moment message opened down i = elim (cases_Bool (i == slot)) [
  | inl is ↦ subst (λ (k : ℕ). items_of p k switch (sides k) (record { event = SliceMsg slot message; moment = moment }) ≡ []) (sym (eqb-true i slot is)) (unshown p switch sides slot moment message opened down)
  | inr isnt ↦ (others_msg p switch sides slot moment message i (eqb-false i slot isnt)).0
]

closed : (fresh here up up_then : Bool) → (here && up) ≡ false → (here ≡ true → up_then ≡ up) → false ≡ not ((fresh && true) || not here || (not false && not up_then))
closed true here up up_then down same = refl
closed false false up up_then down same = refl
closed false true up up_then down same = sym (ap (λ (b : Bool). not (not b)) (same refl ∙ down))

pub heard_down : (old new : Desk) (a b : Session) (slot moment : ℕ) (message : List ℕ) (on : Bool) → old.session ≡ Some a → new.policy ≡ old.policy → new.phase ≡ old.phase → new.session ≡ Some b
    → is_up_at a slot ≡ false → on ≡ false → b ≡ a → new.lane ≡ old.lane
    → Acts old (record { event = SliceMsg slot message; moment = moment }) on new
heard_down old new a b slot moment message on was policy phase now is off same lane p switch sides qs ql fit body alive =
    let timed : Timed = record { event = SliceMsg slot message; moment = moment } in
    let stands = stands_in p switch sides qs a old.session was body.opens in
    let opened = is_opened p switch sides qs a fit stands alive in
    let still : StaysSame (SliceMsg slot message) = λ k. slices_switch k (SliceMsg slot message) refl in
    let down = by_slot (is_slot p slot) (is_up (sides slot).sight.view) (is_up_at a slot) (up_state p switch sides qs a slot stands) is in
    let none = unshown_all p switch sides slot moment message opened down in
    record {
      body = slice_body p switch sides qs ql timed old new b still body policy phase now
          (lane_same p switch sides ql timed old.lane new.lane still alive opened
          (ap (λ (items : List Item). map (rendered (sides slot).sight.came) (put_for (settings_at p slot switch.features) (sides slot).sight.view items)) (none slot)) body.lane lane)
          (subst (λ (k : Session). SessionStands p (switch_after switch (SliceMsg slot message)) (sides_after p switch sides timed) (queues_after p switch sides qs timed) k) (sym same)
          (session_passes p switch sides qs timed a stands (known_same switch (SliceMsg slot message) (still switch)) none (λ i. refl)));
      goes_on = off ∙ closed (is_fresh switch.phase) (is_slot p slot) (is_up (sides slot).sight.view) (up_after p switch sides timed slot) down
          (λ here. ap₂ (λ (phase : Phase) (items : List Item). is_open (phase_after phase (SliceMsg slot message)) && is_up (with_items items (sides slot).sight.view)) opened (none slot));
    }

pub heard : (old new : Desk) (a b : Session) (slot moment : ℕ) (message : List ℕ) (on : Bool) → old.session ≡ Some a → new.policy ≡ old.policy → new.phase ≡ old.phase → new.session ≡ Some b
    → (is_up_at a slot ≡ false → (on ≡ false) × (b ≡ a) × (new.lane ≡ old.lane))
    → (is_up_at a slot ≡ true → AtSlot slot (λ x y z w. Hears a.policy a.ports a.features slot message moment on x y old.lane z w new.lane) a b)
    → Acts old (record { event = SliceMsg slot message; moment = moment }) on new
heard old new a b slot moment message on was policy phase now down up = elim (cases_Bool (is_up_at a slot)) [
  | inl is ↦ heard_up old new a b slot moment message on was policy phase now is (up is)
  | inr isnt ↦ (let d = down isnt in heard_down old new a b slot moment message on was policy phase now isnt d.0 d.1 d.2)
]
