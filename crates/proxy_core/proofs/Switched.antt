-- A desk after a message of the switch.
use Rattle.std.proofs.Common.{◌≡◌, ℕ, ◌&&◌, not, Bool, true, false, if◌then◌else◌, List, [], ◌∷◌, ◌++◌, length, take, drop, refl, ap, ap₂, subst, sym, ◌∙◌, true≢false, inl, inr, ◌⊎◌, Option, Some, None, Result, Ok, Err, OnErr, IfOk, arith}
use Rattle.std.specs.Prelude.{ltb}
use Rattle.std.proofs.lemmas.Bool.{ltb-true}
use Rattle.std.proofs.lemmas.Option.{none-some}
use Rattle.of10_port.specs.declared.features.Features.{Features}
use Rattle.of10_port.specs.declared.status.PortStatus.{PortStatus}
use Rattle.of10_message.specs.declared.fault.Unread.{Unread}
use Rattle.of10_message.specs.Heads.{xid_of}
use Rattle.of10_message.specs.Switch.{SwitchMessage, read_switch, has_bad_length}
use Rattle.of10_message.proofs.SwitchCases.{bad_read, bad_length-read}
use Rattle.flowspace.specs.Policies.{PolicyView}
use Rattle.port_view.specs.declared.status_answers.Kept.{Kept as Answer}
use Rattle.port_view.specs.declared.status_answers.Kept.TheVariants.{Kept as IsKept, Ignored, TooManyPorts}
use Rattle.port_view.specs.KnownPorts.{changed, kept_of}
use Rattle.port_view.proofs.Knowing.{changed-not_kept}
use Rattle.flow_book.specs.declared.state.SliceState.{SliceState}
use Rattle.outbox.specs.Queues.{Queue, no_messages, push_all, OutboxState, QueueStands}
use Rattle.slice_words.specs.Items.{Item, End}
use Rattle.desk_words.specs.declared.event.Event.{Event}
use Rattle.desk_words.specs.declared.event.Event.TheVariants.{SwitchMsg}
use Rattle.desk_words.specs.declared.event.Timed.{Timed}
use Rattle.desk_words.specs.declared.phase.Phase.{Phase}
use Rattle.desk_words.specs.declared.phase.Phase.TheVariants.{Fresh, Begun, Opened, Gone}
use Rattle.desk_words.specs.Openings.{ends_switch, features_said, status_said, features_told, status_told, kept_beside, status_kept, phase_after, opening_after, known_after, KnownSwitch, switch_after, kept_by}
use Rattle.desk_words.specs.Histories.{settings_at, SliceSide, said_items, message_items}
use Rattle.desk_words.specs.Sent.{preparation, echo_said, echo_for, lane_in, put_with}
use Rattle.desk_words.specs.Verdicts.{is_fresh, is_ended, is_before, is_closing}
use Rattle.desk_words.specs.Operations.{slice_limit, lane_limit}
use Rattle.switch_side.specs.declared.dispatch.Dispatch.{Dispatch}
use Rattle.switch_side.specs.Changes.{StandOn}
use Rattle.switch_side.specs.Dispatches.{Surrounds, AllStand, AllNumbered, IsDispatch, AreChanges, told_at, sent_to_all}
use Rattle.proxy_core.specs.declared.desk.Session.{Session}
use Rattle.proxy_core.specs.declared.desk.Desk.{Desk}
use Rattle.proxy_core.specs.Slots.{HasOnly, HasMore}
use Rattle.proxy_core.specs.Handing.{AreSame, AreHanded}
use Rattle.proxy_core.specs.Desks.{SessionStands, Opens, Body, Coherent, sides_after, up_after, queues_after, Acted, Acts, ActsIn, Ends, PassesOn}
use Rattle.proxy_core.specs.Opening.{Begins, CarriedOut, Carries, StandsOn}
use Rattle.proxy_core.proofs.Lists.{there, within, written_back}
use Rattle.proxy_core.proofs.Standing.{items_opened, session_becomes, session_goes, queue_there, slot_there}
use Rattle.proxy_core.proofs.Handed.{slot_sent}
use Rattle.proxy_core.proofs.Acting.{body_after, still_none, session_ends, lane_is}
use Rattle.proxy_core.proofs.Beginning.{bad_features, bad_echo, good_said, told_good, session_begins}

-- ---- a message of a switch that hasn't said what it is

begun_bad : (message : List ℕ) → ends_switch message ≡ true → phase_after Begun (SwitchMsg message) ≡ Gone
begun_bad message bad = ap (λ (b : Bool). if b then Gone else elim (features_told message) [ None ↦ Begun | Some features ↦ Opened ]) bad

begun_echo : (message : List ℕ) → ends_switch message ≡ false → features_told message ≡ None → phase_after Begun (SwitchMsg message) ≡ Begun
begun_echo message good none =
    ap₂ (λ (b : Bool) (told : Option Features). if b then Gone else elim told [ None ↦ Begun | Some features ↦ Opened ]) good none

begun_opens : (message : List ℕ) (features : Features) → features_told message ≡ Some features → phase_after Begun (SwitchMsg message) ≡ Opened
begun_opens message features told =
    ap₂ (λ (b : Bool) (t : Option Features). if b then Gone else elim t [ None ↦ Begun | Some f ↦ Opened ]) (told_good message features told) told

lane_begun : (f : ℕ → List (List ℕ)) (message : List ℕ) (told : Option Features) → features_told message ≡ told
    → lane_in f Begun (SwitchMsg message) ≡ (elim told [ None ↦ echo_for message | Some features ↦ preparation ])
lane_begun f message told is = ap (λ (t : Option Features). elim t [ None ↦ echo_for message | Some features ↦ preparation ]) is

twice : (b : Bool) → not (not b) ≡ b
twice true = refl
twice false = refl

-- what a message of the switch closes
closes_msg : (p : PolicyView) (up : ℕ → Bool) (phase after : Phase) (message : List ℕ) → is_fresh phase ≡ false → is_closing p phase up after (SwitchMsg message) ≡ is_ended after
closes_msg p up Fresh after message far = absurd (true≢false far)
closes_msg p up Begun after message far = twice (is_ended after)
closes_msg p up Opened after message far = twice (is_ended after)
closes_msg p up Gone after message far = twice (is_ended after)

none_begun : (p : PolicyView) (switch : KnownSwitch) (sides : ℕ → SliceSide) (qs : ℕ → Queue) (session : Option Session) → Coherent p switch sides → switch.phase ≡ Begun → Opens p switch sides qs session → session ≡ None
none_begun p switch sides qs None fit begun opens = refl
none_begun p switch sides qs (Some session) fit begun stands = absurd (none-some session.features (sym (fit.before_untold (ap is_before begun)) ∙ stands.told))

-- the desk after a message that opens nothing
begun_still : (p : PolicyView) (switch : KnownSwitch) (sides : ℕ → SliceSide) (qs : ℕ → Queue) (moment : ℕ) (message : List ℕ) (session : Option Session) → Coherent p switch sides → switch.phase ≡ Begun → features_told message ≡ None
    → Opens p switch sides qs session
    → Opens p (switch_after switch (SwitchMsg message)) (sides_after p switch sides (told_at moment message)) (queues_after p switch sides qs (told_at moment message)) session
begun_still p switch sides qs moment message session fit begun none opens =
    let empty = none_begun p switch sides qs session fit begun opens in
    subst (λ (o : Option Session). Opens p (switch_after switch (SwitchMsg message)) (sides_after p switch sides (told_at moment message)) (queues_after p switch sides qs (told_at moment message)) o) (sym empty)
    (still_none p switch sides qs (told_at moment message) fit (subst (λ (o : Option Session). Opens p switch sides qs o) empty opens)
    (ap (λ (k : Phase). opening_after k None (SwitchMsg message)) begun ∙ none))

abbrev is_kept_answer : Answer → Bool
is_kept_answer IsKept = true
is_kept_answer Ignored = false
is_kept_answer TooManyPorts = false

-- the desk after a message of the switch, by the phase before it and the phase after it
told : (p : PolicyView) (switch : KnownSwitch) (sides : ℕ → SliceSide) (qs : ℕ → Queue) (ql : Queue) (moment : ℕ) (message : List ℕ) (before after : Phase) (over : Bool) (sent : List (List ℕ)) (old new : Desk)
    → Body p switch sides qs ql old → switch.phase ≡ before → is_fresh before ≡ false → phase_after before (SwitchMsg message) ≡ after → (not (is_ended before) && is_ended after) ≡ over
    → lane_in (λ i. put_with p i switch (sides i) (told_at moment message)) before (SwitchMsg message) ≡ sent → new.policy ≡ old.policy → new.phase ≡ after
    → QueueStands lane_limit (push_all lane_limit (if over then no_messages else ql) sent) new.lane
    → Opens p (switch_after switch (SwitchMsg message)) (sides_after p switch sides (told_at moment message)) (queues_after p switch sides qs (told_at moment message)) new.session
    → Acted p switch sides qs ql (told_at moment message) (not (is_ended after)) new
told p switch sides qs ql moment message before after over sent old new body was far becomes ends is policy phase lane opens =
    let timed = told_at moment message in
    let then_ : phase_after switch.phase (SwitchMsg message) ≡ after = ap (λ (k : Phase). phase_after k (SwitchMsg message)) was ∙ becomes in
    record {
      body = body_after p switch sides qs ql timed old new body policy (phase ∙ sym then_)
          (lane_is p switch sides ql timed over sent new.lane (ap₂ (λ (a b : Phase). not (is_ended a) && is_ended b) was then_ ∙ ends)
          (ap (λ (k : Phase). lane_in (λ i. put_with p i switch (sides i) timed) k (SwitchMsg message)) was ∙ is) lane) opens;
      goes_on = ap (λ (k : Phase). not (is_ended k)) (sym then_)
          ∙ sym (ap not (closes_msg p (up_after p switch sides timed) switch.phase (phase_after switch.phase (SwitchMsg message)) message (ap is_fresh was ∙ far)));
    }

pub begun_ends : (old new : Desk) (moment : ℕ) (message : List ℕ) → Ends old new → ends_switch message ≡ true → ActsIn Begun old (told_at moment message) false new
begun_ends old new moment message ends bad p switch sides qs ql fit body begun =
    let none = bad_features message bad in
    told p switch sides qs ql moment message Begun Gone true [] old new body begun refl (begun_bad message bad) refl
    (lane_begun (λ i. put_with p i switch (sides i) (told_at moment message)) message None none ∙ bad_echo message bad) ends.same_policy ends.phase (ends.lane lane_limit ql body.lane)
    (subst (λ (o : Option Session). Opens p (switch_after switch (SwitchMsg message)) (sides_after p switch sides (told_at moment message)) (queues_after p switch sides qs (told_at moment message)) o) (sym ends.session)
    (begun_still p switch sides qs moment message old.session fit begun none body.opens))

begun_still_answers : (old new : Desk) (moment : ℕ) (message : List ℕ) → new.policy ≡ old.policy → new.phase ≡ old.phase → HasMore (echo_for message) old.lane new.lane → new.session ≡ old.session
    → ends_switch message ≡ false → features_told message ≡ None → ActsIn Begun old (told_at moment message) true new
begun_still_answers old new moment message policy phase more session good none p switch sides qs ql fit body begun =
    told p switch sides qs ql moment message Begun Begun false (echo_for message) old new body begun refl (begun_echo message good none) refl
    (lane_begun (λ i. put_with p i switch (sides i) (told_at moment message)) message None none) policy (phase ∙ body.phase ∙ begun) (more lane_limit ql body.lane)
    (subst (λ (o : Option Session). Opens p (switch_after switch (SwitchMsg message)) (sides_after p switch sides (told_at moment message)) (queues_after p switch sides qs (told_at moment message)) o) (sym session)
    (begun_still p switch sides qs moment message old.session fit begun none body.opens))

-- by what was read of it
pub begun_answers : (old new : Desk) (messages : List (List ℕ)) (moment : ℕ) (message : List ℕ) (said : Result SwitchMessage Unread) → new.policy ≡ old.policy → new.phase ≡ old.phase → HasMore messages old.lane new.lane → new.session ≡ old.session
    → read_switch message ≡ said → has_bad_length said ≡ false → features_said said ≡ None → echo_said (xid_of message) said ≡ messages → ActsIn Begun old (told_at moment message) true new
begun_answers old new messages moment message said policy phase more session is good none answers =
    begun_still_answers old new moment message policy phase (subst (λ (m : List (List ℕ)). HasMore m old.lane new.lane) (sym (ap (echo_said (xid_of message)) is ∙ answers)) more) session
    (good_said message said is good) (ap features_said is ∙ none)

pub opened : (old new : Desk) (moment : ℕ) (message : List ℕ) (features : Features) (session : Session) → new.policy ≡ old.policy → new.phase ≡ Opened → HasMore preparation old.lane new.lane → new.session ≡ Some session
    → features_told message ≡ Some features → Begins old.policy features session → ActsIn Begun old (told_at moment message) true new
opened old new moment message features session policy phase more now tells begins p switch sides qs ql fit body begun =
    let empty = none_begun p switch sides qs old.session fit begun body.opens in
    told p switch sides qs ql moment message Begun Opened false preparation old new body begun refl (begun_opens message features tells) refl
    (lane_begun (λ i. put_with p i switch (sides i) (told_at moment message)) message (Some features) tells) policy phase (more lane_limit ql body.lane)
    (subst (λ (o : Option Session). Opens p (switch_after switch (SwitchMsg message)) (sides_after p switch sides (told_at moment message)) (queues_after p switch sides qs (told_at moment message)) o) (sym now)
    (session_begins p switch sides qs moment message features session fit (subst (λ (o : Option Session). Opens p switch sides qs o) empty body.opens) begun tells
    (subst (λ (v : PolicyView). Begins v features session) body.same_policy begins)))

-- ---- a message of a switch that has said what it is

-- a message of a bad length ends the session
opened_bad : (message : List ℕ) → ends_switch message ≡ true → phase_after Opened (SwitchMsg message) ≡ Gone
opened_bad message bad = ap (λ (b : Bool). if b then Gone else Opened) bad

opened_good : (message : List ℕ) → ends_switch message ≡ false → phase_after Opened (SwitchMsg message) ≡ Opened
opened_good message good = ap (λ (b : Bool). if b then Gone else Opened) good

bad_shown : (p : PolicyView) (slot : ℕ) (switch : KnownSwitch) (side : SliceSide) (message : List ℕ) → ends_switch message ≡ true → message_items p slot switch side message ≡ End ∷ []
unfolding message_items
bad_shown p slot switch side message bad = ap (said_items p slot switch side (xid_of message)) (bad_read (read_switch message) bad)

-- the session of a switch that ends
pub bad_ends : (p : PolicyView) (switch : KnownSwitch) (sides : ℕ → SliceSide) (qs : ℕ → Queue) (moment : ℕ) (message : List ℕ) (session : Session) → SessionStands p switch sides qs session → switch.phase ≡ Opened → ends_switch message ≡ true
    → SessionStands p (switch_after switch (SwitchMsg message)) (sides_after p switch sides (told_at moment message)) (queues_after p switch sides qs (told_at moment message)) session
bad_ends p switch sides qs moment message session stands open_ bad =
    session_ends p switch sides qs (told_at moment message) session stands
    (ap (λ (k : Phase). known_after k switch.known (SwitchMsg message)) open_ ∙ ap (λ (t : Option PortStatus). elim t [ None ↦ switch.known | Some status ↦ changed status switch.known ]) (ap status_said (bad_read (read_switch message) bad)))
    (λ slot here. items_opened p slot switch (sides slot) (told_at moment message) open_
    ∙ ap₂ (λ (b : Bool) (items : List Item). if b then items else []) here (bad_shown p slot switch (sides slot) message bad))
    (λ slot. refl)

opens_bad : (p : PolicyView) (switch : KnownSwitch) (sides : ℕ → SliceSide) (qs : ℕ → Queue) (moment : ℕ) (message : List ℕ) (session : Option Session) → Coherent p switch sides → switch.phase ≡ Opened → ends_switch message ≡ true → Opens p switch sides qs session
    → Opens p (switch_after switch (SwitchMsg message)) (sides_after p switch sides (told_at moment message)) (queues_after p switch sides qs (told_at moment message)) session
opens_bad p switch sides qs moment message (Some session) fit open_ bad stands = bad_ends p switch sides qs moment message session stands open_ bad
opens_bad p switch sides qs moment message None fit open_ bad opens = (let some = fit.open_told open_ in absurd (none-some some.0 (sym opens.0 ∙ some.1)))

-- a message of a bad length that was heard, where the session stays as it is
pub hears_bad : (old mid new : Desk) (moment : ℕ) (message : List ℕ) → PassesOn moment message false old mid → Ends mid new → ActsIn Opened old (told_at moment message) false new
hears_bad old mid new moment message passes ends p switch sides qs ql fit body open_ =
    let passed = passes p switch sides qs ql fit body open_ in
    let bad = passed.0 in
    told p switch sides qs ql moment message Opened Gone true [] old new body open_ refl (opened_bad message bad) refl (bad_echo message bad)
    (ends.same_policy ∙ passed.1) ends.phase (subst (λ (lane : OutboxState). HasOnly [] lane new.lane) passed.2 ends.lane lane_limit ql body.lane)
    (subst (λ (o : Option Session). Opens p (switch_after switch (SwitchMsg message)) (sides_after p switch sides (told_at moment message)) (queues_after p switch sides qs (told_at moment message)) o)
    (sym ends.session) (opens_bad p switch sides qs moment message mid.session fit open_ bad passed.3))

-- a message that was carried out
pub hears_good : (old new : Desk) (moment : ℕ) (message : List ℕ) → PassesOn moment message true old new → ActsIn Opened old (told_at moment message) true new
hears_good old new moment message passes p switch sides qs ql fit body open_ =
    let passed = passes p switch sides qs ql fit body open_ in
    told p switch sides qs ql moment message Opened Opened false (echo_for message) old new body open_ refl (opened_good message passed.0) refl refl
    passed.1 (passed.2 ∙ body.phase ∙ open_) (passed.4 lane_limit ql body.lane) passed.3

-- ---- a message that is carried out

-- a change that isn't kept changes nothing
by_answer : (status : PortStatus) (known : List (List ℕ)) (answer : Answer) → kept_of status known ≡ answer
    → changed status known ≡ kept_by (if (elim answer [ IsKept ↦ true | Ignored ↦ false | TooManyPorts ↦ false ]) then Some status else None) known
by_answer status known IsKept is = refl
by_answer status known Ignored is = changed-not_kept status known (λ e. true≢false (ap is_kept_answer (sym e ∙ is)))
by_answer status known TooManyPorts is = changed-not_kept status known (λ e. true≢false (ap is_kept_answer (sym e ∙ is)))

ports_kept : (known : List (List ℕ)) (told : Option PortStatus) → (elim told [ None ↦ known | Some status ↦ changed status known ]) ≡ kept_by (kept_beside known told) known
ports_kept known None = refl
ports_kept known (Some status) = by_answer status known (kept_of status known) refl

pub surrounds : (p : PolicyView) (switch : KnownSwitch) (sides : ℕ → SliceSide) (qs : ℕ → Queue) (session : Session) → SessionStands p switch sides qs session → switch.phase ≡ Opened → Surrounds p switch session.policy session.ports
surrounds p switch sides qs session s open_ = record { opened = open_; slices = s.slices; rules = s.rules; swaps = s.swaps; known = s.known }

pub all_stand : (p : PolicyView) (switch : KnownSwitch) (sides : ℕ → SliceSide) (qs : ℕ → Queue) (session : Session) → SessionStands p switch sides qs session → AllStand p switch sides session.states.items
all_stand p switch sides qs session s slot state g = (queue_there p switch sides qs session slot state s g).2.state_stands

-- the session after it
pub carried_session : (p : PolicyView) (switch : KnownSwitch) (sides : ℕ → SliceSide) (qs : ℕ → Queue) (moment : ℕ) (message : List ℕ) (old new : Session) (rooms : List OutboxState) → SessionStands p switch sides qs old → switch.phase ≡ Opened
    → new.policy ≡ old.policy → new.features ≡ old.features → length new.states.items ≡ length old.states.items → AllStand p switch (sides_after p switch sides (told_at moment message)) new.states.items
    → new.ports ≡ kept_by (status_kept switch.known message) old.ports → AreSame old.queues.items rooms → AreHanded (sent_to_all p switch sides (told_at moment message) 0 p.slices) rooms new.queues.items
    → SessionStands p (switch_after switch (SwitchMsg message)) (sides_after p switch sides (told_at moment message)) (queues_after p switch sides qs (told_at moment message)) new
carried_session p switch sides qs moment message old new rooms s open_ policy features count stand ports same handed =
    session_goes p switch sides (sides_after p switch sides (told_at moment message)) qs (queues_after p switch sides qs (told_at moment message)) (SwitchMsg message) old new s policy features
    (ports ∙ ap (kept_by (status_kept switch.known message)) s.known ∙ sym (ports_kept switch.known (status_told message)) ∙ sym (ap (λ (k : Phase). known_after k switch.known (SwitchMsg message)) open_))
    count (handed.count ∙ same.count)
    (λ slot x y gx gy.
    let here = subst (λ (n : ℕ). ltb slot n ≡ true) (count ∙ s.states_count) (within new.states.items slot x gx) in
    let was = slot_there p switch sides qs old slot s here in
    let mid = there rooms slot (subst (λ (n : ℕ). ltb slot n ≡ true) (sym (same.count ∙ s.queues_count)) here) in
    let roomy = same.each slot was.1 mid.0 was.3 mid.1 slice_limit (qs slot) was.4.queue_stands in
    record {
      state_stands = stand slot x gx;
      queue_stands = subst (λ (m : List (List ℕ)). QueueStands slice_limit (push_all slice_limit (qs slot) m) y)
          (slot_sent p switch sides (told_at moment message) 0 slot p.slices (omega arith) (let less = ltb-true slot (length p.slices) here in omega arith)) (handed.each slot mid.0 y mid.1 gy slice_limit (qs slot) roomy);
    })

-- out of memory after room was made for some messages and changes
pub kept_queues : (old new : Session) → new.policy ≡ old.policy → new.features ≡ old.features → StandOn old.states.items new.states.items → new.ports ≡ old.ports → AreSame old.queues.items new.queues.items → StandsOn old new
kept_queues old new policy features states ports same p switch sides qs s =
    session_becomes p switch switch sides sides qs qs old new s refl policy features (ports ∙ s.known) states.count same.count
    (λ slot x y gx gy.
    let before = there old.states.items slot (subst (λ (n : ℕ). ltb slot n ≡ true) states.count (within new.states.items slot x gx)) in
    let was = queue_there p switch sides qs old slot before.0 s before.1 in
    record {
      state_stands = states.each slot before.0 x before.1 gx (settings_at p slot switch.features) (sides slot).sight was.2.state_stands;
      queue_stands = same.each slot was.0 y was.1 gy slice_limit (qs slot) was.2.queue_stands;
    })

-- room that was made for changes leaves what the states belong to
pub all_stand_on : (p : PolicyView) (switch : KnownSwitch) (sides : ℕ → SliceSide) (old new : List SliceState) → StandOn old new → AllStand p switch sides old → AllStand p switch sides new
all_stand_on p switch sides old new on stand slot state g =
    let before = there old slot (subst (λ (n : ℕ). ltb slot n ≡ true) on.count (within new slot state g)) in
    on.each slot before.0 state before.1 g (settings_at p slot switch.features) (sides slot).sight (stand slot before.0 before.1)

-- as it was written back
pub stands_back : (old now : List SliceState) (n : ℕ) → StandOn old now → n ≡ length old → StandOn old (take n (now ++ drop (length now) old))
stands_back old now n on count = subst (StandOn old) (sym (written_back old now n on.count count)) on

-- all that follows from a message, for the session and the lane
pub carried_out : (moment : ℕ) (message : List ℕ) (old new : Session) (lane new_lane : OutboxState) (rooms : List OutboxState) (p : PolicyView) (switch : KnownSwitch) (sides : ℕ → SliceSide) (qs : ℕ → Queue) (d : Dispatch) → switch.phase ≡ Opened → AllNumbered p switch sides → SessionStands p switch sides qs old
    → ((p : PolicyView) (switch : KnownSwitch) (sides : ℕ → SliceSide) (moment : ℕ) → Surrounds p switch old.policy old.ports → AllStand p switch sides old.states.items → AllNumbered p switch sides → IsDispatch p switch sides moment message d)
    → d.close ≡ false → new.policy ≡ old.policy → new.features ≡ old.features → length new.states.items ≡ length old.states.items
    → (AllStand p switch sides old.states.items → AreChanges p switch sides moment message d.changes.items → AllStand p switch (sides_after p switch sides (told_at moment message)) new.states.items)
    → new.ports ≡ kept_by d.port old.ports
    → AreSame old.queues.items rooms → AreHanded d.to_slices.items rooms new.queues.items → HasMore d.to_switch.items lane new_lane
    → CarriedOut p switch sides qs moment message true old lane new new_lane
carried_out moment message old new lane new_lane rooms p switch sides qs d open_ numbered s dispatched goes policy features count stand ports same handed more =
    let is = dispatched p switch sides moment (surrounds p switch sides qs old s open_) (all_stand p switch sides qs old s) numbered in (
      bad_length-read message ∙ sym is.close ∙ goes,
      carried_session p switch sides qs moment message old new rooms s open_ policy features count (stand (all_stand p switch sides qs old s) is.changes) (ports ∙ ap (λ (t : Option PortStatus). kept_by t old.ports) is.port) same
          (subst (λ (m : List (ℕ × List ℕ)). AreHanded m rooms new.queues.items) is.to_slices handed),
      subst (λ (m : List (List ℕ)). HasMore m lane new_lane) is.to_switch more,
    )

pub closed_bad : (moment : ℕ) (message : List ℕ) (old : Session) (p : PolicyView) (switch : KnownSwitch) (sides : ℕ → SliceSide) (qs : ℕ → Queue) (d : Dispatch) → switch.phase ≡ Opened → AllNumbered p switch sides → SessionStands p switch sides qs old
    → ((p : PolicyView) (switch : KnownSwitch) (sides : ℕ → SliceSide) (moment : ℕ) → Surrounds p switch old.policy old.ports → AllStand p switch sides old.states.items → AllNumbered p switch sides → IsDispatch p switch sides moment message d)
    → d.close ≡ true → ends_switch message ≡ true
closed_bad moment message old p switch sides qs d open_ numbered s dispatched goes =
    bad_length-read message ∙ sym (dispatched p switch sides moment (surrounds p switch sides qs old s open_) (all_stand p switch sides qs old s) numbered).close ∙ goes

-- ---- the desk hands a message on

pub passes_on : (moment : ℕ) (message : List ℕ) (go : Bool) (old : Desk) (a b : Session) (lane : OutboxState) → old.session ≡ Some a → Carries moment message go a old.lane b lane
    → PassesOn moment message go old (record old { lane = lane; session = Some b })
passes_on moment message true old a b lane was carries p switch sides qs ql fit body open_ =
    let r = carries p switch sides qs open_ fit.numbered (subst (λ (o : Option Session). Opens p switch sides qs o) was body.opens) in
    (r.0, refl, refl, r.1, r.2)
passes_on moment message false old a b lane was carries p switch sides qs ql fit body open_ =
    let r = carries p switch sides qs open_ fit.numbered (subst (λ (o : Option Session). Opens p switch sides qs o) was body.opens) in
    (r.0, refl, r.2, r.1)

-- ---- phases

pub acts_of : (phase : Phase) (old new : Desk) (timed : Timed) (go : Bool) → old.phase ≡ phase → ActsIn phase old timed go new → Acts old timed go new
acts_of phase old new timed go is acts p switch sides qs ql fit body on = acts p switch sides qs ql fit body (sym body.phase ∙ is)

pub ended_never : (old new : Desk) (timed : Timed) (go : Bool) → old.phase ≡ Gone → Acts old timed go new
ended_never old new timed go is p switch sides qs ql fit body on = absurd (true≢false (sym (ap is_ended (sym body.phase ∙ is)) ∙ on))

pub not_fresh : (phase : Phase) → (phase ≡ Begun) ⊎ ((phase ≡ Opened) ⊎ (phase ≡ Gone)) → phase ≡ Fresh → ⊥
not_fresh phase (inl is) e = true≢false (sym (ap is_fresh e) ∙ ap is_fresh is)
not_fresh phase (inr (inl is)) e = true≢false (sym (ap is_fresh e) ∙ ap is_fresh is)
not_fresh phase (inr (inr is)) e = true≢false (sym (ap is_fresh e) ∙ ap is_fresh is)

pub at_event : (old new : Desk) (timed : Timed) (event : Event) (go : Bool) → timed.event ≡ event → Acts old (record { event = event; moment = timed.moment }) go new → Acts old timed go new
at_event old new timed event go is acts = subst (λ (e : Event). Acts old (record { event = e; moment = timed.moment }) go new) (sym is) acts

-- ---- results

pub err_both : {T E P Q R : Type 0} (r : Result T E) → (P → Q → R) → OnErr r P → OnErr r Q → OnErr r R
err_both (Ok x) f a b = a
err_both (Err e) f a b = f a b

pub ok_both : {T E : Type 0} (r : Result T E) (P Q R : T → Type 0) → ((x : T) → P x → Q x → R x) → IfOk r P → IfOk r Q → IfOk r R
ok_both (Ok x) P Q R f a b = f x a b
ok_both (Err e) P Q R f a b = a
