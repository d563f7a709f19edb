-- The opening: a session as the switch's features begin it.
use Rattle.std.proofs.Common.{◌≡◌, ℕ, Bool, true, false, if◌then◌else◌, List, [], ◌∷◌, slice_get, refl, ap, ap₂, subst, sym, ◌∙◌, Option, Some, None, Result, Ok, Err}
use Rattle.std.specs.Prelude.{ltb}
use Rattle.std.proofs.lemmas.Option.{none-some}
use Rattle.of10_port.specs.declared.features.Features.{Features}
use Rattle.of10_message.specs.declared.fault.Unread.{Unread}
use Rattle.of10_message.specs.declared.fault.Unread.TheVariants.{BadLength}
use Rattle.of10_message.specs.Heads.{xid_of}
use Rattle.of10_message.specs.Switch.{SwitchMessage, read_switch, has_bad_length}
use Rattle.of10_port.specs.declared.features.FeaturesView.{FeaturesView}
use Rattle.of10_message.specs.declared.switch.SwitchMessageView.{SwitchMessageView}
use Rattle.of10_message.specs.declared.switch.SwitchMessageView.TheVariants as views
use Rattle.of10_message.specs.SwitchViews.{said_by}
use Rattle.of10_message.proofs.SwitchCases.{bad_read}
use Rattle.flowspace.specs.declared.slices.Slice.{Slice}
use Rattle.flowspace.specs.Policies.{PolicyView}
use Rattle.port_view.specs.KnownPorts.{first_known, known_of}
use Rattle.flow_book.specs.declared.state.SliceState.{SliceState}
use Rattle.xid_map.specs.Requests.{RequestsStand}
use Rattle.flow_book.specs.States.{IsFreshState}
use Rattle.outbox.specs.Queues.{Queue, no_messages, push_all, OutboxState, QueueStands}
use Rattle.slice_words.specs.Items.{Settings, Item, Opened as Told}
use Rattle.slice_words.specs.Alone.{sent_for}
use Rattle.slice_words.specs.Standing.{SliceStands}
use Rattle.desk_words.specs.declared.event.Event.TheVariants.{SwitchMsg}
use Rattle.desk_words.specs.declared.phase.Phase.{Phase}
use Rattle.desk_words.specs.declared.phase.Phase.TheVariants.{Begun}
use Rattle.desk_words.specs.Openings.{ends_switch, features_said, features_told, opening_after, known_after, rules_of, swaps_of, KnownSwitch, switch_after}
use Rattle.desk_words.specs.Histories.{is_slot, settings_at, own_features, SliceSide, side_start, items_of, phase_items, opening_items, with_shown}
use Rattle.desk_words.specs.Sent.{echo_said, echo_for}
use Rattle.desk_words.specs.Operations.{slice_limit}
use Rattle.switch_side.specs.Dispatches.{told_at}
use Rattle.proxy_core.specs.declared.desk.Session.{Session}
use Rattle.proxy_core.specs.Desks.{SlotStands, SessionStands, Opens, Coherent, sides_after, queues_after}
use Rattle.proxy_core.specs.Opening.{Begins}
use Rattle.proxy_core.proofs.Lists.{there, within}
use Rattle.proxy_core.proofs.Fitting.{settings_known}

-- ---- messages of a bad length

pub bad_features : (message : List ℕ) → ends_switch message ≡ true → features_told message ≡ None
bad_features message bad = ap features_said (bad_read (read_switch message) bad)

pub bad_echo : (message : List ℕ) → ends_switch message ≡ true → echo_for message ≡ []
bad_echo message bad = ap (echo_said (xid_of message)) (bad_read (read_switch message) bad)

-- one that says something else, and one that doesn't
pub good_said : (message : List ℕ) (said : Result SwitchMessage Unread) → read_switch message ≡ said → has_bad_length said ≡ false → ends_switch message ≡ false
good_said message said is good = ap has_bad_length is ∙ good

pub bad_said : (message : List ℕ) → read_switch message ≡ Err BadLength → ends_switch message ≡ true
bad_said message is = ap has_bad_length is

pub other_fault : (fault : Unread) → (fault ≡ BadLength → ⊥) → has_bad_length (Err fault) ≡ false
other_fault BadLength other = absurd (other refl)
other_fault fault other = refl

-- only a FEATURES_REPLY describes the switch
pub other_said : (said : SwitchMessageView) → ((told : FeaturesView) → said ≡ views.FeaturesReply told → ⊥) → features_said (Ok (said_by said)) ≡ None
other_said (views.FeaturesReply told) other = absurd (other told refl)
other_said said other = refl

good_by : (bad : Bool) (message : List ℕ) (features : Features) → ends_switch message ≡ bad → features_told message ≡ Some features → bad ≡ false
good_by true message features is told = absurd (none-some features (sym (bad_features message is) ∙ told))
good_by false message features is told = refl

pub told_good : (message : List ℕ) (features : Features) → features_told message ≡ Some features → ends_switch message ≡ false
told_good message features told = good_by (ends_switch message) message features refl told

-- ---- the slots of the session

first_stands : (slice : Slice) (s : Settings) (slot : ℕ) (features : Features) (state : SliceState) → s.slot ≡ slot → s.rate ≡ slice.rate → s.burst ≡ slice.burst → IsFreshState slot slice state
    → SliceStands s (record { view = Told features ∷ []; came = [] }) state
first_stands slice s slot features state same rate burst fresh = record {
  up = fresh.up;
  miss_send_len = fresh.miss_send_len;
  moment = fresh.moment;
  requests = subst (λ (k : ℕ). RequestsStand k [] state.xids) (sym same) fresh.xids;
  given = fresh.given;
  held = fresh.held;
  collections = fresh.collections;
  bucket = fresh.bucket;
  book = fresh.book;
  rate = fresh.rate ∙ sym rate;
  burst = fresh.burst ∙ sym burst;
}

opens_now : (switch : KnownSwitch) (message : List ℕ) (features : Features) → switch.phase ≡ Begun → switch.features ≡ None → features_told message ≡ Some features
    → opening_after switch.phase switch.features (SwitchMsg message) ≡ Some features
opens_now switch message features begun none told = ap₂ (λ (phase : Phase) (t : Option Features). opening_after phase t (SwitchMsg message)) begun none ∙ told

shown_first : (p : PolicyView) (slot : ℕ) (switch : KnownSwitch) (side : SliceSide) (moment : ℕ) (message : List ℕ) (features : Features) → switch.phase ≡ Begun → features_told message ≡ Some features → is_slot p slot ≡ true
    → items_of p slot switch side (told_at moment message) ≡ Told (own_features (settings_at p slot (Some features)) features) ∷ []
shown_first p slot switch side moment message features begun told here =
    ap₂ (λ (b : Bool) (phase : Phase). if b then phase_items p slot switch side (told_at moment message) phase else []) here begun
    ∙ ap (opening_items p slot) told

-- one slot of the session
slot_begins : (p : PolicyView) (switch : KnownSwitch) (sides : ℕ → SliceSide) (qs : ℕ → Queue) (moment : ℕ) (message : List ℕ) (features : Features) (slot : ℕ) (slice : Slice) (state : SliceState) (queue : OutboxState)
    → switch.phase ≡ Begun → switch.features ≡ None → features_told message ≡ Some features → sides slot ≡ side_start → qs slot ≡ no_messages
    → slice_get p.slices slot ≡ Some slice → IsFreshState slot slice state → QueueStands slice_limit no_messages queue
    → SlotStands p slot (switch_after switch (SwitchMsg message)) (sides_after p switch sides (told_at moment message) slot) (queues_after p switch sides qs (told_at moment message) slot) state queue
unfolding push_all
slot_begins p switch sides qs moment message features slot slice state queue begun none told start empty at fresh waits =
    let timed = told_at moment message in
    let own = own_features (settings_at p slot (Some features)) features in
    let shown = shown_first p slot switch (sides slot) moment message features begun told (within p.slices slot slice at) in
    let side : sides_after p switch sides timed slot ≡ record { sight = record { view = Told own ∷ []; came = [] }; numbered = [] } =
    ap₂ (λ (items : List Item) (before : SliceSide). with_shown switch.phase timed items before) shown start
    ∙ ap (λ (phase : Phase). with_shown phase timed (Told own ∷ []) side_start) begun in
    let known = settings_known p slot (Some features) slice at in
    record {
      state_stands =
          subst (λ (t : Option Features). SliceStands (settings_at p slot t) (sides_after p switch sides timed slot).sight state) (sym (opens_now switch message features begun none told))
          (subst (λ (after : SliceSide). SliceStands (settings_at p slot (Some features)) after.sight state) (sym side)
          (first_stands slice (settings_at p slot (Some features)) slot own state (ap (λ (s : Settings). s.slot) known) (ap (λ (s : Settings). s.rate) known) (ap (λ (s : Settings). s.burst) known) fresh));
      queue_stands = subst (λ (q : Queue). QueueStands slice_limit q queue)
          (sym (ap (λ (items : List Item). push_all slice_limit (qs slot) (sent_for (settings_at p slot switch.features) (sides slot).sight.view items)) shown
          ∙ ap₂ (λ (q : Queue) (before : SliceSide). push_all slice_limit q (sent_for (settings_at p slot switch.features) before.sight.view (Told own ∷ []))) empty start))
          waits;
    }

pub session_begins : (p : PolicyView) (switch : KnownSwitch) (sides : ℕ → SliceSide) (qs : ℕ → Queue) (moment : ℕ) (message : List ℕ) (features : Features) (session : Session)
    → Coherent p switch sides → Opens p switch sides qs None → switch.phase ≡ Begun → features_told message ≡ Some features → Begins p features session
    → SessionStands p (switch_after switch (SwitchMsg message)) (sides_after p switch sides (told_at moment message)) (queues_after p switch sides qs (told_at moment message)) session
session_begins p switch sides qs moment message features session fit opens begun told b =
    let now = opens_now switch message features begun opens.0 told in
    record {
      told = now ∙ ap (λ (f : Features). Some f) (sym b.told);
      slices = b.slices;
      rules = b.rules ∙ ap (rules_of p) (sym now);
      swaps = b.swaps ∙ ap (swaps_of p) (sym now);
      known = b.known ∙ sym (ap (λ (phase : Phase). known_after phase switch.known (SwitchMsg message)) begun
          ∙ ap (λ (t : Option Features). elim t [ None ↦ switch.known | Some f ↦ first_known f.ports ]) told);
      states_count = b.states.count;
      queues_count = b.queues.total;
      each = λ slot state queue gs gq.
          let slice = there p.slices slot (subst (λ (n : ℕ). ltb slot n ≡ true) b.states.count (within session.states.items slot state gs)) in
          slot_begins p switch sides qs moment message features slot slice.0 state queue begun opens.0 told (fit.blind opens.0 slot) (opens.1 slot) slice.1
          (b.states.each slot slice.0 state slice.1 gs) (b.queues.each slot queue gq);
    }

pub first_known_of : (features : Features) → known_of features [] ≡ first_known features.ports
unfolding known_of
first_known_of features = refl
