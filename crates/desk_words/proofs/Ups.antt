-- Who is up, by the events of a history.
use Rattle.std.proofs.Common.{◌≡◌, ℕ, ◌==◌, ◌&&◌, Bool, true, false, if◌then◌else◌, List, [], ◌∷◌, refl, ap, sym, ◌∙◌}
use Rattle.std.specs.List.{filter}
use Rattle.flowspace.specs.Policies.{PolicyView}
use Rattle.slice_words.specs.Items.{Item, Up, Down, Msg, is_up}
use Rattle.slice_words.specs.Messages.{is_dismissing}
use Rattle.slice_words.specs.Alone.{with_items}
use Rattle.desk_words.specs.declared.event.Event.{Event}
use Rattle.desk_words.specs.declared.event.Event.TheVariants.{SwitchUp, SwitchMsg, SwitchDown, SliceUp, SliceMsg, SliceDown}
use Rattle.desk_words.specs.declared.event.Timed.{Timed}
use Rattle.desk_words.specs.declared.phase.Phase.{Phase}
use Rattle.desk_words.specs.declared.phase.Phase.TheVariants.{Fresh, Begun, Opened, Gone}
use Rattle.desk_words.specs.Openings.{phase_of, opening_with, KnownSwitch, switch_of}
use Rattle.desk_words.specs.Histories.{is_slot, SliceSide, side_of, view_of, message_items, opening_items, event_items, phase_items, is_open}
use Rattle.desk_words.specs.Laws.{is_up_of, after_opening, tells_of, is_last_event_up, IsUpByEvents}
use Rattle.desk_words.proofs.Silence.{stays_all, plain_message, plain_opening}

-- the events that say whether the slice is up
abbrev telling : ℕ → List Timed → List Timed
telling slot events = filter (λ timed. tells_of slot timed.event) events

-- a message of the slice keeps it up, or ends its connection
by_message : (own up dismissing : Bool) (message : List ℕ) (moment : ℕ) (view : List Item) (now last : Bool) → is_up view ≡ up → up ≡ last → now ≡ false → is_dismissing message ≡ dismissing
    → is_up (with_items (if own && up then Msg message moment ∷ [] else []) view) ≡ (if own && dismissing then now else last)
by_message false up dismissing message moment view now last is same off d = is ∙ same
by_message true true true message moment view now last is same off d = rw d (sym off)
by_message true true false message moment view now last is same off d = rw d (is ∙ same)
by_message true false true message moment view now last is same off d = is ∙ sym off
by_message true false false message moment view now last is same off d = is ∙ same

-- its connection begins or ends
by_item : (own : Bool) (item : Item) (view : List Item) (now last : Bool) → is_up view ≡ last → (own ≡ true → is_up (item ∷ view) ≡ now)
    → is_up (with_items (if own then item ∷ [] else []) view) ≡ (if own then now else last)
by_item true item view now last same tells = tells refl
by_item false item view now last same tells = same

-- an event after the opening, by what it is
one_event : (policy : PolicyView) (slot : ℕ) (switch : KnownSwitch) (side : SliceSide) (timed : Timed) (event : Event) → timed.event ≡ event → (last : Bool) → is_up side.sight.view ≡ last
    → is_up (with_items (event_items policy slot switch side timed.moment event) side.sight.view) ≡ (if tells_of slot event then is_up_of slot timed else last)
one_event policy slot switch side timed SwitchUp e last same = same
one_event policy slot switch side timed (SwitchMsg message) e last same = stays_all (message_items policy slot switch side message) side.sight.view (plain_message policy slot switch side message) ∙ same
one_event policy slot switch side timed SwitchDown e last same = same
one_event policy slot switch side timed (SliceUp other) e last same = by_item (other == slot) Up side.sight.view (is_up_of slot timed) last same (λ own. rw e (sym own))
one_event policy slot switch side timed (SliceMsg other message) e last same =
    by_message (other == slot) (is_up side.sight.view) (is_dismissing message) message timed.moment side.sight.view (is_up_of slot timed) last refl same (rw e refl) refl
one_event policy slot switch side timed (SliceDown other) e last same = by_item (other == slot) Down side.sight.view (is_up_of slot timed) last same (λ own. rw e refl)

last_of : (b : Bool) (slot : ℕ) (timed : Timed) (events : List Timed) → is_last_event_up slot (if b then timed ∷ events else events) ≡ (if b then is_up_of slot timed else is_last_event_up slot events)
last_of true slot timed events = refl
last_of false slot timed events = refl

one_more : (policy : PolicyView) (slot : ℕ) (switch : KnownSwitch) (side : SliceSide) (timed : Timed) (events : List Timed) (phase : Phase) → is_up side.sight.view ≡ is_last_event_up slot (telling slot events)
    → is_up (with_items (phase_items policy slot switch side timed phase) side.sight.view) ≡ is_last_event_up slot (telling slot (if is_open phase then timed ∷ events else events))
one_more policy slot switch side timed events Fresh same = same
one_more policy slot switch side timed events Begun same = stays_all (opening_items policy slot (opening_with Begun timed.event)) side.sight.view (plain_opening policy slot (opening_with Begun timed.event)) ∙ same
one_more policy slot switch side timed events Opened same =
    one_event policy slot switch side timed timed.event refl (is_last_event_up slot (telling slot events)) same
    ∙ sym (last_of (tells_of slot timed.event) slot timed (telling slot events))
one_more policy slot switch side timed events Gone same = same

up_in_view : (policy : PolicyView) (slot : ℕ) (h : List Timed) → is_slot policy slot ≡ true → is_up (view_of policy slot h) ≡ is_last_event_up slot (telling slot (after_opening h))
up_in_view policy slot [] here = refl
up_in_view policy slot (timed ∷ h) here =
    rw here (one_more policy slot (switch_of h) (side_of policy slot h) timed (after_opening h) (phase_of h) (up_in_view policy slot h here))

pub up_by_events : (policy : PolicyView) (slot : ℕ) (h : List Timed) → IsUpByEvents policy slot h
up_by_events policy slot h here = ap (λ (up : Bool). is_open (phase_of h) && up) (up_in_view policy slot h here)
