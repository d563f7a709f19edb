-- Before the switch says what it is a slice sees nothing; and what a slice is sent over a history is what it is sent alone over its view.
use Rattle.std.proofs.Common.{◌≡◌, ℕ, Bool, true, false, cond, if◌then◌else◌, List, [], ◌∷◌, ◌++◌, refl, ap, ap₂, sym, ◌∙◌, true≢false, Option, Some, None}
use Rattle.of10_model.proofs.Results.{either_none}
use Rattle.of10_port.specs.declared.features.Features.{Features}
use Rattle.flowspace.specs.Policies.{PolicyView}
use Rattle.slice_words.specs.Items.{Settings, Item}
use Rattle.slice_words.specs.Alone.{alone, with_items, sent_for}
use Rattle.slice_words.proofs.Joining.{joined}
use Rattle.desk_words.specs.declared.event.Event.{Event}
use Rattle.desk_words.specs.declared.event.Event.TheVariants.{SwitchUp, SwitchMsg, SwitchDown, SliceUp, SliceMsg, SliceDown}
use Rattle.desk_words.specs.declared.event.Timed.{Timed}
use Rattle.desk_words.specs.declared.phase.Phase.{Phase}
use Rattle.desk_words.specs.declared.phase.Phase.TheVariants.{Fresh, Begun, Opened, Gone}
use Rattle.desk_words.specs.Openings.{ends_switch, features_told, phase_after, phase_of, opening_with, opening_after, opening_of, KnownSwitch, switch_of}
use Rattle.desk_words.specs.Histories.{is_slot, settings_at, SliceSide, side_start, items_of, phase_items, opening_items, with_shown, side_of, view_of, is_open}
use Rattle.desk_words.specs.Laws.{IsAlone, AreAlike, IsBlindBefore}

-- ---- the opening

-- whether the switch has said what it is
abbrev pub has_told : Option Features → Bool
has_told None = false
has_told (Some features) = true

told_begun : (bad : Bool) (told : Option Features) → is_open (if bad then Gone else elim told [ None ↦ Begun | Some features ↦ Opened ]) ≡ true → has_told told ≡ true
told_begun true told opened = absurd (true≢false (sym opened))
told_begun false None opened = absurd (true≢false (sym opened))
told_begun false (Some features) opened = refl

told_still : (told : Option Features) (phase : Phase) (event : Event) → has_told told ≡ true → has_told (opening_after phase told event) ≡ true
told_still None phase event has = absurd (true≢false (sym has))
told_still (Some features) phase event has = has

-- what opens the desk says what the switch is
told_first : (told : Option Features) (message : List ℕ) → has_told (features_told message) ≡ true → has_told (opening_after Begun told (SwitchMsg message)) ≡ true
told_first None message has = has
told_first (Some features) message has = refl

told_after : (phase : Phase) (told : Option Features) (event : Event) → (is_open phase ≡ true → has_told told ≡ true) → is_open (phase_after phase event) ≡ true → has_told (opening_after phase told event) ≡ true
told_after Fresh told SwitchUp before opened = absurd (true≢false (sym opened))
told_after Fresh told (SwitchMsg message) before opened = absurd (true≢false (sym opened))
told_after Fresh told SwitchDown before opened = absurd (true≢false (sym opened))
told_after Fresh told (SliceUp slot) before opened = absurd (true≢false (sym opened))
told_after Fresh told (SliceMsg slot message) before opened = absurd (true≢false (sym opened))
told_after Fresh told (SliceDown slot) before opened = absurd (true≢false (sym opened))
told_after Begun told (SwitchMsg message) before opened = told_first told message (told_begun (ends_switch message) (features_told message) opened)
told_after Begun told SwitchUp before opened = absurd (true≢false (sym opened))
told_after Begun told SwitchDown before opened = absurd (true≢false (sym opened))
told_after Begun told (SliceUp slot) before opened = absurd (true≢false (sym opened))
told_after Begun told (SliceMsg slot message) before opened = absurd (true≢false (sym opened))
told_after Begun told (SliceDown slot) before opened = absurd (true≢false (sym opened))
told_after Opened told event before opened = told_still told Opened event (before refl)
told_after Gone told event before opened = absurd (true≢false (sym opened))

-- an open desk has its opening
pub opened_told : (h : List Timed) → is_open (phase_of h) ≡ true → has_told (opening_of h) ≡ true
opened_told [] opened = absurd (true≢false (sym opened))
opened_told (timed ∷ h) opened = told_after (phase_of h) (opening_of h) timed.event (opened_told h) opened

-- ---- before the opening

untold_before : (phase : Phase) (told : Option Features) (event : Event) → opening_after phase told event ≡ None → told ≡ None
untold_before phase None event none = refl
untold_before phase (Some features) event none = none

none_begun : (policy : PolicyView) (slot : ℕ) (told : Option Features) → told ≡ None → opening_items policy slot told ≡ []
none_begun policy slot told none = rw none refl

pub none_in : (policy : PolicyView) (slot : ℕ) (switch : KnownSwitch) (side : SliceSide) (timed : Timed) (phase : Phase)
    → is_open phase ≡ false → opening_with phase timed.event ≡ None → phase_items policy slot switch side timed phase ≡ []
none_in policy slot switch side timed Fresh shut none = refl
none_in policy slot switch side timed Begun shut none = none_begun policy slot (opening_with Begun timed.event) none
none_in policy slot switch side timed Opened shut none = absurd (true≢false shut)
none_in policy slot switch side timed Gone shut none = refl

shut_of : (opened : Bool) (told : Option Features) → (opened ≡ true → has_told told ≡ true) → told ≡ None → opened ≡ false
shut_of true None tells none = sym (tells refl)
shut_of true (Some features) tells none = absurd (true≢false (ap has_told none))
shut_of false told tells none = refl

opening_none : (phase : Phase) (told : Option Features) (event : Event) → told ≡ None → opening_after phase told event ≡ None → opening_with phase event ≡ None
opening_none phase None event is none = none
opening_none phase (Some features) event is none = absurd (true≢false (ap has_told is))

-- in such a phase no packet is handed up
unnumbered : (phase : Phase) (timed : Timed) (side : SliceSide) → is_open phase ≡ false → with_shown phase timed [] side ≡ side
unnumbered Fresh timed side shut = refl
unnumbered Begun timed side shut = refl
unnumbered Opened timed side shut = absurd (true≢false shut)
unnumbered Gone timed side shut = refl

pub blind : (policy : PolicyView) (slot : ℕ) (h : List Timed) → IsBlindBefore policy slot h
blind policy slot [] none = refl
blind policy slot (timed ∷ h) none =
    let before : opening_of h ≡ None = untold_before (phase_of h) (opening_of h) timed.event none in
    let shut : is_open (phase_of h) ≡ false = shut_of (is_open (phase_of h)) (opening_of h) (opened_told h) before in
    let nothing = either_none (is_slot policy slot) (phase_items policy slot (switch_of h) (side_of policy slot h) timed (phase_of h))
    (none_in policy slot (switch_of h) (side_of policy slot h) timed (phase_of h) shut (opening_none (phase_of h) (opening_of h) timed.event before none)) in
    ap (λ items. with_shown (phase_of h) timed items (side_of policy slot h)) nothing
    ∙ unnumbered (phase_of h) timed (side_of policy slot h) shut
    ∙ blind policy slot h before

-- ---- what is sent alone

-- what the opening shows is answered by nothing
opening_unsent : (s : Settings) (policy : PolicyView) (slot : ℕ) (told : Option Features) → sent_for s [] (opening_items policy slot told) ≡ []
opening_unsent s policy slot None = refl
opening_unsent s policy slot (Some features) = refl

early_in : (s : Settings) (policy : PolicyView) (slot : ℕ) (switch : KnownSwitch) (timed : Timed) (phase : Phase) → is_open phase ≡ false
    → sent_for s [] (phase_items policy slot switch side_start timed phase) ≡ []
early_in s policy slot switch timed Fresh shut = refl
early_in s policy slot switch timed Begun shut = opening_unsent s policy slot (opening_with Begun timed.event)
early_in s policy slot switch timed Opened shut = absurd (true≢false shut)
early_in s policy slot switch timed Gone shut = refl

early_unsent : (b : Bool) (s : Settings) (items : List Item) → sent_for s [] items ≡ [] → sent_for s [] (cond b items []) ≡ []
early_unsent true s items none = none
early_unsent false s items none = refl

-- the settings stay once the switch has said what it is
settings_stay : (policy : PolicyView) (slot : ℕ) (phase : Phase) (told : Option Features) (event : Event) → has_told told ≡ true
    → settings_at policy slot (opening_after phase told event) ≡ settings_at policy slot told
settings_stay policy slot phase None event has = absurd (true≢false (sym has))
settings_stay policy slot phase (Some features) event has = refl

-- over a side that sees nothing, an event in a phase that isn't open has nothing sent, whatever the settings
unsent_before : (s : Settings) (policy : PolicyView) (slot : ℕ) (switch : KnownSwitch) (side : SliceSide) (timed : Timed) → side ≡ side_start → is_open switch.phase ≡ false
    → sent_for s side.sight.view (items_of policy slot switch side timed) ≡ []
unsent_before s policy slot switch side timed start shut =
    ap (λ (other : SliceSide). sent_for s other.sight.view (items_of policy slot switch other timed)) start
    ∙ early_unsent (is_slot policy slot) s (phase_items policy slot switch side_start timed switch.phase) (early_in s policy slot switch timed switch.phase shut)

-- one event more, by whether the switch has said what it is
alone_after : (policy : PolicyView) (slot : ℕ) (timed : Timed) (h : List Timed) (told : Option Features) → opening_of h ≡ told → IsAlone policy slot h → IsAlone policy slot (timed ∷ h)
alone_after policy slot timed h (Some features) is before =
    let stay = settings_stay policy slot (phase_of h) (opening_of h) timed.event (ap has_told is) in
    let view = view_of policy slot h in
    let items = items_of policy slot (switch_of h) (side_of policy slot h) timed in
    ap (λ (m : List (List ℕ)). m ++ sent_for (settings_at policy slot (opening_of h)) view items) before
    ∙ sym (joined (settings_at policy slot (opening_of h)) view items)
    ∙ ap (λ (s : Settings). alone s (with_items items view)) (sym stay)
alone_after policy slot timed h None is before =
    let now = settings_at policy slot (opening_of h) in
    let then_ = settings_at policy slot (opening_after (phase_of h) (opening_of h) timed.event) in
    let start = blind policy slot h is in
    let shut : is_open (phase_of h) ≡ false = shut_of (is_open (phase_of h)) (opening_of h) (opened_told h) is in
    let view = view_of policy slot h in
    let items = items_of policy slot (switch_of h) (side_of policy slot h) timed in
    let seen : (s : Settings) → alone s view ≡ [] = λ s. ap (λ (other : SliceSide). alone s other.sight.view) start in
    let unsent : (s : Settings) → sent_for s view items ≡ [] = λ s. unsent_before s policy slot (switch_of h) (side_of policy slot h) timed start shut in
    ap₂ (λ (a b : List (List ℕ)). a ++ b) (before ∙ seen now) (unsent now)
    ∙ sym (joined then_ view items ∙ ap₂ (λ (a b : List (List ℕ)). a ++ b) (seen then_) (unsent then_))

pub sent_alone : (policy : PolicyView) (slot : ℕ) (h : List Timed) → IsAlone policy slot h
sent_alone policy slot [] = refl
sent_alone policy slot (timed ∷ h) = alone_after policy slot timed h (opening_of h) refl (sent_alone policy slot h)

pub alike : (policy : PolicyView) (slot : ℕ) (h : List Timed) (other_policy : PolicyView) (other_slot : ℕ) (other_h : List Timed) → AreAlike policy slot h other_policy other_slot other_h
alike policy slot h other_policy other_slot other_h settings view =
    sent_alone policy slot h ∙ ap₂ alone settings view ∙ sym (sent_alone other_policy other_slot other_h)
