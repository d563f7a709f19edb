-- The phase and the opening of a history, by its events.
use Rattle.std.proofs.Common.{◌≡◌, ◌&&◌, ◌||◌, not, Bool, true, false, if◌then◌else◌, List, [], ◌∷◌, refl, ap, sym, subst, ◌∙◌, true≢false, is_some, Option, Some, None}
use mathlib.Core.Bool.{or-true}
use Rattle.std.specs.Option.{option_or}
use Rattle.of10_port.specs.declared.features.Features.{Features}
use Rattle.of10_message.proofs.SwitchCases.{bad_length-read}
use Rattle.desk_words.specs.declared.event.Event.{Event}
use Rattle.desk_words.specs.declared.event.Event.TheVariants.{SwitchUp, SwitchMsg, SwitchDown, SliceUp, SliceMsg, SliceDown}
use Rattle.desk_words.specs.declared.event.Timed.{Timed}
use Rattle.desk_words.specs.declared.phase.Phase.{Phase}
use Rattle.desk_words.specs.declared.phase.Phase.TheVariants.{Fresh, Begun, Opened, Gone}
use Rattle.desk_words.specs.Openings.{ends_switch, features_told, phase_after, phase_of, opening_after, opening_of, features_in_event}
use Rattle.desk_words.specs.Histories.{is_open}
use Rattle.desk_words.specs.Verdicts.{is_fresh, is_ended, is_switch_up}
use Rattle.desk_words.specs.Laws.{has_begun, is_last, has_ended, first_told, IsPhaseByEvents}

-- what events say: whether the switch has connected and ended, and what it said first; beside that the phase and the opening
record Says (begun ended : Bool) (told : Option Features) (phase : Phase) (opening : Option Features) : Type 0 where
  freshly : is_fresh phase ≡ not begun
  finally : is_ended phase ≡ ended
  first : opening ≡ told
  between : is_open phase ≡ (is_some told && not ended)

-- the same with one event more
abbrev Goes : Bool → Bool → Option Features → Phase → Option Features → Event → Type 0
Goes begun ended told phase opening event =
    Says (is_switch_up event || begun) (ended || (begun && is_last event)) (option_or told (if begun && not ended then features_in_event event else None))
    (phase_after phase event) (opening_after phase opening event)

all_four : (begun ended : Bool) (told : Option Features) (phase : Phase) (opening : Option Features)
    → is_fresh phase ≡ not begun → is_ended phase ≡ ended → opening ≡ told → is_open phase ≡ (is_some told && not ended) → Says begun ended told phase opening
all_four begun ended told phase opening a b c d = record { freshly = a; finally = b; first = c; between = d }

from_fresh : (event : Event) → Goes false false None Fresh None event
from_fresh SwitchUp = all_four true false None Begun None refl refl refl refl
from_fresh (SwitchMsg message) = all_four false false None Fresh None refl refl refl refl
from_fresh SwitchDown = all_four false false None Fresh None refl refl refl refl
from_fresh (SliceUp slot) = all_four false false None Fresh None refl refl refl refl
from_fresh (SliceMsg slot message) = all_four false false None Fresh None refl refl refl refl
from_fresh (SliceDown slot) = all_four false false None Fresh None refl refl refl refl

begun_message : (bad : Bool) (told : Option Features) → Says true bad (option_or None told) (if bad then Gone else elim told [ None ↦ Begun | Some features ↦ Opened ]) told
begun_message true None = all_four true true None Gone None refl refl refl refl
begun_message true (Some features) = all_four true true (Some features) Gone (Some features) refl refl refl refl
begun_message false None = all_four true false None Begun None refl refl refl refl
begun_message false (Some features) = all_four true false (Some features) Opened (Some features) refl refl refl refl

from_begun : (event : Event) → Goes true false None Begun None event
from_begun SwitchUp = all_four true false None Begun None refl refl refl refl
from_begun (SwitchMsg message) =
    subst (λ (last : Bool). Says true last (option_or None (features_told message)) (phase_after Begun (SwitchMsg message)) (opening_after Begun None (SwitchMsg message))) (bad_length-read message)
    (begun_message (ends_switch message) (features_told message))
from_begun SwitchDown = all_four true true None Gone None refl refl refl refl
from_begun (SliceUp slot) = all_four true false None Begun None refl refl refl refl
from_begun (SliceMsg slot message) = all_four true false None Begun None refl refl refl refl
from_begun (SliceDown slot) = all_four true false None Begun None refl refl refl refl

opened_message : (bad : Bool) (features : Features) (other : Option Features) → Says true bad (option_or (Some features) other) (if bad then Gone else Opened) (Some features)
opened_message true features other = all_four true true (Some features) Gone (Some features) refl refl refl refl
opened_message false features other = all_four true false (Some features) Opened (Some features) refl refl refl refl

from_opened : (features : Features) (event : Event) → Goes true false (Some features) Opened (Some features) event
from_opened features SwitchUp = all_four true false (Some features) Opened (Some features) refl refl refl refl
from_opened features (SwitchMsg message) =
    subst (λ (last : Bool). Says true last (option_or (Some features) (features_told message)) (phase_after Opened (SwitchMsg message)) (opening_after Opened (Some features) (SwitchMsg message))) (bad_length-read message)
    (opened_message (ends_switch message) features (features_told message))
from_opened features SwitchDown = all_four true true (Some features) Gone (Some features) refl refl refl refl
from_opened features (SliceUp slot) = all_four true false (Some features) Opened (Some features) refl refl refl refl
from_opened features (SliceMsg slot message) = all_four true false (Some features) Opened (Some features) refl refl refl refl
from_opened features (SliceDown slot) = all_four true false (Some features) Opened (Some features) refl refl refl refl

from_ended : (told : Option Features) (event : Event) → Goes true true told Gone told event
from_ended None event = rw (or-true (is_switch_up event)) (all_four true true None Gone None refl refl refl refl)
from_ended (Some features) event = rw (or-true (is_switch_up event)) (all_four true true (Some features) Gone (Some features) refl refl refl refl)

not_is : (b c : Bool) → c ≡ not b → b ≡ not c
not_is true c is = sym (ap not is)
not_is false c is = sym (ap not is)

none_told : (told : Option Features) → (is_some told && true) ≡ false → told ≡ None
none_told None is = refl
none_told (Some features) is = absurd (true≢false is)

some_told : {A : Type 0} (told : Option Features) → true ≡ (is_some told && true) → ((features : Features) → told ≡ Some features → A) → A
some_told None is give = absurd (true≢false is)
some_told (Some features) is give = give features refl

goes_on : (begun ended : Bool) (told : Option Features) (phase : Phase) (opening : Option Features) (event : Event) → Says begun ended told phase opening → Goes begun ended told phase opening event
goes_on begun ended told Fresh opening event s =
    let b : begun ≡ false = not_is begun true s.freshly in
    let e : ended ≡ false = sym s.finally in
    let t : told ≡ None = none_told told (sym (s.between ∙ ap (λ (x : Bool). is_some told && not x) e)) in
    rw (b, e, s.first, t) (from_fresh event)
goes_on begun ended told Begun opening event s =
    let b : begun ≡ true = not_is begun false s.freshly in
    let e : ended ≡ false = sym s.finally in
    let t : told ≡ None = none_told told (sym (s.between ∙ ap (λ (x : Bool). is_some told && not x) e)) in
    rw (b, e, s.first, t) (from_begun event)
goes_on begun ended told Opened opening event s =
    let b : begun ≡ true = not_is begun false s.freshly in
    let e : ended ≡ false = sym s.finally in
    some_told told (s.between ∙ ap (λ (x : Bool). is_some told && not x) e) (λ features t. rw (b, e, s.first, t) (from_opened features event))
goes_on begun ended told Gone opening event s =
    let b : begun ≡ true = not_is begun false s.freshly in
    let e : ended ≡ true = sym s.finally in
    rw (b, e, s.first) (from_ended told event)

says : (h : List Timed) → Says (has_begun h) (has_ended h) (first_told h) (phase_of h) (opening_of h)
says [] = all_four false false None Fresh None refl refl refl refl
says (timed ∷ h) = goes_on (has_begun h) (has_ended h) (first_told h) (phase_of h) (opening_of h) timed.event (says h)

pub by_events : (h : List Timed) → IsPhaseByEvents h
by_events h = let s = says h in record { fresh = s.freshly; ended = s.finally; opening = s.first; open_then = s.between }
