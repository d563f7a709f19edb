-- The known ports are those that the switch's features and its statuses since say.
use Rattle.std.proofs.Common.{◌≡◌, ℕ, true, List, [], ◌∷◌, filter_map, refl, ap, sym, ◌∙◌, true≢false, if◌then◌else◌, Option, Some, None}
use Rattle.std.specs.List.{cons_option}
use Rattle.of10_port.specs.declared.features.Features.{Features}
use Rattle.of10_port.specs.declared.status.PortStatus.{PortStatus}
use Rattle.port_view.specs.KnownPorts.{first_known, changed, known_of as known_by}
use Rattle.desk_words.specs.declared.event.Event.{Event}
use Rattle.desk_words.specs.declared.event.Event.TheVariants.{SwitchUp, SwitchMsg, SwitchDown, SliceUp, SliceMsg, SliceDown}
use Rattle.desk_words.specs.declared.event.Timed.{Timed}
use Rattle.desk_words.specs.declared.phase.Phase.{Phase}
use Rattle.desk_words.specs.declared.phase.Phase.TheVariants.{Fresh, Begun, Opened, Gone}
use Rattle.desk_words.specs.Openings.{features_told, status_told, phase_of, opening_after, opening_of, known_after, ports_after}
use Rattle.desk_words.specs.Verdicts.{is_before}
use Rattle.desk_words.specs.Histories.{is_open}
use Rattle.desk_words.specs.Laws.{after_opening, status_in_event, statuses_since, AreKnownAsTold}
use Rattle.desk_words.proofs.Alone.{has_told, opened_told}
use Rattle.desk_words.proofs.Silence.{untold}

-- what is known by an opening and the statuses since
record AreBy (told : Option Features) (known : List (List ℕ)) (statuses : List PortStatus) : Type 0 where
  none_known : told ≡ None → known ≡ []
  none_came : told ≡ None → statuses ≡ []
  since : (features : Features) → told ≡ Some features → known ≡ known_by features statuses

-- the statuses with those of one event more
abbrev statuses_in : Phase → Timed → List Timed → List PortStatus
statuses_in phase timed events = filter_map (λ timed. status_in_event timed.event) (if is_open phase then timed ∷ events else events)

first : (features : Features) (statuses : List PortStatus) → statuses ≡ [] → first_known features.ports ≡ known_by features statuses
unfolding known_by
first features statuses none = rw none refl

one_more : (features : Features) (status : PortStatus) (known : List (List ℕ)) (statuses : List PortStatus) → known ≡ known_by features statuses
    → changed status known ≡ known_by features (status ∷ statuses)
unfolding known_by
one_more features status known statuses is = ap (changed status) is

-- what was said, or else this
abbrev features_or : Option Features → Features → Features
features_or None features = features
features_or (Some told) features = told

-- a message before the opening, by what it says of the switch
by_opening : (now : Option Features) (known : List (List ℕ)) (statuses : List PortStatus) → AreBy None known statuses
    → AreBy now (elim now [ None ↦ known | Some features ↦ first_known features.ports ]) statuses
by_opening None known statuses are = are
by_opening (Some features) known statuses are = record {
  none_known = λ none. absurd (true≢false (ap has_told none));
  none_came = λ none. absurd (true≢false (ap has_told none));
  since = λ other is. first features statuses (are.none_came refl) ∙ ap (λ (told : Option Features). known_by (features_or told features) statuses) is;
}

-- a message since, by what it says of a port
by_status : (now : Option PortStatus) (opening : Features) (known : List (List ℕ)) (statuses : List PortStatus) → AreBy (Some opening) known statuses
    → AreBy (Some opening) (elim now [ None ↦ known | Some status ↦ changed status known ]) (cons_option now statuses)
by_status None opening known statuses are = are
by_status (Some status) opening known statuses are = record {
  none_known = λ none. absurd (true≢false (ap has_told none));
  none_came = λ none. absurd (true≢false (ap has_told none));
  since = λ features is. one_more features status known statuses (are.since features is);
}

by_event : (phase : Phase) (told : Option Features) (known : List (List ℕ)) (timed : Timed) (events : List Timed) (event : Event) → timed.event ≡ event
    → (is_before phase ≡ true → told ≡ None) → (is_open phase ≡ true → has_told told ≡ true)
    → AreBy told known (filter_map (λ timed. status_in_event timed.event) events)
    → AreBy (opening_after phase told event) (known_after phase known event) (statuses_in phase timed events)
by_event Fresh None known timed events event e early opened are = are
by_event Fresh (Some opening) known timed events event e early opened are = are
by_event Begun None known timed events (SwitchMsg message) e early opened are = by_opening (features_told message) known (filter_map (λ timed. status_in_event timed.event) events) are
by_event Begun None known timed events SwitchUp e early opened are = are
by_event Begun None known timed events SwitchDown e early opened are = are
by_event Begun None known timed events (SliceUp slot) e early opened are = are
by_event Begun None known timed events (SliceMsg slot message) e early opened are = are
by_event Begun None known timed events (SliceDown slot) e early opened are = are
by_event Begun (Some opening) known timed events event e early opened are = absurd (true≢false (ap has_told (early refl)))
by_event Opened None known timed events event e early opened are = absurd (true≢false (sym (opened refl)))
by_event Opened (Some opening) known timed events (SwitchMsg message) e early opened are = rw e (by_status (status_told message) opening known (filter_map (λ timed. status_in_event timed.event) events) are)
by_event Opened (Some opening) known timed events SwitchUp e early opened are = rw e are
by_event Opened (Some opening) known timed events SwitchDown e early opened are = rw e are
by_event Opened (Some opening) known timed events (SliceUp slot) e early opened are = rw e are
by_event Opened (Some opening) known timed events (SliceMsg slot message) e early opened are = rw e are
by_event Opened (Some opening) known timed events (SliceDown slot) e early opened are = rw e are
by_event Gone None known timed events event e early opened are = are
by_event Gone (Some opening) known timed events event e early opened are = are

are_by : (h : List Timed) → AreBy (opening_of h) (ports_after h) (statuses_since h)
are_by [] = record { none_known = λ none. refl; none_came = λ none. refl; since = λ features is. absurd (true≢false (sym (ap has_told is))) }
are_by (timed ∷ h) = by_event (phase_of h) (opening_of h) (ports_after h) timed (after_opening h) timed.event refl (untold h) (opened_told h) (are_by h)

pub known_as_told : (h : List Timed) → AreKnownAsTold h
known_as_told h = let are = are_by h in record { before = are.none_known; since = are.since }
