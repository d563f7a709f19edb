-- What happens one after another at a desk is what a record makes happen.
use Rattle.std.proofs.Common.{◌≡◌, ℕ, ◌==◌, not, Bool, true, false, if◌then◌else◌, List, [], ◌∷◌, map, refl, ap, sym, ◌∙◌, eqb-true, true≢false}
use Rattle.flowspace.specs.Policies.{PolicyView}
use Rattle.recording.specs.Recordings.{Told, switch_up, switch_bytes, switch_down, slice_up, slice_bytes}
use Rattle.desk_words.specs.declared.event.Event.{Event}
use Rattle.desk_words.specs.declared.event.Event.TheVariants.{SwitchUp, SwitchMsg, SwitchDown, SliceUp, SliceMsg, SliceDown}
use Rattle.desk_words.specs.declared.event.Timed.{Timed}
use Rattle.desk_words.specs.Openings.{phase_of}
use Rattle.desk_words.specs.Histories.{is_slice_up}
use Rattle.desk_words.specs.Verdicts.{is_ended}
use Rattle.desk_words.specs.Recorded.{completed, timed_at, happenings, happens, next_of, timed_of, history_at, events_in}
use Rattle.desk_words.proofs.Making.{made_where, made_next}
use Rattle.event_player.specs.Plays.{happening}

-- each of these events happens after a history exactly where a test of it says so
abbrev AreBy : PolicyView → (List Timed → Bool) → List Event → Type 0
AreBy policy test [] = Unit {0}
AreBy policy test (event ∷ later) = ((h : List Timed) → happens policy h event ≡ test h) × AreBy policy test later

none_happen : (policy : PolicyView) (moment : ℕ) (test : List Timed → Bool) (h : List Timed) (events : List Event) → AreBy policy test events → test h ≡ false
    → happening policy moment h events ≡ []
none_happen policy moment test h [] by none = refl
none_happen policy moment test h (event ∷ later) by none = rw (by.0 h ∙ none) (none_happen policy moment test h later by.1 none)

-- what happens is made
made_by : (policy : PolicyView) (switch moment : ℕ) (test : List Timed → Bool) (h : List Timed) (event : Event) (later : List Event) → AreBy policy test (event ∷ later) → (now : Bool) → test h ≡ now
    → happening policy moment (next_of h (timed_at moment event)) later ≡ timed_of (made_where (happens policy) switch (next_of h (timed_at moment event)) (map (timed_at moment) later))
    → happening policy moment h (event ∷ later) ≡ timed_of (made_where (happens policy) switch h (map (timed_at moment) (event ∷ later)))
made_by policy switch moment test h event later by true is others =
    rw (by.0 h ∙ is) (ap (λ (made : List Timed). timed_at moment event ∷ made) others)
    ∙ ap timed_of (sym (made_next (happens policy) switch h (timed_at moment event) (map (timed_at moment) later) true (by.0 h ∙ is)))
made_by policy switch moment test h event later by false is others =
    none_happen policy moment test h (event ∷ later) by is
    ∙ ap timed_of (sym (made_next (happens policy) switch h (timed_at moment event) (map (timed_at moment) later) false (by.0 h ∙ is)))

all_made : (policy : PolicyView) (switch moment : ℕ) (test : List Timed → Bool) (h : List Timed) (events : List Event) → AreBy policy test events
    → happening policy moment h events ≡ timed_of (made_where (happens policy) switch h (map (timed_at moment) events))
all_made policy switch moment test h [] by = refl
all_made policy switch moment test h (event ∷ later) by =
    made_by policy switch moment test h event later by (test h) refl (all_made policy switch moment test (next_of h (timed_at moment event)) later by.1)

-- ---- of each kind of record

all_of_switch : (policy : PolicyView) (frames : List (List ℕ)) → AreBy policy (λ h. not (is_ended (phase_of h))) (map (λ frame. SwitchMsg frame) frames)
all_of_switch policy [] = tt
all_of_switch policy (frame ∷ others) = (λ h. refl, all_of_switch policy others)

all_of_slice : (policy : PolicyView) (slot : ℕ) (frames : List (List ℕ)) → AreBy policy (λ h. is_slice_up policy slot h) (map (λ frame. SliceMsg slot frame) frames)
all_of_slice policy slot [] = tt
all_of_slice policy slot (frame ∷ others) = (λ h. refl, all_of_slice policy slot others)

-- what a record can make happen, by its kind: it is of at most one
by_kind : (policy : PolicyView) (r : Told) (before : List Told) (comes bytes goes slice_comes slice_sends : Bool)
    → (comes ≡ true → bytes ≡ false) → (comes ≡ true → slice_sends ≡ false) → (goes ≡ true → slice_sends ≡ false) → (slice_comes ≡ true → slice_sends ≡ false)
    → AreBy policy (λ h. if bytes then not (is_ended (phase_of h)) else if slice_sends then is_slice_up policy r.slot h else true)
    (if comes then SwitchUp ∷ [] else if bytes then map (λ frame. SwitchMsg frame) (completed r before) else if goes then SwitchDown ∷ []
    else if slice_comes then SliceUp r.slot ∷ [] else if slice_sends then map (λ frame. SliceMsg r.slot frame) (completed r before) else SliceDown r.slot ∷ [])
by_kind policy r before true true goes slice_comes slice_sends a b c d = absurd (true≢false (a refl))
by_kind policy r before true false goes slice_comes true a b c d = absurd (true≢false (b refl))
by_kind policy r before true false goes slice_comes false a b c d = (λ h. refl, tt)
by_kind policy r before false true goes slice_comes slice_sends a b c d = all_of_switch policy (completed r before)
by_kind policy r before false false true slice_comes true a b c d = absurd (true≢false (c refl))
by_kind policy r before false false true slice_comes false a b c d = (λ h. refl, tt)
by_kind policy r before false false false true true a b c d = absurd (true≢false (d refl))
by_kind policy r before false false false true false a b c d = (λ h. refl, tt)
by_kind policy r before false false false false true a b c d = all_of_slice policy r.slot (completed r before)
by_kind policy r before false false false false false a b c d = (λ h. refl, tt)

apart : (kind one other : ℕ) → (one == other) ≡ false → (kind == one) ≡ true → (kind == other) ≡ false
apart kind one other differ is = ap (λ (k : ℕ). k == other) (eqb-true kind one is) ∙ differ

-- whether what a record can make happen does, which the history says of all of it
abbrev all_happen : PolicyView → Told → List Timed → Bool
all_happen policy r h = if r.kind == switch_bytes then not (is_ended (phase_of h)) else if r.kind == slice_bytes then is_slice_up policy r.slot h else true

all_by : (policy : PolicyView) (r : Told) (before : List Told) → AreBy policy (all_happen policy r) (happenings r before)
all_by policy r before =
    by_kind policy r before (r.kind == switch_up) (r.kind == switch_bytes) (r.kind == switch_down) (r.kind == slice_up) (r.kind == slice_bytes)
    (apart r.kind switch_up switch_bytes refl) (apart r.kind switch_up slice_bytes refl) (apart r.kind switch_down slice_bytes refl) (apart r.kind slice_up slice_bytes refl)

-- what happens of what a record can make happen are its events
pub happening_is : (policy : PolicyView) (r : Told) (before : List Told) → happening policy r.moment (history_at policy r before) (happenings r before) ≡ events_in policy r before
happening_is policy r before = all_made policy r.switch r.moment (all_happen policy r) (history_at policy r before) (happenings r before) (all_by policy r before)
