-- What a report says a slice is sent since a switch connected last.
use Rattle.std.proofs.Common.{◌≡◌, ℕ, zero, suc, ◌==◌, ◌&&◌, ◌||◌, not, Bool, true, false, if◌then◌else◌, List, [], ◌∷◌, ◌++◌, map, take, reverse, refl, ap, ap₂, sym, subst, ◌∙◌, append_assoc, append-nil, eq-eqb, eqb-true}
use Rattle.std.proofs.lemmas.Bool.{or_parts}
use Rattle.std.specs.List.{list_any}
use Rattle.std.proofs.lemmas.List.Concat.{flat_map-append}
use Rattle.std.proofs.lemmas.List.Folds.{list_any-append}
use mathlib.Core.Bool.{and-false, or-true, or-false}
use Rattle.flowspace.specs.Policies.{PolicyView}
use Rattle.recording.specs.Recordings.{Told, switch_up, switch_bytes, switch_down, slice_up, slice_bytes}
use Rattle.of10_model.proofs.Results.{either}
use Rattle.desk_words.specs.declared.event.Event.{Event}
use Rattle.desk_words.specs.declared.event.Event.TheVariants.{SwitchUp, SwitchMsg, SliceMsg}
use Rattle.desk_words.specs.declared.event.Timed.{Timed}
use Rattle.desk_words.specs.Sent.{sent}
use Rattle.desk_words.specs.Verdicts.{is_over, is_switch_up}
use Rattle.desk_words.specs.Recorded.{completed, timed_at, happenings, happens, next_of, next_after, Happened, each_after, timed_of, history_of, history_at, happened_in, events_in}
use Rattle.desk_words.specs.Reports.{sent_to_slice, told_over}
use Rattle.desk_words.specs.Laws.{comes_up, since_up, IsToldAsAlone}
use Rattle.desk_words.proofs.Alone.{sent_alone}
use Rattle.recording.proofs.Refused.{newest_first}
use Rattle.desk_words.proofs.Making.{made_where, made_next, makes_the_first, happened_each, at_their_switch}
use Rattle.desk_words.proofs.Reporting.{each_next, happened_after, next_happened, from_none}

-- ---- what is reported and what is sent

sent_next : (policy : PolicyView) (slot : ℕ) (h : List Timed) (timed : Timed) (over : Bool) → is_over h ≡ over
    → sent policy slot (next_of h timed) ≡ sent policy slot h ++ sent_to_slice policy slot h timed
sent_next policy slot h timed true is = rw is (sym (append-nil (sent policy slot h)))
sent_next policy slot h timed false is = rw is refl

-- what was sent after events is what was sent before them, and what is reported of them
sent_after : (policy : PolicyView) (slot switch : ℕ) (h own : List Timed) → sent policy slot (next_after h own) ≡ sent policy slot h ++ told_over policy slot (each_after switch h own)
sent_after policy slot switch h [] = sym (append-nil (sent policy slot h))
sent_after policy slot switch h (timed ∷ later) =
    let rest = told_over policy slot (each_after switch (next_of h timed) later) in
    sent_after policy slot switch (next_of h timed) later
    ∙ ap (λ (front : List (List ℕ)). front ++ rest) (sent_next policy slot h timed (is_over h) refl)
    ∙ append_assoc (sent policy slot h) (sent_to_slice policy slot h timed) rest
    ∙ ap (λ (events : List Happened). sent policy slot h ++ told_over policy slot events) (sym (each_next switch h timed later))

-- ---- events since the last up

kept_front : (b : Bool) (one : Happened) (first second : List Happened) → (if b then one ∷ (first ++ second) else first ++ second) ≡ (if b then one ∷ first else first) ++ second
kept_front true one first second = refl
kept_front false one first second = refl

since_both : (switch : ℕ) (first second : List Happened) → list_any (comes_up switch) second ≡ false → since_up switch (first ++ second) ≡ since_up switch first ++ since_up switch second
since_both switch [] second none = refl
since_both switch (one ∷ first) second none =
    ap₂ (λ (any : Bool) (rest : List Happened). if one.switch == switch && not any then one ∷ rest else rest)
    (list_any-append (comes_up switch) first second ∙ ap (λ (b : Bool). list_any (comes_up switch) first || b) none ∙ or-false (list_any (comes_up switch) first)) (since_both switch first second none)
    ∙ kept_front (one.switch == switch && not (list_any (comes_up switch) first)) one (since_up switch first) (since_up switch second)

since_last : (switch : ℕ) (first : List Happened) (up : Happened) → (up.switch == switch) ≡ true → is_switch_up up.timed.event ≡ true → since_up switch (first ++ up ∷ []) ≡ up ∷ []
since_last switch [] up at comes = rw at refl
since_last switch (one ∷ first) up at comes =
    let any : list_any (comes_up switch) (up ∷ []) ≡ true = (rw (at, comes) refl) in
    ap (λ (b : Bool). if one.switch == switch && not b then one ∷ since_up switch (first ++ up ∷ []) else since_up switch (first ++ up ∷ []))
    (list_any-append (comes_up switch) first (up ∷ []) ∙ ap (λ (b : Bool). list_any (comes_up switch) first || b) any ∙ or-true (list_any (comes_up switch) first))
    ∙ ap (λ (b : Bool). if b then one ∷ since_up switch (first ++ up ∷ []) else since_up switch (first ++ up ∷ [])) (and-false (one.switch == switch))
    ∙ since_last switch first up at comes

-- none of these events is an up of the switch, and so much of them is since its last
abbrev AreSince : ℕ → List Happened → List Happened → Type 0
AreSince switch events kept = (list_any (comes_up switch) events ≡ false) × (since_up switch events ≡ kept)

of_others : (switch other : ℕ) (h own : List Timed) → (other == switch) ≡ false → AreSince switch (each_after other h own) []
of_others switch other h [] differs = (refl, refl)
of_others switch other h (timed ∷ later) differs =
    subst (λ (events : List Happened). AreSince switch events []) (sym (each_next other h timed later)) (rw differs (of_others switch other (next_of h timed) later differs))

of_itself : (switch : ℕ) (h own : List Timed) → list_any (λ timed. is_switch_up timed.event) own ≡ false → AreSince switch (each_after switch h own) (each_after switch h own)
of_itself switch h [] none = (refl, refl)
of_itself switch h (timed ∷ later) none =
    let parts = or_parts (is_switch_up timed.event) (list_any (λ one. is_switch_up one.event) later) none in
    let rest = of_itself switch (next_of h timed) later parts.1 in
    let one : Happened = record { switch = switch; history = h; timed = timed } in
    subst (λ (events : List Happened). AreSince switch events events) (sym (each_next switch h timed later))
    (rw (eq-eqb switch switch refl, parts.0) rest.0, rw (eq-eqb switch switch refl, rest.0) (ap (λ (events : List Happened). one ∷ events) rest.1))

-- ---- ups of a record

none_first : (moment count : ℕ) (events : List Event) → list_any is_switch_up events ≡ false → list_any (λ timed. is_switch_up timed.event) (map (timed_at moment) (take count events)) ≡ false
none_first moment zero events none = refl
none_first moment (suc count) [] none = refl
none_first moment (suc count) (event ∷ later) none =
    let parts = or_parts (is_switch_up event) (list_any is_switch_up later) none in
    ap (λ (b : Bool). b || list_any (λ timed. is_switch_up timed.event) (map (timed_at moment) (take count later))) parts.0 ∙ none_first moment count later parts.1

none_happens : (policy : PolicyView) (r : Told) (before : List Told) → list_any is_switch_up (happenings r before) ≡ false → list_any (λ timed. is_switch_up timed.event) (events_in policy r before) ≡ false
none_happens policy r before none =
    let first = makes_the_first policy r before in
    ap (list_any (λ timed. is_switch_up timed.event)) first.events ∙ none_first r.moment first.count (happenings r before) none

none_of_switch : (frames : List (List ℕ)) → list_any is_switch_up (map (λ frame. SwitchMsg frame) frames) ≡ false
none_of_switch [] = refl
none_of_switch (frame ∷ others) = none_of_switch others

none_of_slice : (slot : ℕ) (frames : List (List ℕ)) → list_any is_switch_up (map (λ frame. SliceMsg slot frame) frames) ≡ false
none_of_slice slot [] = refl
none_of_slice slot (frame ∷ others) = none_of_slice slot others

one_of_kind : (r : Told) (before : List Told) → (r.kind == switch_up) ≡ true → happenings r before ≡ SwitchUp ∷ []
one_of_kind r before comes = rw comes refl

-- a record of another kind than a switch's up has none
none_of_kind : (r : Told) (before : List Told) → (r.kind == switch_up) ≡ false → list_any is_switch_up (happenings r before) ≡ false
none_of_kind r before other =
    let none = λ (events : List Event). list_any is_switch_up events ≡ false in
    rw other
    (either none (r.kind == switch_bytes) _ _ (none_of_switch (completed r before))
    (either none (r.kind == switch_down) _ _ refl
    (either none (r.kind == slice_up) _ _ refl (either none (r.kind == slice_bytes) _ _ (none_of_slice r.slot (completed r before)) refl))))

-- ---- one record after others

-- what these events send a slice is what it is sent over the switch's history
abbrev AreTold : PolicyView → ℕ → ℕ → List Happened → List Told → Type 0
AreTold policy slot switch events before = told_over policy slot (since_up switch events) ≡ sent policy slot (history_of policy switch before)

told_with_others : (policy : PolicyView) (slot switch : ℕ) (events : List Happened) (before : List Told) (r : Told) → (r.switch == switch) ≡ false
    → AreTold policy slot switch events before → AreTold policy slot switch (events ++ happened_in policy before r) (r ∷ before)
told_with_others policy slot switch events before r differs told =
    let none = subst (λ (made : List Happened). AreSince switch made []) (sym (happened_each policy before r)) (of_others switch r.switch (history_at policy r before) (events_in policy r before) differs) in
    ap (told_over policy slot) (since_both switch events (happened_in policy before r) none.0 ∙ ap (λ (rest : List Happened). since_up switch events ++ rest) none.1 ∙ append-nil (since_up switch events))
    ∙ told ∙ ap (sent policy slot) (sym ((at_their_switch policy r before).others switch differs))

told_from_up : (policy : PolicyView) (slot : ℕ) (events : List Happened) (before : List Told) (r : Told) → (r.kind == switch_up) ≡ true
    → AreTold policy slot r.switch (events ++ happened_in policy before r) (r ∷ before)
told_from_up policy slot events before r comes =
    let h = history_at policy r before in
    let own = events_in policy r before in
    let own_is : own ≡ timed_at r.moment SwitchUp ∷ [] =
    ap (λ (events : List Event). timed_of (made_where (happens policy) r.switch h (map (timed_at r.moment) events))) (one_of_kind r before comes)
    ∙ ap timed_of (made_next (happens policy) r.switch h (timed_at r.moment SwitchUp) [] true refl) in
    let fresh : h ≡ [] = ap (λ (b : Bool). if b then [] else history_of policy r.switch before) comes in
    let last = subst (λ (made : List Timed). since_up r.switch (events ++ each_after r.switch h made) ≡ each_after r.switch h made) (sym own_is)
    (since_last r.switch events (record { switch = r.switch; history = h; timed = timed_at r.moment SwitchUp }) (eq-eqb r.switch r.switch refl) refl) in
    ap (λ (made : List Happened). told_over policy slot (since_up r.switch (events ++ made))) (happened_each policy before r)
    ∙ ap (told_over policy slot) last
    ∙ ap (λ (front : List Timed). sent policy slot front ++ told_over policy slot (each_after r.switch h own)) (sym fresh)
    ∙ sym (sent_after policy slot r.switch h own) ∙ ap (sent policy slot) (sym (at_their_switch policy r before).own)

told_further : (policy : PolicyView) (slot : ℕ) (events : List Happened) (before : List Told) (r : Told) → (r.kind == switch_up) ≡ false
    → AreTold policy slot r.switch events before → AreTold policy slot r.switch (events ++ happened_in policy before r) (r ∷ before)
told_further policy slot events before r other told =
    let h = history_at policy r before in
    let own = events_in policy r before in
    let text = told_over policy slot (each_after r.switch h own) in
    let all = of_itself r.switch h own (none_happens policy r before (none_of_kind r before other)) in
    let same : history_of policy r.switch before ≡ h = ap (λ (b : Bool). if b then [] else history_of policy r.switch before) (sym other) in
    ap (λ (made : List Happened). told_over policy slot (since_up r.switch (events ++ made))) (happened_each policy before r)
    ∙ ap (told_over policy slot) (since_both r.switch events (each_after r.switch h own) all.0 ∙ ap (λ (rest : List Happened). since_up r.switch events ++ rest) all.1)
    ∙ flat_map-append (λ one. sent_to_slice policy slot one.history one.timed) (since_up r.switch events) (each_after r.switch h own)
    ∙ ap (λ (front : List (List ℕ)). front ++ text) (told ∙ ap (sent policy slot) same)
    ∙ sym (sent_after policy slot r.switch h own) ∙ ap (sent policy slot) (sym (at_their_switch policy r before).own)

told_by_kind : (policy : PolicyView) (slot : ℕ) (events : List Happened) (before : List Told) (r : Told) (comes : Bool) → (r.kind == switch_up) ≡ comes
    → AreTold policy slot r.switch events before → AreTold policy slot r.switch (events ++ happened_in policy before r) (r ∷ before)
told_by_kind policy slot events before r true is told = told_from_up policy slot events before r is
told_by_kind policy slot events before r false is told = told_further policy slot events before r is told

told_with : (policy : PolicyView) (slot switch : ℕ) (events : List Happened) (before : List Told) (r : Told) (own : Bool) → (r.switch == switch) ≡ own
    → AreTold policy slot switch events before → AreTold policy slot switch (events ++ happened_in policy before r) (r ∷ before)
told_with policy slot switch events before r true is told =
    subst (λ (s : ℕ). AreTold policy slot s events before → AreTold policy slot s (events ++ happened_in policy before r) (r ∷ before)) (eqb-true r.switch switch is)
    (told_by_kind policy slot events before r (r.kind == switch_up) refl) told
told_with policy slot switch events before r false is told = told_with_others policy slot switch events before r is told

-- ---- all records

told_all : (policy : PolicyView) (slot switch : ℕ) (events : List Happened) (before later : List Told) → AreTold policy slot switch events before
    → AreTold policy slot switch (events ++ happened_after policy before later) (reverse later ++ before)
told_all policy slot switch events before [] told = subst (λ (all : List Happened). AreTold policy slot switch all before) (sym (append-nil events)) told
told_all policy slot switch events before (r ∷ later) told =
    ap (λ (all : List Happened). told_over policy slot (since_up switch all))
    (ap (λ (rest : List Happened). events ++ rest) (next_happened policy before r later) ∙ sym (append_assoc events (happened_in policy before r) (happened_after policy (r ∷ before) later)))
    ∙ told_all policy slot switch (events ++ happened_in policy before r) (r ∷ before) later (told_with policy slot switch events before r (r.switch == switch) refl told)
    ∙ ap (λ (all : List Told). sent policy slot (history_of policy switch all)) (sym (newest_first r later before))

pub told_as_alone : (policy : PolicyView) (slot switch : ℕ) (records : List Told) → IsToldAsAlone policy slot switch records
told_as_alone policy slot switch records =
    ap (λ (all : List Happened). told_over policy slot (since_up switch all)) (sym (from_none policy records))
    ∙ told_all policy slot switch [] [] records refl
    ∙ ap (λ (all : List Told). sent policy slot (history_of policy switch all)) (append-nil (reverse records))
    ∙ sent_alone policy slot (history_of policy switch (reverse records))
