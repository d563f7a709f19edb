-- Which events a record makes, and what history they make.
use Rattle.std.proofs.Common.{◌≡◌, ℕ, zero, suc, ◌<◌, ◌≤◌, Bool, true, false, if◌then◌else◌, List, [], ◌∷◌, ◌++◌, length, map, take, reverse, slice_get, Some, refl, ap, sym, subst, ◌∙◌, eq-eqb, arith}
use Rattle.std.specs.List.{take_while}
use Rattle.std.proofs.lemmas.List.Sums.{take_while-cons}
use Rattle.std.proofs.lemmas.Option.{none-some, same_Some}
use Rattle.flowspace.specs.Policies.{PolicyView}
use Rattle.recording.specs.Recordings.{Told}
use Rattle.recording.proofs.Refused.{newest_first}
use Rattle.desk_words.specs.declared.event.Event.{Event}
use Rattle.desk_words.specs.declared.event.Timed.{Timed}
use Rattle.desk_words.specs.Verdicts.{is_over}
use Rattle.desk_words.specs.Recorded.{timed_at, happenings, happens, next_of, next_after, Happened, each_after, timed_of, history_at, happened_in, events_in}
use Rattle.desk_words.specs.Laws.{MakesTheFirst, GetsTheFirst, ComeAtTheirSwitch}
use Rattle.desk_words.proofs.Reporting.{each_next}

-- ---- what happens

-- of these events after a history the first, as long as a test of the history before each and of the event says so
abbrev pub made_where : (List Timed → Event → Bool) → ℕ → List Timed → List Timed → List Happened
made_where test switch h events = take_while (λ one. test one.history one.timed.event) (each_after switch h events)

pub made_next : (test : List Timed → Event → Bool) (switch : ℕ) (h : List Timed) (timed : Timed) (later : List Timed) (now : Bool) → test h timed.event ≡ now
    → made_where test switch h (timed ∷ later) ≡ (if now then record { switch = switch; history = h; timed = timed } ∷ made_where test switch (next_of h timed) later else [])
made_next test switch h timed later now is =
    let first : Happened = record { switch = switch; history = h; timed = timed } in
    let others = each_after switch (next_of h timed) later in
    ap (take_while (λ one. test one.history one.timed.event)) (each_next switch h timed later)
    ∙ take_while-cons (λ one. test one.history one.timed.event) first others
    ∙ ap (λ (b : Bool). if b then first ∷ take_while (λ one. test one.history one.timed.event) others else []) is

pub timed_each : (switch : ℕ) (h events : List Timed) → timed_of (each_after switch h events) ≡ events
timed_each switch h [] = refl
timed_each switch h (timed ∷ later) = ap timed_of (each_next switch h timed later) ∙ ap (λ (events : List Timed). timed ∷ events) (timed_each switch (next_of h timed) later)

-- so many of them are made: the test says so of each, and not of the next where any is left
record AreFirst (test : List Timed → Event → Bool) (switch moment : ℕ) (h : List Timed) (events : List Event) : Type 0 where
  count : ℕ
  within : count ≤ length events
  made : made_where test switch h (map (timed_at moment) events) ≡ each_after switch h (map (timed_at moment) (take count events))
  there : (k : ℕ) (event : Event) → k < count → slice_get events k ≡ Some event → test (next_after h (map (timed_at moment) (take k events))) event ≡ true
  gone : (event : Event) → slice_get events count ≡ Some event → test (next_after h (map (timed_at moment) (take count events))) event ≡ false

first_there : (moment : ℕ) (test : List Timed → Event → Bool) (h : List Timed) (event : Event) (later : List Event) (count : ℕ) → test h event ≡ true
    → ((k : ℕ) (next : Event) → k < count → slice_get later k ≡ Some next → test (next_after (next_of h (timed_at moment event)) (map (timed_at moment) (take k later))) next ≡ true)
    → (k : ℕ) (next : Event) → k < suc count → slice_get (event ∷ later) k ≡ Some next → test (next_after h (map (timed_at moment) (take k (event ∷ later)))) next ≡ true
first_there moment test h event later count is others zero next lt at = subst (λ (e : Event). test h e ≡ true) (same_Some event next at) is
first_there moment test h event later count is others (suc k) next lt at = others k next (omega arith) at

first_by : (test : List Timed → Event → Bool) (switch moment : ℕ) (h : List Timed) (event : Event) (later : List Event) (now : Bool) → test h event ≡ now
    → AreFirst test switch moment (next_of h (timed_at moment event)) later → AreFirst test switch moment h (event ∷ later)
first_by test switch moment h event later true is first =
    let timed = timed_at moment event in
    let one : Happened = record { switch = switch; history = h; timed = timed } in
    record {
      count = suc first.count;
      within = (let small = first.within in omega arith);
      made =
          made_next test switch h timed (map (timed_at moment) later) true is
          ∙ ap (λ (others : List Happened). one ∷ others) first.made
          ∙ sym (each_next switch h timed (map (timed_at moment) (take first.count later)));
      there = first_there moment test h event later first.count is first.there;
      gone = λ next at. first.gone next at;
    }
first_by test switch moment h event later false is first = record {
  count = 0;
  within = omega arith;
  made = made_next test switch h (timed_at moment event) (map (timed_at moment) later) false is;
  there = λ k next lt at. absurd (omega arith);
  gone = λ next at. subst (λ (e : Event). test h e ≡ false) (same_Some event next at) is;
}

first_of : (test : List Timed → Event → Bool) (switch moment : ℕ) (h : List Timed) (events : List Event) → AreFirst test switch moment h events
first_of test switch moment h [] = record { count = 0; within = omega arith; made = refl; there = λ k next lt at. absurd (omega arith); gone = λ next at. absurd (none-some next at) }
first_of test switch moment h (event ∷ later) = first_by test switch moment h event later (test h event) refl (first_of test switch moment (next_of h (timed_at moment event)) later)

first_in : (policy : PolicyView) (r : Told) (before : List Told) → AreFirst (happens policy) r.switch r.moment (history_at policy r before) (happenings r before)
first_in policy r before = first_of (happens policy) r.switch r.moment (history_at policy r before) (happenings r before)

made_as : (policy : PolicyView) (r : Told) (before : List Told) → events_in policy r before ≡ map (timed_at r.moment) (take (first_in policy r before).count (happenings r before))
made_as policy r before =
    let first = first_in policy r before in
    ap timed_of first.made ∙ timed_each r.switch (history_at policy r before) (map (timed_at r.moment) (take first.count (happenings r before)))

pub makes_the_first : (policy : PolicyView) (r : Told) (before : List Told) → MakesTheFirst policy r before
makes_the_first policy r before =
    let first = first_in policy r before in
    record { count = first.count; within = first.within; events = made_as policy r before; there = first.there; gone = first.gone }

-- a record's events come one after another
pub happened_each : (policy : PolicyView) (before : List Told) (r : Told) → happened_in policy before r ≡ each_after r.switch (history_at policy r before) (events_in policy r before)
happened_each policy before r = (first_in policy r before).made ∙ ap (each_after r.switch (history_at policy r before)) (sym (made_as policy r before))

-- ---- what history they make

stays_over : (h events : List Timed) → is_over h ≡ true → next_after h events ≡ h
stays_over h [] over = refl
stays_over h (timed ∷ later) over = rw over (stays_over h later over)

still_going : (h : List Timed) (timed : Timed) (later : List Timed) (count : ℕ) → is_over h ≡ false
    → ((k : ℕ) → k < count → is_over (reverse (take k later) ++ (timed ∷ h)) ≡ false)
    → (k : ℕ) → k < suc count → is_over (reverse (take k (timed ∷ later)) ++ h) ≡ false
still_going h timed later count going others zero lt = going
still_going h timed later count going others (suc k) lt = ap is_over (newest_first timed (take k later) h) ∙ others k (omega arith)

gets_by : (h : List Timed) (timed : Timed) (later : List Timed) (now : Bool) → is_over h ≡ now → GetsTheFirst (timed ∷ h) later → GetsTheFirst h (timed ∷ later)
gets_by h timed later true is others = record {
  count = 0;
  within = omega arith;
  history = stays_over h (timed ∷ later) is;
  going = λ k lt. absurd (omega arith);
  over = λ lt. is;
}
gets_by h timed later false is others = record {
  count = suc others.count;
  within = (let small = others.within in omega arith);
  history = rw is (others.history ∙ sym (newest_first timed (take others.count later) h));
  going = still_going h timed later others.count is others.going;
  over = λ lt. ap is_over (newest_first timed (take others.count later) h) ∙ others.over (omega arith);
}

pub gets_the_first : (h events : List Timed) → GetsTheFirst h events
gets_the_first h [] = record { count = 0; within = omega arith; history = refl; going = λ k lt. absurd (omega arith); over = λ lt. absurd (omega arith) }
gets_the_first h (timed ∷ later) = gets_by h timed later (is_over h) refl (gets_the_first (timed ∷ h) later)

pub at_their_switch : (policy : PolicyView) (r : Told) (before : List Told) → ComeAtTheirSwitch policy r before
at_their_switch policy r before = record {
  own = rw (eq-eqb r.switch r.switch refl) refl;
  others = λ switch differs. rw differs refl;
}
