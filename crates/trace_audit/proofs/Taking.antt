-- A switch after one record more.
use Rattle.std.proofs.Common.{◌≡◌, ℕ, zero, suc, ◌==◌, true, false, if◌then◌else◌, List, [], ◌∷◌, ◌++◌, ◌+◌, ◌≤◌, length, arith, set, slice_get, Option, Some, None, Result, Ok, Err, refl, sym, subst, ◌∙◌}
use Rattle.std.proofs.lemmas.Option.{none-some, same_Some}
use Rattle.std.proofs.lemmas.List.{length-set, length-append}
use Rattle.std.proofs.Math.Dec.{eqb-zero-suc, eqb-suc-zero, eqb-suc-suc}
use Rattle.std.specs.declared.alloc.AllocError.{AllocError}
use Rattle.desk_words.specs.declared.event.Event.TheVariants.{SwitchUp, SwitchMsg, SwitchDown}
use Rattle.std.proofs.lemmas.Bool.{cond-true, cond-false, ne_eqb}
use Rattle.flowspace.specs.Policies.{PolicyView}
use Rattle.recording.specs.Recordings.{Told, switch_up, switch_bytes, sent_bytes}
use Rattle.desk_words.specs.declared.event.Timed.{Timed}
use Rattle.desk_words.specs.Recorded.{timed_at}
use Rattle.trace_audit.specs.declared.why.Why.{Why}
use Rattle.trace_audit.specs.declared.switch.Switch.{Switch}
use Rattle.trace_audit.specs.Sessions.{event_told, session_of}
use Rattle.trace_audit.specs.Auditing.{message_why}
use Rattle.trace_audit.specs.Standing.{SessionStands, AreRulesOf, SwitchStands, IsFresh, Takes, SwitchesStand, TakesAmong}
use Rattle.trace_audit.proofs.Sessions.{session_away, session_sent, session_told}

-- what came of the switch is taken in
pub told_takes : (policy : PolicyView) (file : List ℕ) (r : Told) (before : List Told) (t : Switch) → (r.kind == sent_bytes) ≡ false
    → SessionStands file (timed_at r.moment (event_told r) ∷ (if r.kind == switch_up then [] else session_of r.switch before)) t.session → AreRulesOf policy.rules t.rules → Takes policy file r before (Ok None) t
told_takes policy file r before t isnt stands rules = (
  sym (cond-false (r.kind == sent_bytes) (message_why policy (session_of r.switch before) r.slot r.bytes) None isnt),
  record { session = subst (λ (h : List Timed). SessionStands file h t.session) (sym (session_told r before isnt)) stands; rules_kept = rules },
)

-- what was sent is judged
pub sent_takes : (policy : PolicyView) (file : List ℕ) (r : Told) (before : List Told) (w : Option Why) (t : Switch) → (r.kind == sent_bytes) ≡ true → w ≡ message_why policy (session_of r.switch before) r.slot r.bytes
    → SessionStands file (session_of r.switch before) t.session → AreRulesOf policy.rules t.rules → Takes policy file r before (Ok w) t
sent_takes policy file r before w t sent is stands rules = (
  is ∙ sym (cond-true (r.kind == sent_bytes) (message_why policy (session_of r.switch before) r.slot r.bytes) None sent),
  record { session = subst (λ (h : List Timed). SessionStands file h t.session) (sym (session_sent r before sent)) stands; rules_kept = rules },
)

-- a switch of which no record came
pub fresh : (s : Switch) → ((file : List ℕ) → SessionStands file [] s.session) → s.rules ≡ None → IsFresh s
fresh s session none = λ rules file number. record { session = session file; rules_kept = rw none tt }

-- ---- one record, by its kind

pub up_takes : (policy : PolicyView) (file : List ℕ) (r : Told) (before : List Told) (t : Switch) → r.kind ≡ switch_up → SessionStands file (timed_at r.moment SwitchUp ∷ []) t.session → AreRulesOf policy.rules t.rules → Takes policy file r before (Ok None) t
up_takes policy file r before t is stands rules = told_takes policy file r before t (rw is refl) (rw is stands) rules

pub bytes_takes : (policy : PolicyView) (file : List ℕ) (r : Told) (before : List Told) (t : Switch) → r.kind ≡ switch_bytes → SessionStands file (timed_at r.moment (SwitchMsg r.bytes) ∷ session_of r.switch before) t.session → AreRulesOf policy.rules t.rules
    → Takes policy file r before (Ok None) t
bytes_takes policy file r before t is stands rules = told_takes policy file r before t (rw is refl) (rw is stands) rules

pub down_takes : (policy : PolicyView) (file : List ℕ) (r : Told) (before : List Told) (t : Switch) → (r.kind ≡ switch_up → ⊥) → (r.kind ≡ switch_bytes → ⊥) → (r.kind ≡ sent_bytes → ⊥)
    → SessionStands file (timed_at r.moment SwitchDown ∷ session_of r.switch before) t.session → AreRulesOf policy.rules t.rules → Takes policy file r before (Ok None) t
down_takes policy file r before t no_up no_bytes no_sent stands rules =
    told_takes policy file r before t (ne_eqb r.kind sent_bytes no_sent) (rw (ne_eqb r.kind switch_up no_up, ne_eqb r.kind switch_bytes no_bytes) stands) rules

-- ---- among all switches

-- what holds of the other elements and of a new one holds after one was replaced
set_get : {X : Type 0} (P : ℕ → X → Type 0) (xs : List X) (at : ℕ) (x : X) → ((other : ℕ) (y : X) → (at == other) ≡ false → slice_get xs other ≡ Some y → P other y) → P at x
    → (other : ℕ) (y : X) → slice_get (set xs at x) other ≡ Some y → P other y
set_get P [] at x others own other y is = absurd (none-some y is)
set_get P (z ∷ zs) zero x others own zero y is = subst (P 0) (same_Some x y is) own
set_get P (z ∷ zs) zero x others own (suc other) y is = others (suc other) y (eqb-zero-suc other) is
set_get P (z ∷ zs) (suc at) x others own zero y is = others 0 y (eqb-suc-zero at) is
set_get P (z ∷ zs) (suc at) x others own (suc other) y is = set_get (λ n. P (suc n)) zs at x (λ k w unlike g. others (suc k) w (eqb-suc-suc at k ∙ unlike) g) own other y is

pub takes_among : (policy : PolicyView) (file : List ℕ) (r : Told) (before : List Told) (result : Result (Option Why) AllocError) (switches : List Switch) (new : Switch) → SwitchesStand policy.rules file before switches → Takes policy file r before result new
    → TakesAmong policy file r before result (set switches r.switch new)
takes_among policy file r before (Err fault) switches new stand takes = tt
takes_among policy file r before (Ok w) switches new stand takes = (
  takes.0,
  record {
    count = length-set switches r.switch new ∙ stand.count;
    each =
        set_get (λ (number : ℕ) (s : Switch). SwitchStands policy.rules file number (r ∷ before) s) switches r.switch new
        (λ other s unlike there.
        let own = stand.each other s there in
        record { session = subst (λ (h : List Timed). SessionStands file h s.session) (sym (session_away other r before unlike)) own.session; rules_kept = own.rules_kept })
        takes.1;
  },
)

-- ---- switches that are made one by one

each_pushed : {X : Type 0} (P : X → Type 0) (xs : List X) (x : X) → ((number : ℕ) (s : X) → slice_get xs number ≡ Some s → P s) → P x → (number : ℕ) (s : X) → slice_get (xs ++ x ∷ []) number ≡ Some s → P s
each_pushed P [] x others own zero s is = subst P (same_Some x s is) own
each_pushed P [] x others own (suc number) s is = absurd (none-some s is)
each_pushed P (z ∷ zs) x others own zero s is = others 0 s is
each_pushed P (z ∷ zs) x others own (suc number) s is = each_pushed P zs x (λ n y there. others (suc n) y there) own number s is

pub pushed : {X : Type 0} (P : X → Type 0) (xs : List X) (x : X) (most : ℕ) → length xs + 1 ≤ most → ((number : ℕ) (s : X) → slice_get xs number ≡ Some s → P s) → P x
    → (length (xs ++ x ∷ []) ≤ most) × ((number : ℕ) (s : X) → slice_get (xs ++ x ∷ []) number ≡ Some s → P s)
pushed P xs x most few others own = (let long = length-append xs (x ∷ []) in omega (arith, few, long), each_pushed P xs x others own)
