-- What is found, in words of the calls.
use Rattle.std.proofs.Common.{◌≡◌, ◌≢◌, ℕ, ◌+◌, ◌/◌, ◌%◌, ◌<◌, ◌↔◌, ◌||◌, if◌then◌else◌, Bool, true, false, IsTrue, List, [], ◌∷◌, ◌++◌, zero, suc, length, take, map, Contains, refl, ap, sym, subst, ◌∙◌, inl, inr, arith, add-one}
use Rattle.std.specs.Prelude.{◌==◌, find, slice_get, Some}
use Rattle.std.proofs.lemmas.Bool.{cases_Bool, eqb-true}
use Rattle.std.proofs.lemmas.List.Elements.{Contains-append_right}
use Rattle.std.proofs.lemmas.Bool.Decides.{eqb_tells, same_from_decides}
use Rattle.std.proofs.lemmas.List.{length-map}
use Rattle.std.proofs.lemmas.Option.{slice_get_within}
use Rattle.xid_map.specs.declared.asked.Asked.{Asked}
use Rattle.xid_map.specs.declared.asked.Issued.{Issued}
use Rattle.xid_map.specs.Requests.{RequestCall, Issue, MarkError, MarkDone, Forget, issued, with_mark, with_error, with_reply, requests, remembered, physical_of, found}
use Rattle.xid_map.specs.Laws.{IsFoundRequest}
use Rattle.xid_map.proofs.Numbering.{behind, found-get, found-elsewhere}

-- ---- calls among calls

pub contains_rest : (call : RequestCall) (later : List RequestCall) (sought : RequestCall) → call ≢ sought → Contains (call ∷ later) sought → Contains later sought
contains_rest call later sought apart (zero, lt, e) = absurd (apart e)
contains_rest call later sought apart (suc k, lt, e) = (k, omega (arith, lt), e)

-- a call that isn't the one that is sought leaves whether that is there
pub told_more : (b : Bool) (call : RequestCall) (later : List RequestCall) (sought : RequestCall) → call ≢ sought → IsTrue b ↔ Contains later sought
    → IsTrue b ↔ Contains (call ∷ later) sought
told_more b call later sought apart h = (λ e. Contains-append_right (call ∷ []) later sought (h.0 e), λ c. h.1 (contains_rest call later sought apart c))

pub told_here : (call : RequestCall) (later : List RequestCall) → IsTrue true ↔ Contains (call ∷ later) call
told_here call later = (λ e. (zero, omega arith, refl), λ c. refl)

-- a mark is of the request of its number
told_marked : (mark : ℕ → RequestCall) (number other : ℕ) (later : List RequestCall) (b : Bool) → (mark other ≡ mark number → number ≡ other) → IsTrue b ↔ Contains later (mark number)
    → IsTrue (number == other || b) ↔ Contains (mark other ∷ later) (mark number)
told_marked mark number other later b same h = elim (eqb_tells number other) [
  | inl this ↦ rw this.0 (subst (λ n. IsTrue true ↔ Contains (mark n ∷ later) (mark number)) this.1 (told_here (mark number) later))
  | inr apart ↦ rw apart.0 (told_more b (mark other) later (mark number) (λ e. apart.1 (same e)) h)
]

pub told_none : (sought : RequestCall) → IsTrue false ↔ Contains [] sought
told_none sought = (λ e. cc, λ c. absurd (omega (arith, c.1)))

pub issued-append : (later earlier : List RequestCall) → issued (later ++ earlier) ≡ issued later + issued earlier
issued-append [] earlier = omega arith
issued-append (Issue asked ∷ later) earlier = omega (arith, issued-append later earlier)
issued-append (MarkError number ∷ later) earlier = issued-append later earlier
issued-append (MarkDone number ∷ later) earlier = issued-append later earlier
issued-append (Forget ∷ later) earlier = issued-append later earlier

-- ---- where a request stands

-- the calls before and after the one that issued the request at a place
record IssuedAt (calls : List RequestCall) (place : ℕ) : Type 0 where
  later : List RequestCall
  asked : Asked
  earlier : List RequestCall
  split : calls ≡ later ++ (Issue asked ∷ earlier)
  not_forgotten : Contains later Forget → ⊥
  behind_others : issued later ≡ place

one_more : (call : RequestCall) (calls : List RequestCall) (place next : ℕ) → call ≢ Forget → ((later : List RequestCall) → issued later ≡ place → issued (call ∷ later) ≡ next)
    → IssuedAt calls place → IssuedAt (call ∷ calls) next
one_more call calls place next other counts h = record {
  later = call ∷ h.later;
  asked = h.asked;
  earlier = h.earlier;
  split = ap (λ rest. call ∷ rest) h.split;
  not_forgotten = λ c. h.not_forgotten (contains_rest call h.later Forget other c);
  behind_others = counts h.later h.behind_others;
}

issued_at : (calls : List RequestCall) (place : ℕ) → place < length (requests calls) → IssuedAt calls place
unfolding requests
issued_at [] place within = absurd (omega arith)
issued_at (Issue asked ∷ earlier) zero within = record {
  later = [];
  asked = asked;
  earlier = earlier;
  split = refl;
  not_forgotten = λ c. omega (arith, c.1);
  behind_others = refl;
}
issued_at (Issue asked ∷ earlier) (suc place) within =
    one_more (Issue asked) earlier place (suc place) (λ e. cc) (λ later e. omega (arith, e)) (issued_at earlier place (omega arith))
issued_at (MarkError number ∷ earlier) place within =
    one_more (MarkError number) earlier place place (λ e. cc) (λ later e. e) (issued_at earlier place (rw (length-map (requests earlier) (with_mark with_error number)) at within))
issued_at (MarkDone number ∷ earlier) place within =
    one_more (MarkDone number) earlier place place (λ e. cc) (λ later e. e) (issued_at earlier place (rw (length-map (requests earlier) (with_mark with_reply number)) at within))
issued_at (Forget ∷ earlier) place within = absurd (omega arith)

get_map : (f : Issued → Issued) (xs : List Issued) (place : ℕ) (x : Issued) → slice_get xs place ≡ Some x → slice_get (map f xs) place ≡ Some (f x)
get_map f [] place x e = cc
get_map f (y ∷ ys) zero x e = let same : y ≡ x = cc in rw same refl
get_map f (y ∷ ys) (suc place) x e = get_map f ys place x e

get_behind : (x : Issued) (xs : List Issued) (place : ℕ) (found : Issued) → slice_get xs place ≡ Some found → slice_get (x ∷ xs) (place + 1) ≡ Some found
get_behind x xs place found e = rw (add-one place) e

error_set : (b : Bool) (request : Issued) → (if b then with_error request else request) ≡ record request { failed = b || request.failed }
error_set true request = refl
error_set false request = refl

reply_set : (b : Bool) (request : Issued) → (if b then with_reply request else request) ≡ record request { done = b || request.done }
reply_set true request = refl
reply_set false request = refl

-- the request that stands there, with what the calls since say of it
record Standing (later : List RequestCall) (asked : Asked) (earlier : List RequestCall) : Type 0 where
  request : Issued
  here : slice_get (requests (later ++ (Issue asked ∷ earlier))) (issued later) ≡ Some request
  same_number : request.number ≡ issued earlier
  same_asked : request.asked ≡ asked
  failed : IsTrue request.failed ↔ Contains later (MarkError request.number)
  done : IsTrue request.done ↔ Contains later (MarkDone request.number)

standing : (later : List RequestCall) (asked : Asked) (earlier : List RequestCall) → (Contains later Forget → ⊥) → Standing later asked earlier
unfolding requests
standing [] asked earlier kept = record {
  request = record { number = issued earlier; asked = asked; failed = false; done = false };
  here = refl;
  same_number = refl;
  same_asked = refl;
  failed = told_none (MarkError (issued earlier));
  done = told_none (MarkDone (issued earlier));
}
standing (Issue other ∷ later) asked earlier kept =
    let h = standing later asked earlier (λ c. kept (Contains-append_right (Issue other ∷ []) later Forget c)) in
    record {
      request = h.request;
      here = get_behind _ (requests (later ++ (Issue asked ∷ earlier))) (issued later) h.request h.here;
      same_number = h.same_number;
      same_asked = h.same_asked;
      failed = told_more h.request.failed (Issue other) later (MarkError h.request.number) (λ e. cc) h.failed;
      done = told_more h.request.done (Issue other) later (MarkDone h.request.number) (λ e. cc) h.done;
    }
standing (MarkError number ∷ later) asked earlier kept =
    let h = standing later asked earlier (λ c. kept (Contains-append_right (MarkError number ∷ []) later Forget c)) in
    record {
      request = record h.request { failed = h.request.number == number || h.request.failed };
      here = get_map (with_mark with_error number) _ (issued later) h.request h.here ∙ ap (λ r. Some r) (error_set (h.request.number == number) h.request);
      same_number = h.same_number;
      same_asked = h.same_asked;
      failed = told_marked MarkError h.request.number number later h.request.failed (λ e. cc) h.failed;
      done = told_more h.request.done (MarkError number) later (MarkDone h.request.number) (λ e. cc) h.done;
    }
standing (MarkDone number ∷ later) asked earlier kept =
    let h = standing later asked earlier (λ c. kept (Contains-append_right (MarkDone number ∷ []) later Forget c)) in
    record {
      request = record h.request { done = h.request.number == number || h.request.done };
      here = get_map (with_mark with_reply number) _ (issued later) h.request h.here ∙ ap (λ r. Some r) (reply_set (h.request.number == number) h.request);
      same_number = h.same_number;
      same_asked = h.same_asked;
      failed = told_more h.request.failed (MarkDone number) later (MarkError h.request.number) (λ e. cc) h.failed;
      done = told_marked MarkDone h.request.number number later h.request.done (λ e. cc) h.done;
    }
standing (Forget ∷ later) asked earlier kept = absurd (kept (zero, omega arith, refl))

-- ---- what is found

get_take : (n : ℕ) (xs : List Issued) (place : ℕ) (x : Issued) → slice_get (take n xs) place ≡ Some x → (place < n) × (slice_get xs place ≡ Some x)
get_take zero xs place x e = cc
get_take (suc n) [] place x e = cc
get_take (suc n) (y ∷ ys) zero x e = (omega arith, e)
get_take (suc n) (y ∷ ys) (suc place) x e = let rest = get_take n ys place x e in (omega (arith, rest.0), rest.1)

take_get : (n : ℕ) (xs : List Issued) (place : ℕ) (x : Issued) → place < n → slice_get xs place ≡ Some x → slice_get (take n xs) place ≡ Some x
take_get zero xs place x within e = absurd (omega arith)
take_get (suc n) [] place x within e = e
take_get (suc n) (y ∷ ys) zero x within e = e
take_get (suc n) (y ∷ ys) (suc place) x within e = take_get n ys place x (omega arith) e

-- what is found passes the test
pub find_passes : {X : Type 0} (test : X → Bool) (xs : List X) (x : X) → find test xs ≡ Some x → test x ≡ true
find_passes test [] x e = cc
find_passes test (y ∷ ys) x e = elim (cases_Bool (test y)) [
  | inl passes ↦ let is : Some y ≡ Some x = rw passes at e in let same : y ≡ x = cc in subst (λ z. test z ≡ true) same passes
  | inr fails ↦ find_passes test ys x (rw fails at e)
]

-- the request at a place, in words of the calls
found_there : (slot physical place : ℕ) (calls : List RequestCall) (request : Issued) → slice_get (requests calls) place ≡ Some request → place < 4096
    → physical_of slot request.number ≡ physical → IsFoundRequest slot physical calls request
found_there slot physical place calls request at recent seen =
    let w = issued_at calls place (slice_get_within (requests calls) place request at) in
    let s = standing w.later w.asked w.earlier w.not_forgotten in
    let there : slice_get (requests calls) place ≡ Some s.request =
    subst (λ l. slice_get (requests l) place ≡ Some s.request) (sym w.split) (subst (λ k. slice_get (requests (w.later ++ (Issue w.asked ∷ w.earlier))) k ≡ Some s.request) w.behind_others s.here) in
    let both : Some s.request ≡ Some request = sym there ∙ at in
    let same : s.request ≡ request = cc in
    subst (IsFoundRequest slot physical calls) same (record {
      later = w.later;
      earlier = w.earlier;
      split = w.split ∙ ap (λ asked. w.later ++ (Issue asked ∷ w.earlier)) (sym s.same_asked);
      numbered = s.same_number;
      seen = ap (λ r. physical_of slot r.number) same ∙ seen;
      not_forgotten = w.not_forgotten;
      recent = omega (arith, recent, w.behind_others);
      failed = s.failed;
      done = s.done;
    })

pub IsFound-found : (slot physical : ℕ) (calls : List RequestCall) (request : Issued) → found slot physical calls ≡ Some request → IsFoundRequest slot physical calls request
unfolding found remembered
IsFound-found slot physical calls request e = elim (eqb_tells (physical / 16777216) slot) [
  | inr elsewhere ↦ let none = found-elsewhere slot physical calls elsewhere.1 in cc
  | inl here ↦
      let at = get_take 4096 (requests calls) (behind (issued calls) (physical % 16777216)) request (sym (found-get slot physical calls here.1) ∙ e) in
      found_there slot physical (behind (issued calls) (physical % 16777216)) calls request at.1 at.0
      (eqb-true _ _ (find_passes (λ r. physical_of slot r.number == physical) (remembered calls) request e))
]

behind_later : (earlier later : ℕ) → later < 4096 → behind (later + (earlier + 1)) (earlier % 16777216) ≡ later
behind_later earlier later recent = omega arith

pub same_request : (a b : Issued) → a.number ≡ b.number → a.asked ≡ b.asked → a.failed ≡ b.failed → a.done ≡ b.done → a ≡ b
same_request a b number asked failed done = rw (number, asked, failed, done) refl

pub found-IsFound : (slot physical : ℕ) (calls : List RequestCall) (request : Issued) → IsFoundRequest slot physical calls request → found slot physical calls ≡ Some request
unfolding remembered
found-IsFound slot physical calls request h =
    let s = standing h.later request.asked h.earlier h.not_forgotten in
    let number : s.request.number ≡ request.number = s.same_number ∙ sym h.numbered in
    let same : s.request ≡ request = same_request s.request request number s.same_asked
    (same_from_decides s.request.failed request.failed (subst (λ n. IsTrue s.request.failed ↔ Contains h.later (MarkError n)) number s.failed) h.failed)
    (same_from_decides s.request.done request.done (subst (λ n. IsTrue s.request.done ↔ Contains h.later (MarkDone n)) number s.done) h.done) in
    let low : physical % 16777216 ≡ issued h.earlier % 16777216 = omega (arith, h.seen, h.numbered) in
    let count : issued calls ≡ issued h.later + (issued h.earlier + 1) = ap issued h.split ∙ issued-append h.later (Issue request.asked ∷ h.earlier) in
    let place : behind (issued calls) (physical % 16777216) ≡ issued h.later = rw (count, low) (behind_later (issued h.earlier) (issued h.later) h.recent) in
    let there : slice_get (requests calls) (issued h.later) ≡ Some request = subst (λ l. slice_get (requests l) (issued h.later) ≡ Some request) (sym h.split) (s.here ∙ ap (λ r. Some r) same) in
    found-get slot physical calls (omega (arith, h.seen, h.numbered))
    ∙ rw place (take_get 4096 (requests calls) (issued h.later) request h.recent there)
