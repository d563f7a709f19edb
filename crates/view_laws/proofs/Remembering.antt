-- Which request is remembered, in words of the view.
use Rattle.std.proofs.Common.{◌≡◌, ◌≢◌, ℕ, ◌+◌, ◌*◌, ◌%◌, ◌≤◌, ◌&&◌, ◌||◌, Bool, true, false, if◌then◌else◌, List, [], ◌∷◌, ◌++◌, zero, length, Contains, refl, sym, ap, subst, ◌∙◌, true≢false, inl, inr, arith, Option, Some, None}
use Rattle.std.specs.Prelude.{◌==◌}
use Rattle.std.specs.List.{list_any}
use Rattle.std.proofs.lemmas.Bool.{cases_Bool, or_parts}
use Rattle.std.proofs.lemmas.Bool.Decides.{eqb_tells}
use Rattle.std.proofs.lemmas.List.Elements.{Contains-append_right}
use Rattle.xid_map.specs.declared.asked.Asked.{Asked}
use Rattle.xid_map.specs.declared.asked.Issued.{Issued}
use Rattle.xid_map.specs.Requests.{RequestCall, Issue, MarkError, MarkDone, Forget, issued, physical_of, found}
use Rattle.xid_map.specs.Laws.{IsFoundRequest}
use Rattle.xid_map.proofs.Finding.{IsFound-found, found-IsFound, contains_rest, told_more, told_here, told_none, issued-append, same_request}
use Rattle.slice_words.specs.Messages.{is_dismissing, asked_of}
use Rattle.slice_words.specs.Items.{Settings, message_read, Item, Opened, Up, Down, Msg, Lost, Handed, Removed, Status, Fault, Barrier, Queues, Entry, Last, End, is_forgetting}
use Rattle.slice_words.specs.Pasts.{Answer, is_any}
use Rattle.slice_words.specs.Calls.{error_marks, reply_marks}
use Rattle.slice_words.specs.Alone.{answer_to}
use Rattle.view_laws.specs.Requests.{is_request, requests_in, next_number, remembered_for, is_fault_for, is_reply_for, is_replied, IsRemembered}
use Rattle.view_laws.proofs.Making.{made_over, all-one, made_by}
use Rattle.view_laws.proofs.Requesting.{requests_after, requests_given, requests_made, issued-requests, issue_from, issue_of, forget_from}

-- ---- calls among calls

count_behind : (calls later : List RequestCall) (asked : Asked) (earlier : List RequestCall) → calls ≡ later ++ (Issue asked ∷ earlier) → issued calls ≡ issued later + (issued earlier + 1)
count_behind calls later asked earlier split = ap issued split ∙ issued-append later (Issue asked ∷ earlier)

-- ---- a call more

-- another request comes, and the one that is found is still among the last
issued_more : (slot physical : ℕ) (calls : List RequestCall) (asked : Asked) (r : Issued) → issued calls + 1 ≤ r.number + 4096 → IsFoundRequest slot physical calls r → IsFoundRequest slot physical (Issue asked ∷ calls) r
issued_more slot physical calls asked r within h = record {
  later = Issue asked ∷ h.later;
  earlier = h.earlier;
  split = ap (λ (rest : List RequestCall). Issue asked ∷ rest) h.split;
  numbered = h.numbered;
  seen = h.seen;
  not_forgotten = λ c. h.not_forgotten (contains_rest (Issue asked) h.later Forget (λ e. cc) c);
  recent = omega (arith, within, h.numbered, count_behind calls h.later r.asked h.earlier h.split);
  failed = told_more r.failed (Issue asked) h.later (MarkError r.number) (λ e. cc) h.failed;
  done = told_more r.done (Issue asked) h.later (MarkDone r.number) (λ e. cc) h.done;
}

-- an error comes for another request
marked_other : (slot physical : ℕ) (calls : List RequestCall) (number : ℕ) (r : Issued) → number ≢ r.number → IsFoundRequest slot physical calls r → IsFoundRequest slot physical (MarkError number ∷ calls) r
marked_other slot physical calls number r other h = record {
  later = MarkError number ∷ h.later;
  earlier = h.earlier;
  split = ap (λ (rest : List RequestCall). MarkError number ∷ rest) h.split;
  numbered = h.numbered;
  seen = h.seen;
  not_forgotten = λ c. h.not_forgotten (contains_rest (MarkError number) h.later Forget (λ e. cc) c);
  recent = h.recent;
  failed = told_more r.failed (MarkError number) h.later (MarkError r.number) (λ e. other (cc)) h.failed;
  done = told_more r.done (MarkError number) h.later (MarkDone r.number) (λ e. cc) h.done;
}

-- and for this one
marked_itself : (slot physical : ℕ) (calls : List RequestCall) (r : Issued) → IsFoundRequest slot physical calls r → IsFoundRequest slot physical (MarkError r.number ∷ calls) (record r { failed = true })
marked_itself slot physical calls r h = record {
  later = MarkError r.number ∷ h.later;
  earlier = h.earlier;
  split = ap (λ (rest : List RequestCall). MarkError r.number ∷ rest) h.split;
  numbered = h.numbered;
  seen = h.seen;
  not_forgotten = λ c. h.not_forgotten (contains_rest (MarkError r.number) h.later Forget (λ e. cc) c);
  recent = h.recent;
  failed = told_here (MarkError r.number) h.later;
  done = told_more r.done (MarkError r.number) h.later (MarkDone r.number) (λ e. cc) h.done;
}

-- a reply comes for another request
done_other : (slot physical : ℕ) (calls : List RequestCall) (number : ℕ) (r : Issued) → number ≢ r.number → IsFoundRequest slot physical calls r → IsFoundRequest slot physical (MarkDone number ∷ calls) r
done_other slot physical calls number r other h = record {
  later = MarkDone number ∷ h.later;
  earlier = h.earlier;
  split = ap (λ (rest : List RequestCall). MarkDone number ∷ rest) h.split;
  numbered = h.numbered;
  seen = h.seen;
  not_forgotten = λ c. h.not_forgotten (contains_rest (MarkDone number) h.later Forget (λ e. cc) c);
  recent = h.recent;
  failed = told_more r.failed (MarkDone number) h.later (MarkError r.number) (λ e. cc) h.failed;
  done = told_more r.done (MarkDone number) h.later (MarkDone r.number) (λ e. other (cc)) h.done;
}

-- and for this one
done_itself : (slot physical : ℕ) (calls : List RequestCall) (r : Issued) → IsFoundRequest slot physical calls r → IsFoundRequest slot physical (MarkDone r.number ∷ calls) (record r { done = true })
done_itself slot physical calls r h = record {
  later = MarkDone r.number ∷ h.later;
  earlier = h.earlier;
  split = ap (λ (rest : List RequestCall). MarkDone r.number ∷ rest) h.split;
  numbered = h.numbered;
  seen = h.seen;
  not_forgotten = λ c. h.not_forgotten (contains_rest (MarkDone r.number) h.later Forget (λ e. cc) c);
  recent = h.recent;
  failed = told_more r.failed (MarkDone r.number) h.later (MarkError r.number) (λ e. cc) h.failed;
  done = told_here (MarkDone r.number) h.later;
}

-- ---- an item more

same_low : (slot number x : ℕ) → physical_of slot number ≡ physical_of slot x → number % 16777216 ≡ x % 16777216
same_low slot number x e = omega (arith, e)

low_same : (slot number x : ℕ) → number % 16777216 ≡ x % 16777216 → physical_of slot number ≡ physical_of slot x
low_same slot number x e = ap (λ (low : ℕ). slot * 16777216 + low) e

-- a message that ends no connection
message_more : (slot physical : ℕ) (calls : List RequestCall) (dismissing puts : Bool) (asked : Asked) (r : Issued) → dismissing ≡ false
    → issued ((if dismissing then Forget ∷ [] else if puts then Issue asked ∷ [] else []) ++ calls) ≤ r.number + 4096 → IsFoundRequest slot physical calls r
    → IsFoundRequest slot physical ((if dismissing then Forget ∷ [] else if puts then Issue asked ∷ [] else []) ++ calls) r
message_more slot physical calls true puts asked r goes_on within h = absurd (true≢false goes_on)
message_more slot physical calls false true asked r goes_on within h = issued_more slot physical calls asked r within h
message_more slot physical calls false false asked r goes_on within h = h

-- an error under other bits is for another request, or for none
error_other : (slot x y : ℕ) (calls : List RequestCall) (found_one : Option Issued) (r : Issued) → found slot (physical_of slot y) calls ≡ found_one → (y % 16777216 ≢ x % 16777216)
    → IsFoundRequest slot (physical_of slot x) calls r → IsFoundRequest slot (physical_of slot x) (error_marks found_one ++ calls) r
error_other slot x y calls None r is apart h = h
error_other slot x y calls (Some other) r is apart h =
    let there = IsFound-found slot (physical_of slot y) calls other is in
    marked_other slot (physical_of slot x) calls other.number r
    (λ same. apart (sym (same_low slot other.number y there.seen) ∙ ap (λ (n : ℕ). n % 16777216) same ∙ same_low slot r.number x h.seen)) h

error_itself : (slot x : ℕ) (calls : List RequestCall) (found_one : Option Issued) (r : Issued) → found_one ≡ Some r → IsFoundRequest slot (physical_of slot x) calls r
    → IsFoundRequest slot (physical_of slot x) (error_marks found_one ++ calls) (record r { failed = true })
error_itself slot x calls None r is h = cc
error_itself slot x calls (Some other) r is h =
    let same : other ≡ r = cc in
    subst (λ (o : Issued). IsFoundRequest slot (physical_of slot x) (MarkError o.number ∷ calls) (record r { failed = true })) (sym same) (marked_itself slot (physical_of slot x) calls r h)

-- the request as it is after an error, if it was for it
abbrev with_fault : Bool → Issued → Issued
with_fault now r = record r { failed = now || r.failed }

error_more : (slot x y : ℕ) (calls : List RequestCall) (r : Issued) → IsFoundRequest slot (physical_of slot x) calls r
    → IsFoundRequest slot (physical_of slot x) (error_marks (found slot (physical_of slot y) calls) ++ calls) (with_fault (y % 16777216 == x % 16777216) r)
error_more slot x y calls r h = elim (eqb_tells (y % 16777216) (x % 16777216)) [
  | inl this ↦
      let there : found slot (physical_of slot y) calls ≡ Some r = ap (λ (physical : ℕ). found slot physical calls) (low_same slot y x this.1) ∙ found-IsFound slot (physical_of slot x) calls r h in
      rw this.0 (error_itself slot x calls (found slot (physical_of slot y) calls) r there h)
  | inr other ↦ rw other.0 (error_other slot x y calls (found slot (physical_of slot y) calls) r refl other.1 h)
]

-- ---- a reply more

-- so it is with a reply that the slice is sent
reply_other : (slot x y : ℕ) (calls : List RequestCall) (a : Answer) (told : Bool) (found_one : Option Issued) (r : Issued) → is_any a.to_slice ≡ told → found slot (physical_of slot y) calls ≡ found_one → (y % 16777216 ≢ x % 16777216)
    → IsFoundRequest slot (physical_of slot x) calls r → IsFoundRequest slot (physical_of slot x) (reply_marks a found_one ++ calls) r
reply_other slot x y calls a told None r any is apart h = h
reply_other slot x y calls a false (Some other) r any is apart h = rw any h
reply_other slot x y calls a true (Some other) r any is apart h =
    let there = IsFound-found slot (physical_of slot y) calls other is in
    rw any (done_other slot (physical_of slot x) calls other.number r
    (λ same. apart (sym (same_low slot other.number y there.seen) ∙ ap (λ (n : ℕ). n % 16777216) same ∙ same_low slot r.number x h.seen)) h)

-- the request as it is after a reply, if it was for it
abbrev with_reply : Bool → Issued → Issued
with_reply now r = record r { done = now || r.done }

reply_itself : (slot x : ℕ) (calls : List RequestCall) (a : Answer) (told : Bool) (found_one : Option Issued) (r : Issued) → is_any a.to_slice ≡ told → found_one ≡ Some r → IsFoundRequest slot (physical_of slot x) calls r
    → IsFoundRequest slot (physical_of slot x) (reply_marks a found_one ++ calls) (with_reply told r)
reply_itself slot x calls a told None r any is h = cc
reply_itself slot x calls a false (Some other) r any is h = rw any h
reply_itself slot x calls a true (Some other) r any is h =
    let same : other ≡ r = cc in
    rw any (subst (λ (o : Issued). IsFoundRequest slot (physical_of slot x) (MarkDone o.number ∷ calls) (record r { done = true })) (sym same) (done_itself slot (physical_of slot x) calls r h))

reply_more : (slot x y : ℕ) (calls : List RequestCall) (a : Answer) (r : Issued) → IsFoundRequest slot (physical_of slot x) calls r
    → IsFoundRequest slot (physical_of slot x) (reply_marks a (found slot (physical_of slot y) calls) ++ calls) (with_reply (y % 16777216 == x % 16777216 && is_any a.to_slice) r)
reply_more slot x y calls a r h = elim (eqb_tells (y % 16777216) (x % 16777216)) [
  | inl this ↦
      let there : found slot (physical_of slot y) calls ≡ Some r = ap (λ (physical : ℕ). found slot physical calls) (low_same slot y x this.1) ∙ found-IsFound slot (physical_of slot x) calls r h in
      rw this.0 (reply_itself slot x calls a (is_any a.to_slice) (found slot (physical_of slot y) calls) r refl there h)
  | inr other ↦ rw other.0 (reply_other slot x y calls a (is_any a.to_slice) (found slot (physical_of slot y) calls) r refl refl other.1 h)
]

-- the request as it is after an item
abbrev with_item : Settings → ℕ → List Item → Item → Issued → Issued
with_item s x view item r = record r { failed = is_fault_for x item || r.failed; done = is_reply_for s x view item || r.done }

item_more : (s : Settings) (x : ℕ) (item : Item) (view : List Item) (r : Issued) → is_forgetting item ≡ false → issued (requests_after s (item ∷ view)) ≤ r.number + 4096
    → IsFoundRequest s.slot (physical_of s.slot x) (requests_after s view) r → IsFoundRequest s.slot (physical_of s.slot x) (requests_after s (item ∷ view)) (with_item s x view item r)
item_more s x Up view r goes_on within h = absurd (true≢false goes_on)
item_more s x Down view r goes_on within h = absurd (true≢false goes_on)
item_more s x (Msg message moment) view r goes_on within h =
    message_more s.slot (physical_of s.slot x) (requests_after s view) (is_dismissing message) (is_any (answer_to s view (Msg message moment)).to_switch) (asked_of (message_read s message) message) r
    goes_on within h
item_more s x (Fault y class code pair) view r goes_on within h = error_more s.slot x y (requests_after s view) r h
item_more s x (Opened features) view r goes_on within h = h
item_more s x (Lost k) view r goes_on within h = h
item_more s x (Handed packet) view r goes_on within h = h
item_more s x (Removed entry) view r goes_on within h = h
item_more s x (Status status) view r goes_on within h = h
item_more s x (Barrier y) view r goes_on within h = reply_more s.slot x y (requests_after s view) (answer_to s view (Barrier y)) r h
item_more s x (Queues y body) view r goes_on within h = reply_more s.slot x y (requests_after s view) (answer_to s view (Queues y body)) r h
item_more s x (Entry y kind bytes) view r goes_on within h = h
item_more s x (Last y kind) view r goes_on within h = reply_more s.slot x y (requests_after s view) (answer_to s view (Last y kind)) r h
item_more s x End view r goes_on within h = h

-- ---- from the message that asked, to the end of the view

-- a request as it is after later items
abbrev as_asked : Settings → ℕ → List Item → List ℕ → ℕ → List Item → Issued
as_asked s x later message moment earlier = record {
  number = next_number s earlier;
  asked = asked_of (message_read s message) message;
  failed = list_any (is_fault_for x) later;
  done = is_replied s x later (Msg message moment ∷ earlier);
}

one_more : (counts : Bool) (item : Item) (items : List Item) → length items ≤ length (if counts then item ∷ items else items)
one_more true item items = omega arith
one_more false item items = omega arith

just_asked : (s : Settings) (x : ℕ) (message : List ℕ) (moment : ℕ) (earlier : List Item) → is_request s earlier (Msg message moment) ≡ true → next_number s earlier % 16777216 ≡ x % 16777216
    → IsFoundRequest s.slot (physical_of s.slot x) (requests_after s (Msg message moment ∷ earlier)) (as_asked s x [] message moment earlier)
just_asked s x message moment earlier asks low = record {
  later = [];
  earlier = requests_after s earlier;
  split = all-one RequestCall (requests_given s) (requests_after s) (requests_made s) (Msg message moment) earlier (Issue (asked_of (message_read s message) message)) (issue_of s earlier message moment asks);
  numbered = sym (issued-requests s earlier);
  seen = low_same s.slot (next_number s earlier) x low;
  not_forgotten = λ c. omega (arith, c.1);
  recent = omega arith;
  failed = told_none (MarkError (next_number s earlier));
  done = told_none (MarkDone (next_number s earlier));
}

found_through : (s : Settings) (x : ℕ) (later : List Item) (message : List ℕ) (moment : ℕ) (earlier : List Item) → is_request s earlier (Msg message moment) ≡ true
    → next_number s earlier % 16777216 ≡ x % 16777216 → list_any is_forgetting later ≡ false → next_number s (later ++ (Msg message moment ∷ earlier)) ≤ next_number s earlier + 4096
    → IsFoundRequest s.slot (physical_of s.slot x) (requests_after s (later ++ (Msg message moment ∷ earlier))) (as_asked s x later message moment earlier)
found_through s x [] message moment earlier asks low kept recent = just_asked s x message moment earlier asks low
found_through s x (item ∷ later) message moment earlier asks low kept recent =
    let view = later ++ (Msg message moment ∷ earlier) in
    let parts = or_parts (is_forgetting item) (list_any is_forgetting later) kept in
    item_more s x item view (as_asked s x later message moment earlier) parts.0 (omega (arith, recent, issued-requests s (item ∷ view)))
    (found_through s x later message moment earlier asks low parts.1 (omega (arith, recent, one_more (is_request s view item) item (requests_in s view))))

pub remembered-found : (s : Settings) (view : List Item) (x : ℕ) (request : Issued) → IsRemembered s view x request → remembered_for s view x ≡ Some request
remembered-found s view x request h =
    let low : next_number s h.earlier % 16777216 ≡ x % 16777216 = ap (λ (n : ℕ). n % 16777216) (sym h.numbered) ∙ h.low in
    let recent : next_number s (h.later ++ (Msg h.message h.moment ∷ h.earlier)) ≤ next_number s h.earlier + 4096 =
    subst (λ (v : List Item). next_number s v ≤ next_number s h.earlier + 4096) h.split (subst (λ (n : ℕ). next_number s view ≤ n + 4096) h.numbered h.recent) in
    let same : as_asked s x h.later h.message h.moment h.earlier ≡ request =
    same_request (as_asked s x h.later h.message h.moment h.earlier) request (sym h.numbered) (sym h.asked) (sym h.failed) (sym h.done) in
    subst (λ (v : List Item). remembered_for s v x ≡ Some request) (sym h.split)
    (found-IsFound s.slot (physical_of s.slot x) (requests_after s (h.later ++ (Msg h.message h.moment ∷ h.earlier))) (as_asked s x h.later h.message h.moment h.earlier)
    (found_through s x h.later h.message h.moment h.earlier h.asks low h.not_forgotten recent)
    ∙ ap (λ (r : Issued). Some r) same)

-- ---- from what is found to the message that asked

unforgotten : (s : Settings) (later base : List Item) → (Contains (made_over RequestCall (requests_given s) (requests_after s) (requests_made s) later base) Forget → ⊥) → list_any is_forgetting later ≡ false
unforgotten s [] base kept = refl
unforgotten s (item ∷ later) base kept = elim (cases_Bool (is_forgetting item)) [
  | inl forgets ↦
      absurd (kept (subst (λ (these : List RequestCall). Contains (these ++ made_over RequestCall (requests_given s) (requests_after s) (requests_made s) later base) Forget)
      (sym (forget_from s (later ++ base) item forgets)) (zero, omega arith, refl)))
  | inr goes_on ↦ rw goes_on (unforgotten s later base (λ c. kept (Contains-append_right (requests_given s (later ++ base) item) _ Forget c)))
]

found_same : (o : Option Issued) (a b : Issued) → o ≡ Some a → o ≡ Some b → a ≡ b
found_same o a b first second = (let both : Some a ≡ Some b = sym first ∙ second in cc)

-- the message that asked, and what was found, say all of the request
as_remembered : (s : Settings) (view : List Item) (x : ℕ) (request : Issued) (later : List Item) (message : List ℕ) (moment : ℕ) (earlier : List Item) → view ≡ later ++ (Msg message moment ∷ earlier)
    → is_request s earlier (Msg message moment) ≡ true → request.number ≡ next_number s earlier → request.number % 16777216 ≡ x % 16777216 → list_any is_forgetting later ≡ false
    → next_number s view ≤ request.number + 4096 → request.asked ≡ asked_of (message_read s message) message → remembered_for s view x ≡ Some request → IsRemembered s view x request
as_remembered s view x request later message moment earlier split asks numbered low kept recent asked is =
    let there = found_through s x later message moment earlier asks (ap (λ (n : ℕ). n % 16777216) (sym numbered) ∙ low) kept
    (subst (λ (v : List Item). next_number s v ≤ next_number s earlier + 4096) split (omega (arith, recent, numbered))) in
    let same : as_asked s x later message moment earlier ≡ request =
    found_same (remembered_for s (later ++ (Msg message moment ∷ earlier)) x) (as_asked s x later message moment earlier) request
    (found-IsFound s.slot (physical_of s.slot x) (requests_after s (later ++ (Msg message moment ∷ earlier))) (as_asked s x later message moment earlier) there)
    (subst (λ (v : List Item). remembered_for s v x ≡ Some request) split is) in
    record {
      later = later;
      message = message;
      moment = moment;
      earlier = earlier;
      split = split;
      asks = asks;
      numbered = numbered;
      low = low;
      not_forgotten = kept;
      recent = recent;
      asked = asked;
      failed = sym (ap (λ (r : Issued). r.failed) same);
      done = sym (ap (λ (r : Issued). r.done) same);
    }

pub found-remembered : (s : Settings) (view : List Item) (x : ℕ) (request : Issued) → remembered_for s view x ≡ Some request → IsRemembered s view x request
found-remembered s view x request is =
    let h = IsFound-found s.slot (physical_of s.slot x) (requests_after s view) request is in
    let m = made_by RequestCall (requests_given s) (requests_after s) (requests_made s) view h.later (Issue request.asked) h.earlier h.split in
    let w = issue_from s m.earlier m.item request.asked m.makes in
    let before : issued h.earlier ≡ next_number s m.earlier = ap issued m.before ∙ issued-requests s m.earlier in
    let count : next_number s view ≡ issued h.later + (issued h.earlier + 1) = sym (issued-requests s view) ∙ count_behind (requests_after s view) h.later request.asked h.earlier h.split in
    as_remembered s view x request m.later w.message w.moment m.earlier
    (m.split ∙ ap (λ (item : Item). m.later ++ (item ∷ m.earlier)) w.is_message)
    w.asks
    (h.numbered ∙ before)
    (same_low s.slot request.number x h.seen)
    (unforgotten s m.later (m.item ∷ m.earlier) (subst (λ (l : List RequestCall). Contains l Forget → ⊥) m.after h.not_forgotten))
    (omega (arith, count, h.numbered, h.recent))
    w.so_asked
    is
