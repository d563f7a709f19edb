-- Which items make requests, and how many there are.
use Rattle.std.proofs.Common.{◌≡◌, ◌⊎◌, ℕ, ◌+◌, Bool, true, false, if◌then◌else◌, List, [], ◌∷◌, ◌++◌, length, refl, sym, ap, subst, ◌∙◌, append_assoc, true≢false, inl, inr, arith, Option, Some, None, Ok, Err}
use Rattle.std.specs.Prelude.{slice_get, reverse}
use Rattle.std.proofs.lemmas.Bool.{cases_Bool}
use Rattle.std.proofs.lemmas.List.{reverse-append, length-reverse}
use Rattle.of10_message.specs.declared.fault.Unread.TheVariants.{BadLength, NoCommonVersion, BadVersion, BadType, BadForm}
use Rattle.xid_map.specs.declared.asked.Asked.{Asked}
use Rattle.xid_map.specs.declared.asked.Issued.{Issued}
use Rattle.xid_map.specs.Requests.{RequestCall, Issue, MarkError, MarkDone, Forget, issued}
use Rattle.slice_words.specs.Messages.{Reading, ends_connection, is_dismissing, asked_of}
use Rattle.slice_words.specs.Items.{Settings, message_read, Item, Opened, Up, Down, Msg, Lost, Handed, Removed, Status, Fault, Barrier, Queues, Entry, Last, End, is_up, is_forgetting}
use Rattle.slice_words.specs.Pasts.{Answer, Past, Outgoing, no_answer, is_any}
use Rattle.slice_words.specs.Calls.{request_for, error_marks, reply_marks, requests_by, request_calls}
use Rattle.slice_words.specs.Answers.{unread_answer, read_answer}
use Rattle.slice_words.specs.Alone.{answer_to}
use Rattle.slice_words.specs.Standing.{past_of}
use Rattle.slice_words.proofs.ReadAlike.{read_ends}
use Rattle.view_laws.specs.Requests.{is_request, requests_in, next_number}
use Rattle.view_laws.proofs.Making.{Making}

-- what the items of a view make of the requests
abbrev pub requests_after : Settings → List Item → List RequestCall
requests_after s view = request_calls s (past_of s view)

-- what one more item makes of them
abbrev pub requests_given : Settings → List Item → Item → List RequestCall
requests_given s view item = requests_by s (requests_after s view) item (answer_to s view item)

-- ---- a message that ends its connection puts nothing for the switch

unread_puts_nothing : (s : Settings) (view : List Item) (past : List Past) (moment : ℕ) (message : List ℕ) (found : Reading) → ends_connection found ≡ true
    → (elim found as (λ x. Answer) [ Err fault ↦ unread_answer fault message | Ok asked ↦ read_answer s view past moment asked message ]).to_switch ≡ []
unread_puts_nothing s view past moment message (Ok asked) ends_ = absurd (true≢false (sym ends_))
unread_puts_nothing s view past moment message (Err BadLength) ends_ = refl
unread_puts_nothing s view past moment message (Err NoCommonVersion) ends_ = refl
unread_puts_nothing s view past moment message (Err BadVersion) ends_ = absurd (true≢false (sym ends_))
unread_puts_nothing s view past moment message (Err BadType) ends_ = absurd (true≢false (sym ends_))
unread_puts_nothing s view past moment message (Err (BadForm fault)) ends_ = absurd (true≢false (sym ends_))

while_up : (up : Bool) (a : Answer) → a.to_switch ≡ [] → (if up then a else no_answer).to_switch ≡ []
while_up true a nothing = nothing
while_up false a nothing = refl

dismissing_puts_nothing : (s : Settings) (view : List Item) (message : List ℕ) (moment : ℕ) → is_dismissing message ≡ true → (answer_to s view (Msg message moment)).to_switch ≡ []
dismissing_puts_nothing s view message moment ends_ = while_up (is_up view) _ (unread_puts_nothing s view (past_of s view) moment message (message_read s message) (read_ends s message ∙ ends_))

nothing_any : (sent : List Outgoing) → sent ≡ [] → is_any sent ≡ false
nothing_any sent nothing = ap is_any nothing

pub dismissing_asks_nothing : (s : Settings) (view : List Item) (message : List ℕ) (moment : ℕ) → is_dismissing message ≡ true → is_request s view (Msg message moment) ≡ false
dismissing_asks_nothing s view message moment ends_ = nothing_any (answer_to s view (Msg message moment)).to_switch (dismissing_puts_nothing s view message moment ends_)

-- nor does an item that isn't a message
pub others_put_nothing : (s : Settings) (view : List Item) (item : Item) → ((message : List ℕ) (moment : ℕ) → item ≡ Msg message moment → ⊥) → (answer_to s view item).to_switch ≡ []
others_put_nothing s view Up other = refl
others_put_nothing s view (Msg message moment) other = absurd (other message moment refl)
others_put_nothing s view (Opened features) other = while_up (is_up view) _ refl
others_put_nothing s view Down other = while_up (is_up view) _ refl
others_put_nothing s view (Lost k) other = while_up (is_up view) _ refl
others_put_nothing s view (Handed packet) other = while_up (is_up view) _ refl
others_put_nothing s view (Removed entry) other = while_up (is_up view) _ refl
others_put_nothing s view (Status status) other = while_up (is_up view) _ refl
others_put_nothing s view (Fault x class code pair) other = while_up (is_up view) _ refl
others_put_nothing s view (Barrier x) other = while_up (is_up view) _ refl
others_put_nothing s view (Queues x body) other = while_up (is_up view) _ refl
others_put_nothing s view (Entry x kind bytes) other = while_up (is_up view) _ refl
others_put_nothing s view (Last x kind) other = while_up (is_up view) _ refl
others_put_nothing s view End other = while_up (is_up view) _ refl

-- ---- each item makes one call at most

abbrev AtMostOne : List RequestCall → Type 0
AtMostOne these = (these ≡ []) ⊎ ((c : RequestCall) × (these ≡ c ∷ []))

-- what a message makes, by whether it ends the connection and whether it puts something for the switch
abbrev of_message : Bool → Bool → Asked → List RequestCall
of_message dismissing puts asked = if dismissing then Forget ∷ [] else if puts then Issue asked ∷ [] else []

message_one : (dismissing puts : Bool) (asked : Asked) → AtMostOne (of_message dismissing puts asked)
message_one true puts asked = inr (Forget, refl)
message_one false true asked = inr (Issue asked, refl)
message_one false false asked = inl refl

error_one : (found : Option Issued) → AtMostOne (error_marks found)
error_one None = inl refl
error_one (Some request) = inr (MarkError request.number, refl)

reply_one : (a : Answer) (told : Bool) (found : Option Issued) → is_any a.to_slice ≡ told → AtMostOne (reply_marks a found)
reply_one a told None is = inl refl
reply_one a true (Some request) is = inr (MarkDone request.number, rw is refl)
reply_one a false (Some request) is = inl (rw is refl)

request_one : (s : Settings) (view : List Item) (item : Item) → AtMostOne (requests_given s view item)
request_one s view Up = inr (Forget, refl)
request_one s view Down = inr (Forget, refl)
request_one s view (Msg message moment) = message_one (is_dismissing message) (is_any (answer_to s view (Msg message moment)).to_switch) (asked_of (message_read s message) message)
request_one s view (Fault x class code pair) = error_one (request_for s x (requests_after s view))
request_one s view (Opened features) = inl refl
request_one s view (Lost k) = inl refl
request_one s view (Handed packet) = inl refl
request_one s view (Removed entry) = inl refl
request_one s view (Status status) = inl refl
request_one s view (Barrier x) = reply_one (answer_to s view (Barrier x)) _ (request_for s x (requests_after s view)) refl
request_one s view (Queues x body) = reply_one (answer_to s view (Queues x body)) _ (request_for s x (requests_after s view)) refl
request_one s view (Entry x kind bytes) = inl refl
request_one s view (Last x kind) = reply_one (answer_to s view (Last x kind)) _ (request_for s x (requests_after s view)) refl
request_one s view End = inl refl

pub requests_made : (s : Settings) → Making RequestCall (requests_given s) (requests_after s)
requests_made s = record { none = refl; more = λ item view. refl; single = request_one s }

-- ---- how many there are

message_counts : (dismissing puts : Bool) (asked : Asked) (before : List RequestCall) → (dismissing ≡ true → puts ≡ false)
    → issued (of_message dismissing puts asked ++ before) ≡ (if puts then issued before + 1 else issued before)
message_counts true true asked before nothing = absurd (true≢false (nothing refl))
message_counts true false asked before nothing = refl
message_counts false true asked before nothing = refl
message_counts false false asked before nothing = refl

error_counts : (found : Option Issued) (before : List RequestCall) → issued (error_marks found ++ before) ≡ issued before
error_counts None before = refl
error_counts (Some request) before = refl

reply_counts : (a : Answer) (told : Bool) (found : Option Issued) (before : List RequestCall) → is_any a.to_slice ≡ told → issued (reply_marks a found ++ before) ≡ issued before
reply_counts a told None before is = refl
reply_counts a true (Some request) before is = rw is refl
reply_counts a false (Some request) before is = rw is refl

request_counts : (s : Settings) (view : List Item) (item : Item)
    → issued (requests_after s (item ∷ view)) ≡ (if is_request s view item then issued (requests_after s view) + 1 else issued (requests_after s view))
request_counts s view Up = refl
request_counts s view Down = refl
request_counts s view (Msg message moment) =
    message_counts (is_dismissing message) (is_any (answer_to s view (Msg message moment)).to_switch) (asked_of (message_read s message) message) (requests_after s view)
    (dismissing_asks_nothing s view message moment)
request_counts s view (Fault x class code pair) = error_counts (request_for s x (requests_after s view)) (requests_after s view)
request_counts s view (Opened features) = refl
request_counts s view (Lost k) = refl
request_counts s view (Handed packet) = refl
request_counts s view (Removed entry) = refl
request_counts s view (Status status) = refl
request_counts s view (Barrier x) = reply_counts (answer_to s view (Barrier x)) _ (request_for s x (requests_after s view)) (requests_after s view) refl
request_counts s view (Queues x body) = reply_counts (answer_to s view (Queues x body)) _ (request_for s x (requests_after s view)) (requests_after s view) refl
request_counts s view (Entry x kind bytes) = refl
request_counts s view (Last x kind) = reply_counts (answer_to s view (Last x kind)) _ (request_for s x (requests_after s view)) (requests_after s view) refl
request_counts s view End = refl

one_longer : (counts : Bool) (n : ℕ) (item : Item) (items : List Item) → n ≡ length items → (if counts then n + 1 else n) ≡ length (if counts then item ∷ items else items)
one_longer true n item items is = omega (arith, is)
one_longer false n item items is = is

pub issued-requests : (s : Settings) (view : List Item) → issued (requests_after s view) ≡ next_number s view
issued-requests s [] = refl
issued-requests s (item ∷ view) =
    request_counts s view item ∙ one_longer (is_request s view item) (issued (requests_after s view)) item (requests_in s view) (issued-requests s view)

-- ---- which item issues a request

-- an item that issues one is a message that asks so
pub record IsIssue (s : Settings) (view : List Item) (item : Item) (asked : Asked) : Type 0 where
  pub message : List ℕ
  pub moment : ℕ
  pub is_message : item ≡ Msg message moment
  pub asks : is_request s view (Msg message moment) ≡ true
  pub so_asked : asked ≡ asked_of (message_read s message) message

message_issues : (dismissing puts : Bool) (asked other : Asked) → of_message dismissing puts asked ≡ Issue other ∷ [] → (puts ≡ true) × (other ≡ asked)
message_issues true puts asked other is = cc
message_issues false true asked other is = (refl, cc)
message_issues false false asked other is = cc

error_issues_nothing : (found : Option Issued) (asked : Asked) → error_marks found ≡ Issue asked ∷ [] → ⊥
error_issues_nothing None asked is = cc
error_issues_nothing (Some request) asked is = cc

reply_issues_nothing : (a : Answer) (told : Bool) (found : Option Issued) (asked : Asked) → is_any a.to_slice ≡ told → reply_marks a found ≡ Issue asked ∷ [] → ⊥
reply_issues_nothing a told None asked any is = cc
reply_issues_nothing a true (Some request) asked any is = (let marks : MarkDone request.number ∷ [] ≡ Issue asked ∷ [] = rw any at is in cc)
reply_issues_nothing a false (Some request) asked any is = (let nothing : [] ≡ Issue asked ∷ [] = rw any at is in cc)

pub issue_from : (s : Settings) (view : List Item) (item : Item) (asked : Asked) → requests_given s view item ≡ Issue asked ∷ [] → IsIssue s view item asked
issue_from s view Up asked is = cc
issue_from s view Down asked is = cc
issue_from s view (Msg message moment) asked is =
    let parts = message_issues (is_dismissing message) (is_any (answer_to s view (Msg message moment)).to_switch) (asked_of (message_read s message) message) asked is in
    record { message = message; moment = moment; is_message = refl; asks = parts.0; so_asked = parts.1 }
issue_from s view (Fault x class code pair) asked is = absurd (error_issues_nothing (request_for s x (requests_after s view)) asked is)
issue_from s view (Opened features) asked is = cc
issue_from s view (Lost k) asked is = cc
issue_from s view (Handed packet) asked is = cc
issue_from s view (Removed entry) asked is = cc
issue_from s view (Status status) asked is = cc
issue_from s view (Barrier x) asked is = absurd (reply_issues_nothing (answer_to s view (Barrier x)) _ (request_for s x (requests_after s view)) asked refl is)
issue_from s view (Queues x body) asked is = absurd (reply_issues_nothing (answer_to s view (Queues x body)) _ (request_for s x (requests_after s view)) asked refl is)
issue_from s view (Entry x kind bytes) asked is = cc
issue_from s view (Last x kind) asked is = absurd (reply_issues_nothing (answer_to s view (Last x kind)) _ (request_for s x (requests_after s view)) asked refl is)
issue_from s view End asked is = cc

asking_issues : (dismissing puts : Bool) (asked : Asked) → (dismissing ≡ true → puts ≡ false) → puts ≡ true → of_message dismissing puts asked ≡ Issue asked ∷ []
asking_issues true puts asked nothing asks = absurd (true≢false (sym asks ∙ nothing refl))
asking_issues false true asked nothing asks = refl
asking_issues false false asked nothing asks = absurd (true≢false (sym asks))

pub issue_of : (s : Settings) (view : List Item) (message : List ℕ) (moment : ℕ) → is_request s view (Msg message moment) ≡ true
    → requests_given s view (Msg message moment) ≡ Issue (asked_of (message_read s message) message) ∷ []
issue_of s view message moment asks =
    asking_issues (is_dismissing message) (is_any (answer_to s view (Msg message moment)).to_switch) (asked_of (message_read s message) message)
    (dismissing_asks_nothing s view message moment) asks

-- ---- which item forgets

message_forgets : (dismissing puts : Bool) (asked : Asked) → dismissing ≡ true → of_message dismissing puts asked ≡ Forget ∷ []
message_forgets true puts asked is = refl
message_forgets false puts asked is = absurd (true≢false (sym is))

pub forget_from : (s : Settings) (view : List Item) (item : Item) → is_forgetting item ≡ true → requests_given s view item ≡ Forget ∷ []
forget_from s view Up is = refl
forget_from s view Down is = refl
forget_from s view (Msg message moment) is =
    message_forgets (is_dismissing message) (is_any (answer_to s view (Msg message moment)).to_switch) (asked_of (message_read s message) message) is
forget_from s view (Fault x class code pair) is = absurd (true≢false (sym is))
forget_from s view (Opened features) is = absurd (true≢false (sym is))
forget_from s view (Lost k) is = absurd (true≢false (sym is))
forget_from s view (Handed packet) is = absurd (true≢false (sym is))
forget_from s view (Removed entry) is = absurd (true≢false (sym is))
forget_from s view (Status status) is = absurd (true≢false (sym is))
forget_from s view (Barrier x) is = absurd (true≢false (sym is))
forget_from s view (Queues x body) is = absurd (true≢false (sym is))
forget_from s view (Entry x kind bytes) is = absurd (true≢false (sym is))
forget_from s view (Last x kind) is = absurd (true≢false (sym is))
forget_from s view End is = absurd (true≢false (sym is))

-- ---- where a request stands among them

-- those of later items stand before those of earlier ones
pub requests-later : (s : Settings) (later base : List Item) → (more : List Item) × (requests_in s (later ++ base) ≡ more ++ requests_in s base)
requests-later s [] base = ([], refl)
requests-later s (item ∷ later) base =
    let rest = requests-later s later base in
    elim (cases_Bool (is_request s (later ++ base) item)) [
      | inl asks ↦ (item ∷ rest.0, rw asks (ap (λ (items : List Item). item ∷ items) rest.1))
      | inr silent ↦ (rest.0, rw silent rest.1)
    ]

get_behind : (front : List Item) (item : Item) (behind : List Item) → slice_get (front ++ (item ∷ behind)) (length front) ≡ Some item
get_behind [] item behind = refl
get_behind (other ∷ front) item behind = get_behind front item behind

turned : (more : List Item) (item : Item) (items : List Item) → reverse (more ++ (item ∷ items)) ≡ reverse items ++ (item ∷ reverse more)
turned more item items =
    reverse-append more (item ∷ items)
    ∙ ap (λ (front : List Item). front ++ reverse more) (reverse-append (item ∷ []) items)
    ∙ append_assoc (reverse items) (item ∷ []) (reverse more)

pub request-place : (s : Settings) (later : List Item) (item : Item) (earlier : List Item) → is_request s earlier item ≡ true
    → slice_get (reverse (requests_in s (later ++ (item ∷ earlier)))) (next_number s earlier) ≡ Some item
request-place s later item earlier asks =
    let items = requests_in s earlier in
    let more = requests-later s later (item ∷ earlier) in
    let own : requests_in s (item ∷ earlier) ≡ item ∷ items = rw asks refl in
    let all : reverse (requests_in s (later ++ (item ∷ earlier))) ≡ reverse items ++ (item ∷ reverse more.0) =
    ap (λ (l : List Item). reverse l) (more.1 ∙ ap (λ (l : List Item). more.0 ++ l) own) ∙ turned more.0 item items in
    rw all (subst (λ (n : ℕ). slice_get (reverse items ++ (item ∷ reverse more.0)) n ≡ Some item) (length-reverse items) (get_behind (reverse items) item (reverse more.0)))
