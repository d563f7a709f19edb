-- What replies of the switch make of the calls of a view, and what a slice is sent of them.
use Rattle.std.proofs.Common.{◌≡◌, ℕ, suc, ◌&&◌, Bool, true, false, if◌then◌else◌, List, [], ◌∷◌, ◌++◌, map, length, refl, ap, ap₂, sym, ◌∙◌, true≢false, eqb-true, arith, Option, Some, None, is_some}
use Rattle.std.proofs.lemmas.Bool.{and_parts, le-leb}
use Rattle.of10_model.specs.Normal.{is_value}
use Rattle.of10_stats.specs.declared.protocol.TheConstants as statistics
use Rattle.xid_map.specs.declared.asked.AskKind.{AskKind}
use Rattle.xid_map.specs.declared.asked.AskKind.TheVariants as kinds
use Rattle.xid_map.specs.declared.asked.Issued.{Issued}
use Rattle.xid_map.specs.Requests.{RequestCall, MarkDone}
use Rattle.xid_map.specs.Collections.{CollectionCall, Finish, Gathered, gathered, is_among, collecting}
use Rattle.stats_filter.specs.Asking.{type_sent}
use Rattle.stats_filter.specs.Replies.{paged, reply_with, replies_with, replies_of}
use Rattle.stats_filter.specs.Keeping.{entries_in}
use Rattle.slice_words.specs.Items.{Settings, Item, Barrier, Queues, Entry, Last, is_up}
use Rattle.slice_words.specs.Pasts.{Answer, is_any, told, no_answer}
use Rattle.slice_words.specs.Statistics.{collects, entry_call, entry_kept, finished, collected_replies, statistics_told}
use Rattle.slice_words.specs.Alone.{answer_to, with_items, answers_for}
use Rattle.slice_words.specs.Calls.{request_for, reply_marks, request_calls, collection_calls, book_calls}
use Rattle.slice_words.specs.Standing.{past_of}
use Rattle.slice_words.proofs.Forgetting.{found_up}
use Rattle.switch_side.specs.Changes.{is_reply_under}
use Rattle.switch_side.specs.Collecting.{entry_calls}
use Rattle.switch_side.proofs.Standing.{SameRest}
use Rattle.flowspace.proofs.Refusing.{is_value-Some}

-- ---- the rest of a state

pub rest_none : (s : Settings) (view : List Item) → SameRest s view view
rest_none s view = record { up = refl; miss_send_len = refl; moment = refl; asked = refl; given = refl; held = refl }

pub rest_then : (s : Settings) (before mid after : List Item) → SameRest s before mid → SameRest s mid after → SameRest s before after
rest_then s before mid after one other = record {
  up = other.up ∙ one.up;
  miss_send_len = other.miss_send_len ∙ one.miss_send_len;
  moment = other.moment ∙ one.moment;
  asked = other.asked ∙ one.asked;
  given = other.given ∙ one.given;
  held = other.held ∙ one.held;
}

pub rest_barrier : (s : Settings) (view : List Item) (x : ℕ) → SameRest s view (Barrier x ∷ view)
rest_barrier s view x = record { up = refl; miss_send_len = refl; moment = refl; asked = refl; given = refl; held = refl }

pub rest_queues : (s : Settings) (view : List Item) (x : ℕ) (body : List ℕ) → SameRest s view (Queues x body ∷ view)
rest_queues s view x body = record { up = refl; miss_send_len = refl; moment = refl; asked = refl; given = refl; held = refl }

rest_entry : (s : Settings) (view : List Item) (x sent : ℕ) (entry : List ℕ) → SameRest s view (Entry x sent entry ∷ view)
rest_entry s view x sent entry = record { up = refl; miss_send_len = refl; moment = refl; asked = refl; given = refl; held = refl }

pub rest_last : (s : Settings) (view : List Item) (x sent : ℕ) → SameRest s view (Last x sent ∷ view)
rest_last s view x sent = record { up = refl; miss_send_len = refl; moment = refl; asked = refl; given = refl; held = refl }

-- ---- entries

-- a request that was found collects a type
abbrev pub is_open : ℕ → Option Issued → List CollectionCall → Bool
is_open sent None calls = false
is_open sent (Some request) calls = collects request sent calls

module _ (s : Settings) (x sent : ℕ) where
  -- a view with entries that come one after another
  abbrev pub with_entries : List (List ℕ) → List Item → List Item
  with_entries entries view = with_items (map (Entry x sent) entries) view

  pub entries_rest : (entries : List (List ℕ)) (view : List Item) → SameRest s view (with_entries entries view)
  entries_rest [] view = rest_none s view
  entries_rest (entry ∷ later) view = rest_then s view (Entry x sent entry ∷ view) (with_entries later (Entry x sent entry ∷ view)) (rest_entry s view x sent entry) (entries_rest later (Entry x sent entry ∷ view))

  pub entries_requests : (entries : List (List ℕ)) (view : List Item) → request_calls s (past_of s (with_entries entries view)) ≡ request_calls s (past_of s view)
  entries_requests [] view = refl
  entries_requests (entry ∷ later) view = entries_requests later (Entry x sent entry ∷ view)

  pub entries_book : (entries : List (List ℕ)) (view : List Item) → book_calls s (past_of s (with_entries entries view)) ≡ book_calls s (past_of s view)
  entries_book [] view = refl
  entries_book (entry ∷ later) view = entries_book later (Entry x sent entry ∷ view)

  -- the slice is sent nothing of them
  entry_silent : (up : Bool) (view : List Item) (entry : List ℕ) → is_up view ≡ up → (answer_to s view (Entry x sent entry)).to_slice ≡ []
  entry_silent true view entry is = rw is refl
  entry_silent false view entry is = rw is refl

  pub entries_sent : (entries : List (List ℕ)) (view behind : List Item) → answers_for s view (map (Entry x sent) entries ++ behind) ≡ answers_for s (with_entries entries view) behind
  entries_sent [] view behind = refl
  entries_sent (entry ∷ later) view behind =
      ap (λ (first : List (List ℕ)). first ++ answers_for s (Entry x sent entry ∷ view) (map (Entry x sent) later ++ behind)) (entry_silent (is_up view) view entry refl)
      ∙ entries_sent later (Entry x sent entry ∷ view) behind

  pub entries_then : (entries : List (List ℕ)) (view behind : List Item) → with_items (map (Entry x sent) entries ++ behind) view ≡ with_items behind (with_entries entries view)
  entries_then [] view behind = refl
  entries_then (entry ∷ later) view behind = entries_then later (Entry x sent entry ∷ view) behind

  closed_kept : (request : Option Issued) (entry : List ℕ) (calls : List CollectionCall) → is_open sent request calls ≡ false → entry_kept request sent entry calls ++ calls ≡ calls
  closed_kept None entry calls closed = refl
  closed_kept (Some request) entry calls closed = rw closed refl

  -- where none does they are kept for none
  pub entries_closed : (entries : List (List ℕ)) (view : List Item) → is_open sent (request_for s x (request_calls s (past_of s view))) (collection_calls s (past_of s view)) ≡ false
      → collection_calls s (past_of s (with_entries entries view)) ≡ collection_calls s (past_of s view)
  entries_closed [] view closed = refl
  entries_closed (entry ∷ later) view closed =
      let request = request_for s x (request_calls s (past_of s view)) in
      let same = closed_kept request entry (collection_calls s (past_of s view)) closed in
      entries_closed later (Entry x sent entry ∷ view) (ap (is_open sent request) same ∙ closed) ∙ same

  entry_collecting : (kind : AskKind) (number : ℕ) (entry : List ℕ) (calls : List CollectionCall) → collecting (entry_call kind number entry ∷ calls) ≡ collecting calls
  unfolding collecting
  entry_collecting kinds.Aggregate number entry calls = refl
  entry_collecting kind number entry calls = refl

  entry_open : (request : Issued) (entry : List ℕ) (calls : List CollectionCall) → collects request sent calls ≡ true → collects request sent (entry_call request.asked.kind request.number entry ∷ calls) ≡ true
  entry_open request entry calls open_ =
      ap (λ (numbers : List ℕ). is_value sent (type_sent request.asked.kind) && is_among request.number numbers) (entry_collecting request.asked.kind request.number entry calls) ∙ open_

  open_kept : (request : Issued) (entry : List ℕ) (calls : List CollectionCall) → collects request sent calls ≡ true → entry_kept (Some request) sent entry calls ≡ entry_call request.asked.kind request.number entry ∷ []
  open_kept request entry calls open_ = rw open_ refl

  -- and where one does for that
  pub entries_open : (request : Issued) (entries : List (List ℕ)) (view : List Item) → request_for s x (request_calls s (past_of s view)) ≡ Some request → collects request sent (collection_calls s (past_of s view)) ≡ true
      → collection_calls s (past_of s (with_entries entries view)) ≡ entry_calls request.asked.kind request.number entries (collection_calls s (past_of s view))
  entries_open request [] view is open_ = refl
  entries_open request (entry ∷ later) view is open_ =
      let calls = collection_calls s (past_of s view) in
      let now : collection_calls s (past_of s (Entry x sent entry ∷ view)) ≡ entry_call request.asked.kind request.number entry ∷ calls =
      ap (λ (found : Option Issued). entry_kept found sent entry calls ++ calls) is ∙ ap (λ (first : List CollectionCall). first ++ calls) (open_kept request entry calls open_) in
      entries_open request later (Entry x sent entry ∷ view) is (ap (collects request sent) now ∙ entry_open request entry calls open_)
      ∙ ap (entry_calls request.asked.kind request.number later) now

  calls_open : (request : Issued) (entries : List (List ℕ)) (calls : List CollectionCall) → collects request sent calls ≡ true → collects request sent (entry_calls request.asked.kind request.number entries calls) ≡ true
  calls_open request [] calls open_ = open_
  calls_open request (entry ∷ later) calls open_ = calls_open request later (entry_call request.asked.kind request.number entry ∷ calls) (entry_open request entry calls open_)

  -- ---- the end of statistics

  -- what the slice is sent with the last part
  last_answer : (view : List Item) (request : Option Issued) (calls : List CollectionCall) → request_for s x (request_calls s (past_of s view)) ≡ request → collection_calls s (past_of s view) ≡ calls → is_up view ≡ true
      → (answer_to s view (Last x sent)).to_slice ≡ statistics_told request sent calls
  last_answer view request calls found same up = rw up (ap₂ (λ (r : Option Issued) (now : List CollectionCall). statistics_told r sent now) found same)

  pub end_sent : (request : Issued) (entries : List (List ℕ)) (view : List Item) → request_for s x (request_calls s (past_of s view)) ≡ Some request → collects request sent (collection_calls s (past_of s view)) ≡ true
      → (answer_to s (with_entries entries view) (Last x sent)).to_slice
      ≡ collected_replies request.asked.kind (gathered request.number (entry_calls request.asked.kind request.number entries (collection_calls s (past_of s view)))) request.asked.xid
  end_sent request entries view is open_ =
      let calls = entry_calls request.asked.kind request.number entries (collection_calls s (past_of s view)) in
      last_answer (with_entries entries view) (Some request) calls (ap (request_for s x) (entries_requests entries view) ∙ is) (entries_open request entries view is open_)
      ((entries_rest entries view).up ∙ found_up s view x request is)
      ∙ ap (λ (own : Bool). if own then collected_replies request.asked.kind (gathered request.number calls) request.asked.xid else []) (calls_open request entries (collection_calls s (past_of s view)) open_)

  told_none : (request : Option Issued) (calls : List CollectionCall) → is_open sent request calls ≡ false → statistics_told request sent calls ≡ []
  told_none None calls closed = refl
  told_none (Some request) calls closed = rw closed refl

  up_none : (up : Bool) (messages : List (List ℕ)) → messages ≡ [] → (if up then told messages else no_answer).to_slice ≡ []
  up_none true messages none = none
  up_none false messages none = refl

  pub closed_silent : (view : List Item) → is_open sent (request_for s x (request_calls s (past_of s view))) (collection_calls s (past_of s view)) ≡ false → (answer_to s view (Last x sent)).to_slice ≡ []
  closed_silent view closed = up_none (is_up view) _ (told_none (request_for s x (request_calls s (past_of s view))) (collection_calls s (past_of s view)) closed)

-- ---- marks

pub marks_told : (answer : Answer) (request : Issued) → is_any answer.to_slice ≡ true → reply_marks answer (Some request) ≡ MarkDone request.number ∷ []
marks_told answer request any = rw any refl

pub marks_none : (answer : Answer) (request : Option Issued) → answer.to_slice ≡ [] → reply_marks answer request ≡ []
marks_none answer None none = refl
marks_none answer (Some request) none = ap (λ (messages : List (List ℕ)). if is_any messages then MarkDone request.number ∷ [] else []) none

-- ---- replies to barriers and to questions for queues

none_under : {P : Type 0} → false ≡ true → P
none_under none = absurd (true≢false (sym none))

module _ (s : Settings) (x : ℕ) (view : List Item) where
  pub reply_rest : (item : Item) → is_reply_under x item ≡ true → SameRest s view (item ∷ view)
  reply_rest (Barrier y) is = rest_barrier s view y
  reply_rest (Queues y body) is = rest_queues s view y body
  reply_rest item is = none_under is

  pub reply_collections : (item : Item) → is_reply_under x item ≡ true → collection_calls s (past_of s (item ∷ view)) ≡ collection_calls s (past_of s view)
  reply_collections (Barrier y) is = refl
  reply_collections (Queues y body) is = refl
  reply_collections item is = none_under is

  pub reply_book : (item : Item) → is_reply_under x item ≡ true → book_calls s (past_of s (item ∷ view)) ≡ book_calls s (past_of s view)
  reply_book (Barrier y) is = refl
  reply_book (Queues y body) is = refl
  reply_book item is = none_under is

  -- the marks that such a reply makes
  reply_marked : (item : Item) → is_reply_under x item ≡ true
      → request_calls s (past_of s (item ∷ view)) ≡ reply_marks (answer_to s view item) (request_for s x (request_calls s (past_of s view))) ++ request_calls s (past_of s view)
  reply_marked (Barrier y) is = ap (λ (n : ℕ). reply_marks (answer_to s view (Barrier y)) (request_for s n (request_calls s (past_of s view))) ++ request_calls s (past_of s view)) (eqb-true y x is)
  reply_marked (Queues y body) is = ap (λ (n : ℕ). reply_marks (answer_to s view (Queues y body)) (request_for s n (request_calls s (past_of s view))) ++ request_calls s (past_of s view)) (eqb-true y x is)
  reply_marked item is = none_under is

  pub reply_requests : (item : Item) (request : Issued) → is_reply_under x item ≡ true → request_for s x (request_calls s (past_of s view)) ≡ Some request → is_any (answer_to s view item).to_slice ≡ true
      → request_calls s (past_of s (item ∷ view)) ≡ MarkDone request.number ∷ request_calls s (past_of s view)
  reply_requests item request is found any =
      reply_marked item is
      ∙ ap (λ (marks : List RequestCall). marks ++ request_calls s (past_of s view)) (ap (reply_marks (answer_to s view item)) found ∙ marks_told (answer_to s view item) request any)

  pub reply_unmarked : (item : Item) → is_reply_under x item ≡ true → (answer_to s view item).to_slice ≡ [] → request_calls s (past_of s (item ∷ view)) ≡ request_calls s (past_of s view)
  reply_unmarked item is none =
      reply_marked item is
      ∙ ap (λ (marks : List RequestCall). marks ++ request_calls s (past_of s view)) (marks_none (answer_to s view item) (request_for s x (request_calls s (past_of s view))) none)

-- ---- replies with statistics are one at least

pub some_more : (first : List ℕ) (others : List (List ℕ)) → is_any (first ∷ others) ≡ true
some_more first others = le-leb 1 (suc (length others)) (omega arith)

some_replies : (kind xid : ℕ) (page : List ℕ) (later : List (List ℕ)) → is_any (replies_with kind xid (page ∷ later)) ≡ true
some_replies kind xid page [] = refl
some_replies kind xid page (next ∷ later) = some_more (reply_with kind true xid page) (replies_with kind xid (next ∷ later))

some_of : (kind xid : ℕ) (entries : List ℕ) → is_any (replies_of kind entries xid) ≡ true
unfolding replies_of
some_of kind xid entries = some_replies kind xid (paged 0 (entries_in kind entries)).0 (paged 0 (entries_in kind entries)).1

some_told : (asked : AskKind) (sent : ℕ) (g : Gathered) (xid : ℕ) → type_sent asked ≡ Some sent → is_any (collected_replies asked g xid) ≡ true
some_told kinds.FlowMod sent g xid is = absurd (true≢false (sym (ap is_some is)))
some_told kinds.PacketOut sent g xid is = absurd (true≢false (sym (ap is_some is)))
some_told kinds.Barrier sent g xid is = absurd (true≢false (sym (ap is_some is)))
some_told kinds.QueueConfig sent g xid is = absurd (true≢false (sym (ap is_some is)))
some_told kinds.Aggregate sent g xid is = refl
some_told kinds.Desc sent g xid is = some_of statistics.DESC xid g.entries
some_told kinds.Flow sent g xid is = some_of statistics.FLOW xid g.entries
some_told kinds.Port sent g xid is = some_of statistics.PORT xid g.entries
some_told kinds.Queue sent g xid is = some_of statistics.QUEUE xid g.entries

-- a request that collects a type has asked for it
pub type_collected : (request : Issued) (sent : ℕ) (calls : List CollectionCall) → collects request sent calls ≡ true → type_sent request.asked.kind ≡ Some sent
type_collected request sent calls open_ = is_value-Some sent (type_sent request.asked.kind) (and_parts (is_value sent (type_sent request.asked.kind)) (is_among request.number (collecting calls)) open_).0

pub end_told : (s : Settings) (x sent : ℕ) (request : Issued) (entries : List (List ℕ)) (view : List Item) → request_for s x (request_calls s (past_of s view)) ≡ Some request → collects request sent (collection_calls s (past_of s view)) ≡ true
    → is_any (answer_to s (with_entries s x sent entries view) (Last x sent)).to_slice ≡ true
end_told s x sent request entries view is open_ =
    ap (λ (messages : List (List ℕ)). is_any messages) (end_sent s x sent request entries view is open_)
    ∙ some_told request.asked.kind sent (gathered request.number (entry_calls request.asked.kind request.number entries (collection_calls s (past_of s view)))) request.asked.xid
    (type_collected request sent (collection_calls s (past_of s view)) open_)

-- ---- the calls with the end

-- the last entries, and the end
abbrev pub ended : Settings → ℕ → ℕ → List (List ℕ) → List Item → List Item
ended s x sent entries view = Last x sent ∷ with_entries s x sent entries view

pub ended_rest : (s : Settings) (x sent : ℕ) (entries : List (List ℕ)) (view : List Item) → SameRest s view (ended s x sent entries view)
ended_rest s x sent entries view = rest_then s view (with_entries s x sent entries view) (ended s x sent entries view) (entries_rest s x sent entries view) (rest_last s (with_entries s x sent entries view) x sent)

finished_if : (any : Bool) (request : Option Issued) (calls : List CollectionCall) → any ≡ false → (if any then finished request else []) ++ calls ≡ calls
finished_if any request calls none = rw none refl

module _ (s : Settings) (x sent : ℕ) (request : Issued) (entries : List (List ℕ)) (view : List Item)
    (is : request_for s x (request_calls s (past_of s view)) ≡ Some request) (open_ : collects request sent (collection_calls s (past_of s view)) ≡ true) where
  abbrev answer_then : Answer
  answer_then = answer_to s (with_entries s x sent entries view) (Last x sent)

  found_then : request_for s x (request_calls s (past_of s (with_entries s x sent entries view))) ≡ Some request
  found_then = ap (request_for s x) (entries_requests s x sent entries view) ∙ is

  pub ended_requests : request_calls s (past_of s (ended s x sent entries view)) ≡ MarkDone request.number ∷ request_calls s (past_of s view)
  ended_requests =
      ap₂ (λ (marks : List RequestCall) (calls : List RequestCall). marks ++ calls)
      (ap (reply_marks answer_then) found_then ∙ marks_told answer_then request (end_told s x sent request entries view is open_)) (entries_requests s x sent entries view)

  pub ended_collections : collection_calls s (past_of s (ended s x sent entries view)) ≡ Finish request.number ∷ entry_calls request.asked.kind request.number entries (collection_calls s (past_of s view))
  ended_collections =
      ap (λ (any : Bool). (if any then finished (request_for s x (request_calls s (past_of s (with_entries s x sent entries view)))) else []) ++ collection_calls s (past_of s (with_entries s x sent entries view)))
      (end_told s x sent request entries view is open_)
      ∙ ap₂ (λ (found : Option Issued) (calls : List CollectionCall). finished found ++ calls) found_then (entries_open s x sent request entries view is open_)

module _ (s : Settings) (x sent : ℕ) (entries : List (List ℕ)) (view : List Item)
    (closed : is_open sent (request_for s x (request_calls s (past_of s view))) (collection_calls s (past_of s view)) ≡ false) where
  closed_then : is_open sent (request_for s x (request_calls s (past_of s (with_entries s x sent entries view)))) (collection_calls s (past_of s (with_entries s x sent entries view))) ≡ false
  closed_then =
      ap₂ (λ (requests : List RequestCall) (calls : List CollectionCall). is_open sent (request_for s x requests) calls) (entries_requests s x sent entries view) (entries_closed s x sent entries view closed)
      ∙ closed

  pub closed_sent : (answer_to s (with_entries s x sent entries view) (Last x sent)).to_slice ≡ []
  closed_sent = closed_silent s x sent (with_entries s x sent entries view) closed_then

  pub closed_requests : request_calls s (past_of s (ended s x sent entries view)) ≡ request_calls s (past_of s view)
  closed_requests =
      ap₂ (λ (marks : List RequestCall) (calls : List RequestCall). marks ++ calls)
      (marks_none (answer_to s (with_entries s x sent entries view) (Last x sent)) (request_for s x (request_calls s (past_of s (with_entries s x sent entries view)))) closed_sent)
      (entries_requests s x sent entries view)

  pub closed_collections : collection_calls s (past_of s (ended s x sent entries view)) ≡ collection_calls s (past_of s view)
  closed_collections =
      finished_if (is_any (answer_to s (with_entries s x sent entries view) (Last x sent)).to_slice) (request_for s x (request_calls s (past_of s (with_entries s x sent entries view))))
      (collection_calls s (past_of s (with_entries s x sent entries view))) (ap (λ (messages : List (List ℕ)). is_any messages) closed_sent)
      ∙ entries_closed s x sent entries view closed
