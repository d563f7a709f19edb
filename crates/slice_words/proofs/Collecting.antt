-- What a request has collected are well-formed entries of the type that was asked for with it, each of which fits a page.
use Rattle.std.proofs.Common.{◌≡◌, ℕ, ◌<◌, ◌≤◌, ◌==◌, true, false, if◌then◌else◌, List, [], ◌∷◌, ◌++◌, length, drop, refl, ap, sym, ◌∙◌, subst, inl, inr, ◌⊎◌, Option, Some, None, arith}
use Rattle.std.specs.List.{All, concat}
use Rattle.std.proofs.lemmas.Bool.{cases_Bool, eq-eqb, ne_eqb, eqb-true, and_parts}
use Rattle.std.proofs.lemmas.Option.{same_Some, none-some}
use Rattle.std.proofs.lemmas.List.{append-nil}
use Rattle.std.proofs.lemmas.List.Elements.{All-nil, All-cons, All-head, All-tail, All-append, All-drop, All-weaker}
use Rattle.std.proofs.lemmas.List.Folds.{concat-append}
use Rattle.of10_model.specs.Normal.{is_value}
use Rattle.of10_model.proofs.Results.{either}
use Rattle.flowspace.proofs.Refusing.{is_value-Some}
use Rattle.of10_stats.specs.Replies.{IsEntry}
use Rattle.xid_map.specs.declared.asked.Issued.{Issued}
use Rattle.xid_map.specs.declared.asked.AskKind.{AskKind}
use Rattle.xid_map.specs.declared.asked.AskKind.TheVariants as kinds
use Rattle.xid_map.specs.Requests.{RequestCall, Issue, MarkError, MarkDone, Forget, issued, physical_of, found}
use Rattle.xid_map.specs.Collections.{CollectionCall, Start, Add, Sum, Finish, EndAll, is_among, collecting, begins, since, added, joined_entries, gathered}
use Rattle.xid_map.proofs.Finding.{IsFound-found}
use Rattle.xid_map.proofs.Gathering.{IsLongestRun-kept}
use Rattle.stats_filter.specs.Asking.{type_sent}
use Rattle.stats_filter.specs.Keeping.{entries_in}
use Rattle.stats_filter.specs.Replies.{page_size}
use Rattle.stats_filter.specs.Laws.{FitPages}
use Rattle.stats_filter.proofs.Rows.{entries_in-concat}
use Rattle.slice_words.specs.Messages.{is_dismissing, kind_asked}
use Rattle.slice_words.specs.Items.{Settings, message_read, Item, Opened, Up, Down, Msg, Lost, Handed, Removed, Status, Fault, Barrier, Queues, Entry, Last, End}
use Rattle.slice_words.specs.Pasts.{Answer, is_any}
use Rattle.slice_words.specs.Statistics.{asks_statistics, collects, begun, entry_call, entry_kept, finished}
use Rattle.slice_words.specs.Alone.{answer_to}
use Rattle.slice_words.specs.Calls.{request_for, requests_by, request_calls, collected_by, collection_calls}
use Rattle.slice_words.specs.Standing.{past_of}

-- an entry that a slice sees is well formed, and fits a page
abbrev pub IsWholeEntry : Item → Type 0
IsWholeEntry (Entry x kind entry) = IsEntry kind entry × (length entry ≤ page_size)
IsWholeEntry item = Unit {0}

-- ---- the type that is sent for a request

-- the type of statistics that was asked for with the request of a number
abbrev sent_at : ℕ → List RequestCall → Option ℕ
sent_at number [] = None
sent_at number (Issue asked ∷ earlier) = if issued earlier == number then type_sent asked.kind else sent_at number earlier
sent_at number (MarkError other ∷ earlier) = sent_at number earlier
sent_at number (MarkDone other ∷ earlier) = sent_at number earlier
sent_at number (Forget ∷ earlier) = sent_at number earlier

-- it was issued before
sent_before : (number kind : ℕ) (calls : List RequestCall) → sent_at number calls ≡ Some kind → number < issued calls
sent_before number kind [] is = absurd (none-some kind is)
sent_before number kind (Issue asked ∷ earlier) is =
    elim (cases_Bool (issued earlier == number)) [
      | inl here ↦ omega (arith, eqb-true (issued earlier) number here)
      | inr apart ↦ omega (arith, sent_before number kind earlier (rw apart at is))
    ]
sent_before number kind (MarkError other ∷ earlier) is = sent_before number kind earlier is
sent_before number kind (MarkDone other ∷ earlier) is = sent_before number kind earlier is
sent_before number kind (Forget ∷ earlier) is = sent_before number kind earlier is

-- and that stays so
sent_still : (number kind : ℕ) (later calls : List RequestCall) → sent_at number calls ≡ Some kind → sent_at number (later ++ calls) ≡ Some kind
sent_still number kind [] calls is = is
sent_still number kind (Issue asked ∷ later) calls is =
    let rest = sent_still number kind later calls is in
    let before = sent_before number kind (later ++ calls) rest in
    rw (ne_eqb (issued (later ++ calls)) number (λ e. omega (arith, before, e))) rest
sent_still number kind (MarkError other ∷ later) calls is = sent_still number kind later calls is
sent_still number kind (MarkDone other ∷ later) calls is = sent_still number kind later calls is
sent_still number kind (Forget ∷ later) calls is = sent_still number kind later calls is

-- a request that is found was issued with it
sent_found : (slot physical : ℕ) (calls : List RequestCall) (request : Issued) (kind : ℕ) → found slot physical calls ≡ Some request → type_sent request.asked.kind ≡ Some kind → sent_at request.number calls ≡ Some kind
sent_found slot physical calls request kind is sent =
    let there = IsFound-found slot physical calls request is in
    let first : sent_at request.number (Issue request.asked ∷ there.earlier) ≡ Some kind = rw (eq-eqb (issued there.earlier) request.number (sym there.numbered)) sent in
    subst (λ l. sent_at request.number l ≡ Some kind) (sym there.split) (sent_still request.number kind there.later (Issue request.asked ∷ there.earlier) first)

-- ---- the entries that are added

-- an entry came for the request of a number: it is a well-formed one of the type that was asked for, and fits a page
record IsOwn (requests : List RequestCall) (number : ℕ) (entry : List ℕ) : Type 0 where
  kind : ℕ
  sent : sent_at number requests ≡ Some kind
  whole : IsEntry kind entry
  fits : length entry ≤ page_size

-- calls add none but such entries
abbrev AreOwn : List RequestCall → List CollectionCall → Type 0
AreOwn requests calls = (number : ℕ) → All (IsOwn requests number) (added number calls)

own_still : (later requests : List RequestCall) (calls : List CollectionCall) → AreOwn requests calls → AreOwn (later ++ requests) calls
own_still later requests calls own number =
    All-weaker (IsOwn requests number) (IsOwn (later ++ requests) number) (λ entry is. record {
      kind = is.kind;
      sent = sent_still number is.kind later requests is.sent;
      whole = is.whole;
      fits = is.fits;
    })
    (added number calls) (own number)

-- one call more: only an entry matters
own_start : (requests : List RequestCall) (other : ℕ) (calls : List CollectionCall) → AreOwn requests calls → AreOwn requests (Start other ∷ calls)
unfolding added
own_start requests other calls own = own

own_finish : (requests : List RequestCall) (other : ℕ) (calls : List CollectionCall) → AreOwn requests calls → AreOwn requests (Finish other ∷ calls)
unfolding added
own_finish requests other calls own = own

own_end : (requests : List RequestCall) (calls : List CollectionCall) → AreOwn requests calls → AreOwn requests (EndAll ∷ calls)
unfolding added
own_end requests calls own = own

own_add : (requests : List RequestCall) (other : ℕ) (entry : List ℕ) (calls : List CollectionCall) → IsOwn requests other entry → AreOwn requests calls → AreOwn requests (Add other entry ∷ calls)
unfolding added
own_add requests other entry calls is own number =
    elim (cases_Bool (other == number)) [
      | inl here ↦ rw here (All-cons (IsOwn requests number) entry (added number calls) (subst (λ n. IsOwn requests n entry) (eqb-true other number here) is) (own number))
      | inr apart ↦ rw apart (own number)
    ]

own_entry : (requests : List RequestCall) (asked : AskKind) (other : ℕ) (entry : List ℕ) (calls : List CollectionCall) → IsOwn requests other entry → AreOwn requests calls → AreOwn requests (entry_call asked other entry ∷ calls)
unfolding added
own_entry requests kinds.Aggregate other entry calls is own = own
own_entry requests kinds.FlowMod other entry calls is own = own_add requests other entry calls is own
own_entry requests kinds.PacketOut other entry calls is own = own_add requests other entry calls is own
own_entry requests kinds.Barrier other entry calls is own = own_add requests other entry calls is own
own_entry requests kinds.QueueConfig other entry calls is own = own_add requests other entry calls is own
own_entry requests kinds.Desc other entry calls is own = own_add requests other entry calls is own
own_entry requests kinds.Flow other entry calls is own = own_add requests other entry calls is own
own_entry requests kinds.Port other entry calls is own = own_add requests other entry calls is own
own_entry requests kinds.Queue other entry calls is own = own_add requests other entry calls is own

own_begun : (requests : List RequestCall) (number : ℕ) (asked : AskKind) (calls : List CollectionCall) → AreOwn requests calls → AreOwn requests (begun number asked ++ calls)
own_begun requests number asked calls own =
    either (λ (more : List CollectionCall). AreOwn requests (more ++ calls)) (asks_statistics asked) (Start number ∷ []) [] (own_start requests number calls own) own

own_finished : (requests : List RequestCall) (request : Option Issued) (calls : List CollectionCall) → AreOwn requests calls → AreOwn requests (finished request ++ calls)
own_finished requests None calls own = own
own_finished requests (Some request) calls own = own_finish requests request.number calls own

own_kept : (slot physical : ℕ) (requests : List RequestCall) (request : Option Issued) (kind : ℕ) (entry : List ℕ) (calls : List CollectionCall) → found slot physical requests ≡ request
    → IsEntry kind entry → length entry ≤ page_size → AreOwn requests calls → AreOwn requests (entry_kept request kind entry calls ++ calls)
own_kept slot physical requests None kind entry calls is whole fits own = own
own_kept slot physical requests (Some request) kind entry calls is whole fits own = by_type (cases_Bool (collects request kind calls))
  where
    by_type : (collects request kind calls ≡ true) ⊎ (collects request kind calls ≡ false) → AreOwn requests ((if collects request kind calls then entry_call request.asked.kind request.number entry ∷ [] else []) ++ calls)
    by_type (inr isnt) = rw isnt own
    by_type (inl does) =
        let sent = is_value-Some kind (type_sent request.asked.kind) (and_parts (is_value kind (type_sent request.asked.kind)) (is_among request.number (collecting calls)) does).0 in
        rw does (own_entry requests request.asked.kind request.number entry calls (record {
          kind = kind;
          sent = sent_found slot physical requests request kind is sent;
          whole = whole;
          fits = fits;
        }) own)

own_collected : (s : Settings) (requests : List RequestCall) (calls : List CollectionCall) (item : Item) (answer : Answer) → IsWholeEntry item → AreOwn requests calls → AreOwn requests (collected_by s requests calls item answer ++ calls)
own_collected s requests calls Up answer whole own = own_end requests calls own
own_collected s requests calls Down answer whole own = own_end requests calls own
own_collected s requests calls (Msg message moment) answer whole own =
    let P : List CollectionCall → Type 0 = λ more. AreOwn requests (more ++ calls) in
    either P (is_dismissing message) _ _ (own_end requests calls own)
    (either P (is_any answer.to_switch) _ _ (own_begun requests (issued requests) (kind_asked (message_read s message)) calls own) own)
own_collected s requests calls (Fault x class code pair) answer whole own = own_finished requests (request_for s x requests) calls own
own_collected s requests calls (Entry x kind entry) answer whole own = own_kept s.slot (physical_of s.slot x) requests (request_for s x requests) kind entry calls refl whole.0 whole.1 own
own_collected s requests calls (Last x kind) answer whole own =
    either (λ (more : List CollectionCall). AreOwn requests (more ++ calls)) (is_any answer.to_slice) _ _ (own_finished requests (request_for s x requests) calls own) own
own_collected s requests calls (Opened features) answer whole own = own
own_collected s requests calls (Lost k) answer whole own = own
own_collected s requests calls (Handed packet) answer whole own = own
own_collected s requests calls (Removed entry) answer whole own = own
own_collected s requests calls (Status status) answer whole own = own
own_collected s requests calls (Barrier x) answer whole own = own
own_collected s requests calls (Queues x body) answer whole own = own
own_collected s requests calls End answer whole own = own

own_none : (requests : List RequestCall) → AreOwn requests []
unfolding added
own_none requests number = All-nil (IsOwn requests number)

own_in : (s : Settings) (view : List Item) → All IsWholeEntry view → AreOwn (request_calls s (past_of s view)) (collection_calls s (past_of s view))
own_in s [] whole = own_none []
own_in s (item ∷ view) whole =
    let past = past_of s view in
    let requests = request_calls s past in
    let calls = collection_calls s past in
    own_still (requests_by s requests item (answer_to s view item)) requests (collected_by s requests calls item (answer_to s view item) ++ calls)
    (own_collected s requests calls item (answer_to s view item) (All-head IsWholeEntry item view whole) (own_in s view (All-tail IsWholeEntry item view whole)))

-- ---- what is collected of them

-- so are those that were added since a request began
added_since : (P : List ℕ → Type 0) (number : ℕ) (calls : List CollectionCall) → All P (added number calls) → All P (added number (since number calls))
unfolding added since
added_since P number [] all = all
added_since P number (Start other ∷ earlier) all =
    either (λ (own : List CollectionCall). All P (added number own)) (begins number (Start other) earlier) [] _ (All-nil P) (added_since P number earlier all)
added_since P number (Finish other ∷ earlier) all = added_since P number earlier all
added_since P number (EndAll ∷ earlier) all = added_since P number earlier all
added_since P number (Sum other packets bytes ∷ earlier) all = added_since P number earlier all
added_since P number (Add other entry ∷ earlier) all =
    elim (cases_Bool (other == number)) [
      | inl here ↦
          let both : All P (entry ∷ added number earlier) = rw here at all in
          rw here (All-cons P entry (added number (since number earlier)) (All-head P entry (added number earlier) both) (added_since P number earlier (All-tail P entry (added number earlier) both)))
      | inr apart ↦ rw apart (added_since P number earlier (rw apart at all))
    ]

-- bytes are elements of a kind one behind another
record IsRow (P : List ℕ → Type 0) (bytes : List ℕ) : Type 0 where
  row : List (List ℕ)
  split : bytes ≡ concat row
  each : All P row

row_joined : (P : List ℕ → Type 0) (entries : List (List ℕ)) → All P entries → IsRow P (joined_entries entries)
unfolding joined_entries
row_joined P [] all = record { row = []; split = refl; each = All-nil P }
row_joined P (entry ∷ earlier) all =
    let before = row_joined P earlier (All-tail P entry earlier all) in
    record {
      row = before.row ++ (entry ∷ []);
      split =
          ap (λ bytes. bytes ++ entry) before.split
          ∙ ap (λ last. concat before.row ++ last) (sym (append-nil entry))
          ∙ sym (concat-append before.row (entry ∷ []));
      each = All-append P before.row (entry ∷ []) before.each (All-cons P entry [] (All-head P entry earlier all) (All-nil P));
    }

row_gathered : (P : List ℕ → Type 0) (number : ℕ) (calls : List CollectionCall) → All P (added number calls) → IsRow P (gathered number calls).entries
unfolding gathered
row_gathered P number calls all =
    let entries = added number (since number calls) in
    let run = IsLongestRun-kept entries in
    subst (IsRow P) (sym run.run) (row_joined P (drop run.left_out entries) (All-drop P run.left_out entries (added_since P number calls all)))

-- a view's entries that are whole fit the pages of the reply to the request that collects them
pub fit-gathered : (s : Settings) (view : List Item) (x : ℕ) (request : Issued) (kind : ℕ) → All IsWholeEntry view → request_for s x (request_calls s (past_of s view)) ≡ Some request → type_sent request.asked.kind ≡ Some kind
    → FitPages (entries_in kind (gathered request.number (collection_calls s (past_of s view))).entries)
fit-gathered s view x request kind whole is sent =
    let requests = request_calls s (past_of s view) in
    let calls = collection_calls s (past_of s view) in
    let own = row_gathered (IsOwn requests request.number) request.number calls (own_in s view whole request.number) in
    let at = sent_found s.slot (physical_of s.slot x) requests request kind is sent in
    let each : All (IsEntry kind) own.row = All-weaker (IsOwn requests request.number) (IsEntry kind) (λ entry one. subst (λ k. IsEntry k entry) (same_Some one.kind kind (sym one.sent ∙ at)) one.whole) own.row own.each in
    let small : FitPages own.row = All-weaker (IsOwn requests request.number) (λ entry. length entry ≤ page_size) (λ entry one. one.fits) own.row own.each in
    subst FitPages (sym (ap (entries_in kind) own.split ∙ entries_in-concat kind own.row each)) small
