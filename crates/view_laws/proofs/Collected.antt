-- Which items begin and end what requests collect.
use Rattle.std.proofs.Common.{◌≡◌, ◌⊎◌, ℕ, Bool, true, false, if◌then◌else◌, List, [], ◌∷◌, refl, sym, ap, ◌∙◌, true≢false, inl, inr, Option, Some, None, Ok, Err}
use Rattle.of10_stats.specs.declared.request.StatsRequest.{StatsRequest}
use Rattle.of10_stats.specs.declared.request.StatsRequest.TheVariants as statistics
use Rattle.of10_message.specs.declared.controller.FromController.TheVariants as said
use Rattle.xid_map.specs.declared.asked.AskKind.{AskKind}
use Rattle.xid_map.specs.declared.asked.AskKind.TheVariants as kinds
use Rattle.xid_map.specs.declared.asked.Issued.{Issued}
use Rattle.xid_map.specs.Requests.{issued}
use Rattle.xid_map.specs.Collections.{CollectionCall, Start, Finish, EndAll}
use Rattle.stats_filter.specs.Asking.{asked_as}
use Rattle.slice_words.specs.Messages.{Reading, is_dismissing, kind_asked}
use Rattle.slice_words.specs.Items.{Settings, message_read, Item, Opened, Up, Down, Msg, Lost, Handed, Removed, Status, Fault, Barrier, Queues, Entry, Last, End, is_up}
use Rattle.slice_words.specs.Pasts.{Answer, Past, no_answer, is_any}
use Rattle.slice_words.specs.Statistics.{asks_statistics, collects, begun, entry_call, entry_kept, finished}
use Rattle.slice_words.specs.Calls.{request_for, collected_by, collection_calls}
use Rattle.slice_words.specs.Answers.{message_answer}
use Rattle.slice_words.specs.Alone.{answer_to}
use Rattle.slice_words.specs.Standing.{past_of}
use Rattle.slice_words.proofs.AnswerKinds.{message_holds}
use Rattle.view_laws.specs.Requests.{is_request, next_number}
use Rattle.view_laws.specs.Collecting.{IsStatistics}
use Rattle.view_laws.proofs.Making.{Making}
use Rattle.view_laws.proofs.Requesting.{requests_after, issued-requests, dismissing_asks_nothing}

-- what the items of a view make of the collections
abbrev pub collections_after : Settings → List Item → List CollectionCall
collections_after s view = collection_calls s (past_of s view)

-- what one more item makes of them
abbrev pub collections_given : Settings → List Item → Item → List CollectionCall
collections_given s view item = collected_by s (requests_after s view) (collections_after s view) item (answer_to s view item)

-- ---- each item makes one call at most

abbrev pub AtMostOne : List CollectionCall → Type 0
AtMostOne these = (these ≡ []) ⊎ ((c : CollectionCall) × (these ≡ c ∷ []))

one_if : (b : Bool) (these : List CollectionCall) → AtMostOne these → AtMostOne (if b then these else [])
one_if true these one = one
one_if false these one = inl refl

-- what a message makes, by whether it ends the connection and whether it puts something for the switch
abbrev pub of_message : Bool → Bool → ℕ → AskKind → List CollectionCall
of_message dismissing puts number kind = if dismissing then EndAll ∷ [] else if puts then begun number kind else []

message_one : (dismissing puts : Bool) (number : ℕ) (kind : AskKind) → AtMostOne (of_message dismissing puts number kind)
message_one true puts number kind = inr (EndAll, refl)
message_one false puts number kind = one_if puts (begun number kind) (one_if (asks_statistics kind) (Start number ∷ []) (inr (Start number, refl)))

finished_one : (found : Option Issued) → AtMostOne (finished found)
finished_one None = inl refl
finished_one (Some request) = inr (Finish request.number, refl)

kept_one : (found : Option Issued) (kind : ℕ) (entry : List ℕ) (before : List CollectionCall) → AtMostOne (entry_kept found kind entry before)
kept_one None kind entry before = inl refl
kept_one (Some request) kind entry before = one_if (collects request kind before) (entry_call request.asked.kind request.number entry ∷ []) (inr (entry_call request.asked.kind request.number entry, refl))

pub collection_one : (s : Settings) (view : List Item) (item : Item) → AtMostOne (collections_given s view item)
collection_one s view Up = inr (EndAll, refl)
collection_one s view Down = inr (EndAll, refl)
collection_one s view (Msg message moment) =
    message_one (is_dismissing message) (is_any (answer_to s view (Msg message moment)).to_switch) (issued (requests_after s view)) (kind_asked (message_read s message))
collection_one s view (Fault x class code pair) = finished_one (request_for s x (requests_after s view))
collection_one s view (Entry x kind entry) = kept_one (request_for s x (requests_after s view)) kind entry (collections_after s view)
collection_one s view (Last x kind) = one_if (is_any (answer_to s view (Last x kind)).to_slice) _ (finished_one (request_for s x (requests_after s view)))
collection_one s view (Opened features) = inl refl
collection_one s view (Lost k) = inl refl
collection_one s view (Handed packet) = inl refl
collection_one s view (Removed entry) = inl refl
collection_one s view (Status status) = inl refl
collection_one s view (Barrier x) = inl refl
collection_one s view (Queues x body) = inl refl
collection_one s view End = inl refl

pub collections_made : (s : Settings) → Making CollectionCall (collections_given s) (collections_after s)
collections_made s = record { none = refl; more = λ item view. refl; single = collection_one s }

-- ---- requests for statistics

-- what asks for statistics that are collected is a request for them
pub statistics_read : (read : Reading) → asks_statistics (kind_asked read) ≡ true → (request : StatsRequest) × (read ≡ Ok (said.StatsRequest request))
statistics_read (Ok (said.StatsRequest request)) is = (request, refl)
statistics_read (Ok (said.PacketOut m)) is = absurd (true≢false (sym is))
statistics_read (Ok (said.FlowMod m)) is = absurd (true≢false (sym is))
statistics_read (Ok said.Hello) is = absurd (true≢false (sym is))
statistics_read (Ok said.Error) is = absurd (true≢false (sym is))
statistics_read (Ok (said.EchoRequest body)) is = absurd (true≢false (sym is))
statistics_read (Ok said.EchoReply) is = absurd (true≢false (sym is))
statistics_read (Ok said.Vendor) is = absurd (true≢false (sym is))
statistics_read (Ok said.FeaturesRequest) is = absurd (true≢false (sym is))
statistics_read (Ok said.GetConfigRequest) is = absurd (true≢false (sym is))
statistics_read (Ok (said.SetConfig config)) is = absurd (true≢false (sym is))
statistics_read (Ok said.PortMod) is = absurd (true≢false (sym is))
statistics_read (Ok said.BarrierRequest) is = absurd (true≢false (sym is))
statistics_read (Ok (said.QueueGetConfigRequest queues)) is = absurd (true≢false (sym is))
statistics_read (Err fault) is = absurd (true≢false (sym is))

-- a request for those of tables puts nothing for the switch
abbrev asks_table : Reading → Bool
asks_table (Ok (said.StatsRequest statistics.Table)) = true
asks_table read = false

table_puts_nothing : (s : Settings) (view : List Item) (past : List Past) (moment : ℕ) (message : List ℕ) → asks_table (message_read s message) ≡ true → (message_answer s view past moment message).to_switch ≡ []
table_puts_nothing s view past moment message is =
    message_holds (λ (ends_ : Bool) (a : Answer). a.to_switch ≡ []) s view past moment message (record {
      bad = refl;
      old = refl;
      nothing = refl;
      refuses = λ fault. refl;
      echoes = λ body read. refl;
      tells_features = λ features. refl;
      tells_configuration = refl;
      forwards = λ m read fault. absurd (true≢false (sym is ∙ ap asks_table read));
      sends_out = λ m read fault. absurd (true≢false (sym is ∙ ap asks_table read));
      tells_table = refl;
      asks_statistics = λ request asked read may asks. absurd (not_table request asked read asks);
      asks_barrier = λ read. absurd (true≢false (sym is ∙ ap asks_table read));
      asks_queues = λ queues read own. absurd (true≢false (sym is ∙ ap asks_table read));
    })
  where
    not_table : (request asked : StatsRequest) → message_read s message ≡ Ok (said.StatsRequest request) → asked_as request ≡ Some asked → ⊥
    not_table statistics.Table asked read asks = cc
    not_table statistics.Desc asked read asks = true≢false (sym is ∙ ap asks_table read)
    not_table (statistics.Flow pattern table out_port) asked read asks = true≢false (sym is ∙ ap asks_table read)
    not_table (statistics.Aggregate pattern table out_port) asked read asks = true≢false (sym is ∙ ap asks_table read)
    not_table (statistics.Port port) asked read asks = true≢false (sym is ∙ ap asks_table read)
    not_table (statistics.Queue port queue) asked read asks = true≢false (sym is ∙ ap asks_table read)

while_up : (up : Bool) (a : Answer) → a.to_switch ≡ [] → is_any (if up then a else no_answer).to_switch ≡ false
while_up true a nothing = ap is_any nothing
while_up false a nothing = refl

-- so what is requested of statistics is collected
kind_collects : (s : Settings) (view : List Item) (message : List ℕ) (moment : ℕ) (request : StatsRequest) → message_read s message ≡ Ok (said.StatsRequest request) → is_request s view (Msg message moment) ≡ true
    → asks_statistics (kind_asked (Ok (said.StatsRequest request))) ≡ true
kind_collects s view message moment statistics.Table read asks =
    absurd (true≢false (sym asks ∙ while_up (is_up view) _ (table_puts_nothing s view (past_of s view) moment message (ap asks_table read))))
kind_collects s view message moment statistics.Desc read asks = refl
kind_collects s view message moment (statistics.Flow pattern table out_port) read asks = refl
kind_collects s view message moment (statistics.Aggregate pattern table out_port) read asks = refl
kind_collects s view message moment (statistics.Port port) read asks = refl
kind_collects s view message moment (statistics.Queue port queue) read asks = refl

-- ---- which item begins

starting : (dismissing puts : Bool) (number : ℕ) (kind : AskKind) → (dismissing ≡ true → puts ≡ false) → puts ≡ true → asks_statistics kind ≡ true → of_message dismissing puts number kind ≡ Start number ∷ []
starting true puts number kind nothing asks is = absurd (true≢false (sym asks ∙ nothing refl))
starting false true number kind nothing asks is = rw is refl
starting false false number kind nothing asks is = absurd (true≢false (sym asks))

pub start_of : (s : Settings) (view : List Item) (message : List ℕ) (moment : ℕ) → IsStatistics s message moment view → collections_given s view (Msg message moment) ≡ Start (next_number s view) ∷ []
start_of s view message moment h =
    starting (is_dismissing message) (is_any (answer_to s view (Msg message moment)).to_switch) (issued (requests_after s view)) (kind_asked (message_read s message))
    (dismissing_asks_nothing s view message moment) h.asks (ap (λ (read : Reading). asks_statistics (kind_asked read)) h.read ∙ kind_collects s view message moment h.request h.read h.asks)
    ∙ ap (λ (n : ℕ). Start n ∷ []) (issued-requests s view)

-- an item that begins a collection is such a message
pub record IsStart (s : Settings) (view : List Item) (item : Item) (number : ℕ) : Type 0 where
  pub message : List ℕ
  pub moment : ℕ
  pub is_message : item ≡ Msg message moment
  pub asks : IsStatistics s message moment view
  pub numbered : number ≡ next_number s view

started : (puts : Bool) (begins : Bool) (number other : ℕ) → (if puts then (if begins then Start number ∷ [] else []) else []) ≡ Start other ∷ [] → (puts ≡ true) × (begins ≡ true) × (other ≡ number)
started true true number other is = (refl, refl, cc)
started true false number other is = cc
started false begins number other is = cc

message_starts : (dismissing puts : Bool) (number : ℕ) (kind : AskKind) (other : ℕ) → of_message dismissing puts number kind ≡ Start other ∷ [] → (puts ≡ true) × (asks_statistics kind ≡ true) × (other ≡ number)
message_starts true puts number kind other is = cc
message_starts false puts number kind other is = started puts (asks_statistics kind) number other is

finished_starts_none : (told : Bool) (found : Option Issued) (number : ℕ) → (if told then finished found else []) ≡ Start number ∷ [] → ⊥
finished_starts_none true None number is = cc
finished_starts_none true (Some request) number is = cc
finished_starts_none false found number is = cc

-- nor does an entry
abbrev is_start : CollectionCall → Bool
is_start (Start number) = true
is_start call = false

entry_is_no_start : (kind : AskKind) (number : ℕ) (entry : List ℕ) → is_start (entry_call kind number entry) ≡ false
entry_is_no_start kinds.FlowMod number entry = refl
entry_is_no_start kinds.PacketOut number entry = refl
entry_is_no_start kinds.Barrier number entry = refl
entry_is_no_start kinds.QueueConfig number entry = refl
entry_is_no_start kinds.Desc number entry = refl
entry_is_no_start kinds.Flow number entry = refl
entry_is_no_start kinds.Aggregate number entry = refl
entry_is_no_start kinds.Port number entry = refl
entry_is_no_start kinds.Queue number entry = refl

entry_starts_none : (b : Bool) (call : CollectionCall) (number : ℕ) → is_start call ≡ false → (if b then call ∷ [] else []) ≡ Start number ∷ [] → ⊥
entry_starts_none true call number isnt is = (let same : call ≡ Start number = cc in true≢false (sym (ap is_start same) ∙ isnt))
entry_starts_none false call number isnt is = cc

kept_starts_none : (found : Option Issued) (kind : ℕ) (entry : List ℕ) (before : List CollectionCall) (number : ℕ) → entry_kept found kind entry before ≡ Start number ∷ [] → ⊥
kept_starts_none None kind entry before number is = cc
kept_starts_none (Some request) kind entry before number is =
    entry_starts_none (collects request kind before) (entry_call request.asked.kind request.number entry) number (entry_is_no_start request.asked.kind request.number entry) is

pub start_from : (s : Settings) (view : List Item) (item : Item) (number : ℕ) → collections_given s view item ≡ Start number ∷ [] → IsStart s view item number
start_from s view Up number is = cc
start_from s view Down number is = cc
start_from s view (Msg message moment) number is =
    let parts = message_starts (is_dismissing message) (is_any (answer_to s view (Msg message moment)).to_switch) (issued (requests_after s view)) (kind_asked (message_read s message)) number is in
    let asked = statistics_read (message_read s message) parts.1 in
    record { message = message; moment = moment; is_message = refl; asks = record { request = asked.0; read = asked.1; asks = parts.0 }; numbered = parts.2 ∙ issued-requests s view }
start_from s view (Fault x class code pair) number is = absurd (finished_starts_none true (request_for s x (requests_after s view)) number is)
start_from s view (Entry x kind entry) number is = absurd (kept_starts_none (request_for s x (requests_after s view)) kind entry (collections_after s view) number is)
start_from s view (Last x kind) number is = absurd (finished_starts_none (is_any (answer_to s view (Last x kind)).to_slice) (request_for s x (requests_after s view)) number is)
start_from s view (Opened features) number is = cc
start_from s view (Lost k) number is = cc
start_from s view (Handed packet) number is = cc
start_from s view (Removed entry) number is = cc
start_from s view (Status status) number is = cc
start_from s view (Barrier x) number is = cc
start_from s view (Queues x body) number is = cc
start_from s view End number is = cc
