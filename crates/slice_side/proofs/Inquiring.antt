-- What follows from messages that ask the switch for a reply.
use Rattle.std.proofs.Common.{◌≡◌, ℕ, ◌||◌, Bool, true, false, if◌then◌else◌, List, [], ◌∷◌, length, refl, sym, ap, ◌∙◌, subst, Option, Some, None, option_map, Result, Ok, Err, IfOk}
use Rattle.std.specs.declared.alloc.AllocError.{AllocError}
use Rattle.std.proofs.lemmas.Option.{none-some, same_Some}
use Rattle.of10_stats.specs.declared.request.StatsRequest.{StatsRequest}
use Rattle.of10_stats.specs.declared.request.StatsRequest.TheVariants as statistics
use Rattle.of10_stats.specs.Requests.{spell_request}
use Rattle.of10_message.specs.Heads.{xid_of}
use Rattle.xid_map.specs.declared.asked.Asked.{Asked}
use Rattle.flow_book.specs.declared.booked.Booked.{Booked}
use Rattle.stats_filter.specs.Asking.{asked_as, question_for}
use Rattle.stats_filter.specs.Replies.{table_reply}
use Rattle.of10_message.specs.declared.queues.QueuesQuestion.{QueuesQuestion}
use Rattle.slice_words.specs.Messages.{Reading, asked_of}
use Rattle.slice_words.specs.Items.{Settings, Sight, is_own_port}
use Rattle.slice_words.specs.Pasts.{Inquiry, ForStatistics, Answer, told}
use Rattle.slice_words.specs.FlowMods.{Ground, not_permitted}
use Rattle.slice_words.specs.Questions.{may_ask, asking, statistics_asked, queues_asked}
use Rattle.slice_words.specs.Answers.{refused, statistics_answer, queues_answer}
use Rattle.slice_words.specs.Alone.{spell_inquiry}
use Rattle.slice_side.specs.declared.reaction.Reaction.{Reaction}
use Rattle.slice_side.specs.declared.change.Change.TheVariants.{Inquired}
use Rattle.slice_side.specs.Reactions.{is_inquiry, Follows}
use Rattle.slice_side.proofs.Following.{follows_sent}

-- ---- for which ports a slice may ask

-- that takes no account of the book
pub may_ask_booked : (request : StatsRequest) (g : Ground) (booked : List Booked) → may_ask (record g { booked = booked }) request ≡ may_ask g request
may_ask_booked statistics.Desc g booked = refl
may_ask_booked (statistics.Flow pattern table out_port) g booked = refl
may_ask_booked (statistics.Aggregate pattern table out_port) g booked = refl
may_ask_booked statistics.Table g booked = refl
may_ask_booked (statistics.Port port) g booked = refl
may_ask_booked (statistics.Queue port queue) g booked = refl

-- where a port doesn't name all, the slice may ask for it where it is its own
pub by_port : (all own : Bool) → all ≡ false → (all || own) ≡ own
by_port all own is = ap (λ (b : Bool). b || own) is

-- ---- what is answered

pub statistics_refused : (g : Ground) (request : StatsRequest) (message : List ℕ) → may_ask g request ≡ false → statistics_answer g request message ≡ refused not_permitted message
statistics_refused g request message is = ap (λ (b : Bool). if b then statistics_asked g request message else refused not_permitted message) is

-- by what it is asked as, the slice's table is reported or the question is sent on
abbrev by_asked : Ground → List ℕ → Option StatsRequest → Answer
by_asked g message asked = elim asked [ None ↦ told (table_reply (length g.booked) g.quota (xid_of message) ∷ []) | Some sent ↦ asking g (ForStatistics sent) ]

pub statistics_sent : (g : Ground) (request asked : StatsRequest) (message : List ℕ) → may_ask g request ≡ true → asked_as request ≡ Some asked → statistics_answer g request message ≡ asking g (ForStatistics asked)
statistics_sent g request asked message is sent =
    ap (λ (b : Bool). if b then statistics_asked g request message else refused not_permitted message) is ∙ ap (by_asked g message) sent

-- a question for statistics is spelled of what is asked
pub statistics_spelled : (request : StatsRequest) (xid : ℕ) (question : List ℕ) → question_for request xid ≡ Some question → (asked : StatsRequest) × (asked_as request ≡ Some asked) × (question ≡ spell_inquiry (ForStatistics asked) xid)
statistics_spelled request xid question is = by_sent (asked_as request) refl is
  where
    by_sent : (sent : Option StatsRequest) → asked_as request ≡ sent → option_map (λ asked. spell_request asked xid) sent ≡ Some question
        → (asked : StatsRequest) × (asked_as request ≡ Some asked) × (question ≡ spell_inquiry (ForStatistics asked) xid)
    by_sent None same none = absurd (none-some question none)
    by_sent (Some asked) same some = (asked, same, sym (same_Some (spell_request asked xid) question some))

pub queues_refused : (g : Ground) (queues : QueuesQuestion) (message : List ℕ) → is_own_port g.slot g.patterns queues.port ≡ false → queues_answer g queues message ≡ refused not_permitted message
queues_refused g queues message is = ap (λ (b : Bool). if b then queues_asked g queues else refused not_permitted message) is

pub queues_sent : (g : Ground) (queues : QueuesQuestion) (message : List ℕ) → is_own_port g.slot g.patterns queues.port ≡ true → queues_answer g queues message ≡ queues_asked g queues
queues_sent g queues message is = ap (λ (b : Bool). if b then queues_asked g queues else refused not_permitted message) is

-- ---- reactions

inquiry_follows : (s : Settings) (sight : Sight) (message : List ℕ) (read : Reading) (moment : ℕ) (a : Answer) (g : Ground) (q : Inquiry) (question : List ℕ) (asked : Asked) (r : Reaction) → a ≡ asking g q → question ≡ spell_inquiry q g.xid
    → is_inquiry read ≡ true → asked ≡ asked_of read message → r.to_slice.items ≡ [] → r.to_switch.items ≡ question ∷ [] → r.close ≡ false → r.change ≡ Inquired moment asked → Follows s sight message read a moment r
inquiry_follows s sight message read moment a g q question asked r is spelled inquires same said_so sent close change =
    subst (λ (answer : Answer). Follows s sight message read answer moment r) (sym is)
    (follows_sent s sight message read (asking g q) moment r (Inquired moment asked) (spell_inquiry q g.xid ∷ []) said_so (sent ∙ ap (λ (bytes : List ℕ). bytes ∷ []) spelled) refl close change
    (record { inquires = inquires; sent = refl; same_asked = same; same_moment = refl; uses = λ k d within. refl }))

-- the same of what a call answers
pub inquiry_result : (result : Result Reaction AllocError) (s : Settings) (sight : Sight) (message : List ℕ) (read : Reading) (moment : ℕ) (a : Answer) (g : Ground) (q : Inquiry) (question : List ℕ) (asked : Asked) → a ≡ asking g q → question ≡ spell_inquiry q g.xid
    → is_inquiry read ≡ true → asked ≡ asked_of read message
    → IfOk result (λ r. r.to_slice.items ≡ []) → IfOk result (λ r. r.to_switch.items ≡ question ∷ []) → IfOk result (λ r. r.close ≡ false) → IfOk result (λ r. r.change ≡ Inquired moment asked)
    → IfOk result (Follows s sight message read a moment)
inquiry_result (Ok r) s sight message read moment a g q question asked is spelled inquires same said_so sent close change =
    inquiry_follows s sight message read moment a g q question asked r is spelled inquires same said_so sent close change
inquiry_result (Err e) s sight message read moment a g q question asked is spelled inquires same said_so sent close change = tt
