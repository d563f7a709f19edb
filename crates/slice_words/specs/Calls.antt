-- The calls that a view with its answers makes of each part of a slice's state, newest first (this proxy's own rule). Each item is read after the calls of those before it. A connection that comes or ends forgets requests and collections.
use Rattle.std.specs.Prelude.{ℕ, ◌&&◌, Bool, false, if◌then◌else◌, List, [], ◌∷◌, ◌++◌, Option, Some, None, Ok}
use Rattle.of10_model.specs.declared.pattern.Pattern.{Pattern}
use Rattle.of10_flow.specs.declared.protocol.TheConstants.{SEND_FLOW_REM}
use Rattle.of10_flow.specs.Tables.{has_flag}
use Rattle.of10_message.specs.declared.controller.FromController.TheVariants as said
use Rattle.flowmod_expand.specs.Pieces.{pieces_within}
use Rattle.xid_map.specs.declared.asked.Issued.{Issued}
use Rattle.xid_map.specs.Requests.{RequestCall, Issue, MarkError, MarkDone, Forget, issued, found, physical_of}
use Rattle.xid_map.specs.Collections.{CollectionCall, EndAll}
use Rattle.flow_book.specs.Books.{BookCall}
use Rattle.flow_book.specs.Books as books
use Rattle.slice_words.specs.Messages.{Reading, is_dismissing, is_question, kind_asked, asked_of}
use Rattle.slice_words.specs.Items.{Settings, message_read, Item, Up, Down, Msg, Removed, Fault, Barrier, Queues, Entry, Last, is_up, latest_moment}
use Rattle.slice_words.specs.Pasts.{Answer, Past, view_in, is_any}
use Rattle.slice_words.specs.Statistics.{begun, entry_kept, finished}

-- ---- requests

-- the request that is remembered for the low 24 bits of a transaction id, after these calls
abbrev pub request_for : Settings → ℕ → List RequestCall → Option Issued
request_for s x before = found s.slot (physical_of s.slot x) before

-- an error marks the request that it is for
abbrev pub error_marks : Option Issued → List RequestCall
error_marks None = []
error_marks (Some request) = MarkError request.number ∷ []

-- a reply that the slice is sent marks the request that it is for
abbrev pub reply_marks : Answer → Option Issued → List RequestCall
reply_marks answer None = []
reply_marks answer (Some request) = if is_any answer.to_slice then MarkDone request.number ∷ [] else []

-- a message that has something sent to the switch is a request; a connection that comes or ends forgets them; and errors and replies mark the one that they are for
abbrev pub requests_by : Settings → List RequestCall → Item → Answer → List RequestCall
requests_by s before Up answer = Forget ∷ []
requests_by s before Down answer = Forget ∷ []
requests_by s before (Msg message moment) answer =
    if is_dismissing message then Forget ∷ [] else if is_any answer.to_switch then Issue (asked_of (message_read s message) message) ∷ [] else []
requests_by s before (Fault x class code pair) answer = error_marks (request_for s x before)
requests_by s before (Barrier x) answer = reply_marks answer (request_for s x before)
requests_by s before (Queues x body) answer = reply_marks answer (request_for s x before)
requests_by s before (Last x kind) answer = reply_marks answer (request_for s x before)
requests_by s before item answer = []

-- requests that are issued, marked and forgotten
abbrev pub request_calls : Settings → List Past → List RequestCall
request_calls s [] = []
request_calls s (p ∷ past) = requests_by s (request_calls s past) p.item p.answer ++ request_calls s past

-- ---- statistics

-- a request for statistics that is sent on begins to collect; entries are kept for it; an error and the last part of its reply end that, and a connection that comes or ends ends all
abbrev pub collected_by : Settings → List RequestCall → List CollectionCall → Item → Answer → List CollectionCall
collected_by s requests before Up answer = EndAll ∷ []
collected_by s requests before Down answer = EndAll ∷ []
collected_by s requests before (Msg message moment) answer =
    if is_dismissing message then EndAll ∷ [] else if is_any answer.to_switch then begun (issued requests) (kind_asked (message_read s message)) else []
collected_by s requests before (Fault x class code pair) answer = finished (request_for s x requests)
collected_by s requests before (Entry x kind entry) answer = entry_kept (request_for s x requests) kind entry before
collected_by s requests before (Last x kind) answer = if is_any answer.to_slice then finished (request_for s x requests) else []
collected_by s requests before item answer = []

-- statistics that are collected
abbrev pub collection_calls : Settings → List Past → List CollectionCall
collection_calls s [] = []
collection_calls s (p ∷ past) = collected_by s (request_calls s past) (collection_calls s past) p.item p.answer ++ collection_calls s past

-- ---- the rate

-- a message of a slice that is up asks for its share of the rate where it is to be sent on
abbrev pub asks_rate : Item → List Item → Bool
asks_rate (Msg message moment) before = is_up before && is_question message
asks_rate item before = false

-- the timestamps at which the rate was asked for a message: each is the greatest of the slice's timestamps so far
abbrev pub questions : List Past → List ℕ
questions [] = []
questions (p ∷ past) = if asks_rate p.item (view_in past) then latest_moment (p.item ∷ view_in past) ∷ questions past else questions past

-- ---- the book

-- a message that is sent on changes the book where it is a flow-mod, by what the slice may write of its match, piece by piece; it is the request of a number
abbrev pub bookings : Settings → ℕ → Reading → List BookCall
bookings s number (Ok (said.FlowMod m)) = books.Added m.command (pieces_within s.patterns m.pattern) m.priority (has_flag SEND_FLOW_REM m) number ∷ []
bookings s number read = []

-- an error with a pair releases it where the request that it is for booked the pair first
abbrev pub failure : Option Issued → Option (Pattern × ℕ) → List BookCall
failure (Some request) (Some pair) = books.Failed request.number pair.0 pair.1 ∷ []
failure request pair = []

-- a flow-mod that is sent on, an entry that was removed, and an error that carries a pair
abbrev pub booked_by : Settings → List RequestCall → Item → Answer → List BookCall
booked_by s before (Msg message moment) answer = if is_any answer.to_switch then bookings s (issued before) (message_read s message) else []
booked_by s before (Removed entry) answer = books.Removed entry.pattern entry.priority ∷ []
booked_by s before (Fault x class code pair) answer = failure (request_for s x before) pair
booked_by s before item answer = []

-- pairs that are booked and released
abbrev pub book_calls : Settings → List Past → List BookCall
book_calls s [] = []
book_calls s (p ∷ past) = booked_by s (request_calls s past) p.item p.answer ++ book_calls s past
