-- A slice's requests, and which of them are remembered, in words of its view. Views have the newest item first. All of this is this proxy's own rule.
use Rattle.std.specs.Prelude.{ℕ, ◌≡◌, ◌≤◌, ◌+◌, ◌%◌, ◌^◌, ◌==◌, ◌&&◌, ◌||◌, Bool, true, false, if◌then◌else◌, List, [], ◌∷◌, ◌++◌, length, Option}
use Rattle.std.specs.List.{list_any}
use Rattle.xid_map.specs.declared.asked.Issued.{Issued}
use Rattle.slice_words.specs.Messages.{asked_of}
use Rattle.slice_words.specs.Items.{Settings, message_read, Item, Msg, Fault, Barrier, Queues, Last, is_forgetting}
use Rattle.slice_words.specs.Pasts.{Outgoing, Modifies, SendsOut, Asks, is_any}
use Rattle.slice_words.specs.Alone.{answer_to}
use Rattle.slice_words.specs.Calls.{request_calls, request_for}
use Rattle.slice_words.specs.Standing.{past_of}

-- ---- what a request is

-- an item after a view is a request where it is a message that puts something for the switch
abbrev pub is_request : Settings → List Item → Item → Bool
is_request s view (Msg message moment) = is_any (answer_to s view (Msg message moment)).to_switch
is_request s view item = false

-- the requests of a view, newest first
abbrev pub requests_in : Settings → List Item → List Item
requests_in s [] = []
requests_in s (item ∷ view) = if is_request s view item then item ∷ requests_in s view else requests_in s view

-- the number of the request that comes next: how many there are, so that they count from 0, oldest first
abbrev pub next_number : Settings → List Item → ℕ
next_number s view = length (requests_in s view)

-- a message for the switch has this transaction id
abbrev pub IsUnder : ℕ → Outgoing → Type 0
IsUnder xid (Modifies m buffer) = m.xid ≡ xid
IsUnder xid (SendsOut m buffer) = m.xid ≡ xid
IsUnder xid (Asks inquiry under) = under ≡ xid

-- ---- which requests are remembered

-- the request that the answers after a view take for the one of these low 24 bits of a transaction id
abbrev pub remembered_for : Settings → List Item → ℕ → Option Issued
remembered_for s view x = request_for s x (request_calls s (past_of s view))

-- an item is an error under these low 24 bits
abbrev pub is_fault_for : ℕ → Item → Bool
is_fault_for x (Fault other class code pair) = other % 2 ^ 24 == x % 2 ^ 24
is_fault_for x item = false

-- an item under these low 24 bits comes after a view, and the slice is sent something for it
abbrev pub is_told_under : Settings → ℕ → List Item → ℕ → Item → Bool
is_told_under s x view other item = other % 2 ^ 24 == x % 2 ^ 24 && is_any (answer_to s view item).to_slice

-- it is a reply: to a barrier, on queues, or the last part of statistics
abbrev pub is_reply_for : Settings → ℕ → List Item → Item → Bool
is_reply_for s x view (Barrier other) = is_told_under s x view other (Barrier other)
is_reply_for s x view (Queues other body) = is_told_under s x view other (Queues other body)
is_reply_for s x view (Last other kind) = is_told_under s x view other (Last other kind)
is_reply_for s x view item = false

-- one of these items, which come after earlier ones, is such a reply
abbrev pub is_replied : Settings → ℕ → List Item → List Item → Bool
is_replied s x [] earlier = false
is_replied s x (item ∷ later) earlier = is_reply_for s x (later ++ earlier) item || is_replied s x later earlier

-- the request is a message of the view. Its number is how many requests came before it, and has these low 24 bits; no later item forgets, and it is among the last 4,096 requests. What is remembered is what the message asked; that it failed, where a later item is an error under these bits; and that it is done, where the slice was sent a later reply under them
pub record IsRemembered (s : Settings) (view : List Item) (x : ℕ) (request : Issued) : Type 0 where
  pub later : List Item
  pub message : List ℕ
  pub moment : ℕ
  pub earlier : List Item
  pub split : view ≡ later ++ (Msg message moment ∷ earlier)
  pub asks : is_request s earlier (Msg message moment) ≡ true
  pub numbered : request.number ≡ next_number s earlier
  pub low : request.number % 2 ^ 24 ≡ x % 2 ^ 24
  pub not_forgotten : list_any is_forgetting later ≡ false
  pub recent : next_number s view ≤ request.number + 4096
  pub asked : request.asked ≡ asked_of (message_read s message) message
  pub failed : request.failed ≡ list_any (is_fault_for x) later
  pub done : request.done ≡ is_replied s x later (Msg message moment ∷ earlier)
