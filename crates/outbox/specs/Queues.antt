-- The messages that wait for one connection. All of this is this proxy's own rule.
use Rattle.std.specs.Prelude.{ℕ, ◌≡◌, ◌+◌, ◌≤◌, nat_lt, ◌||◌, Bool, true, false, if◌then◌else◌, List, [], ◌∷◌, ◌++◌, length, drop, sum_by}

-- the messages that wait, the oldest first, and whether one was dropped since the queue was last emptied
pub record Queue : Type 0 where
  pub pending : List (List ℕ)
  pub choked : Bool

-- these messages wait, and none was dropped
abbrev pub waiting : List (List ℕ) → Queue
waiting messages = record { pending = messages; choked = false }

-- the queue that is empty and not choked
abbrev pub no_messages : Queue
no_messages = waiting []

-- how many bytes messages have
abbrev pub size : List (List ℕ) → ℕ
size messages = sum_by length messages

-- one message more. It is dropped where the bytes that wait would pass the limit with it, and so are all that come later
unfoldable pub push : ℕ → Queue → List ℕ → Queue
push limit q message =
    if q.choked || nat_lt limit (size q.pending + length message) then record q { choked = true }
    else record q { pending = q.pending ++ message ∷ [] }

-- messages one after the other
unfoldable pub push_all : ℕ → Queue → List (List ℕ) → Queue
push_all limit q [] = q
push_all limit q (message ∷ later) = push_all limit (push limit q message) later

-- the oldest message is taken
abbrev pub without_first : Queue → Queue
without_first q = record q { pending = drop 1 q.pending }

-- what an outbox keeps: its queue, the bytes that wait, the most that may, and for how many more messages memory was taken
pub record OutboxState : Type 0 where
  pub pending : List (List ℕ)
  pub choked : Bool
  pub bytes : ℕ
  pub limit : ℕ
  pub room : ℕ

-- an outbox with this limit keeps this queue
pub record QueueStands (limit : ℕ) (q : Queue) (kept : OutboxState) : Type 0 where
  pub pending : kept.pending ≡ q.pending
  pub choked : kept.choked ≡ q.choked
  pub bytes : kept.bytes ≡ size q.pending
  pub bound : kept.limit ≡ limit
  pub within : size q.pending ≤ limit
