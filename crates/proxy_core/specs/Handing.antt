-- How messages come into the queues of their slices (this proxy's own rule).
use Rattle.std.specs.Prelude.{ℕ, ◌≡◌, ◌≤◌, List, length, slice_get, Some}
use Rattle.outbox.specs.Queues.{OutboxState}
use Rattle.proxy_core.specs.Slots.{SameQueue, HasMore}
use Rattle.switch_side.specs.Changes.{of_slot}

-- the queue of a slot, if there is one, has room for so many messages more
abbrev pub HasRoomAt : ℕ → ℕ → List OutboxState → Type 0
HasRoomAt slot count queues = (queue : OutboxState) → slice_get queues slot ≡ Some queue → count ≤ queue.room

-- each queue that gets one of these messages has room for so many as there are
abbrev pub HasRoomForAll : List (ℕ × List ℕ) → List OutboxState → Type 0
HasRoomForAll messages queues = (i : ℕ) (pair : ℕ × List ℕ) → slice_get messages i ≡ Some pair → HasRoomAt pair.0 (length messages) queues

-- each queue has room for the messages of its slot
abbrev pub HaveRoom : List (ℕ × List ℕ) → List OutboxState → Type 0
HaveRoom messages queues = (slot : ℕ) → HasRoomAt slot (length (of_slot slot messages)) queues

-- what waits in each queue is what waited there
pub record AreSame (old new : List OutboxState) : Type 0 where
  pub count : length new ≡ length old
  pub each : (slot : ℕ) (a b : OutboxState) → slice_get old slot ≡ Some a → slice_get new slot ≡ Some b → SameQueue a b

-- each queue has the messages of its slot more
pub record AreHanded (messages : List (ℕ × List ℕ)) (old new : List OutboxState) : Type 0 where
  pub count : length new ≡ length old
  pub each : (slot : ℕ) (a b : OutboxState) → slice_get old slot ≡ Some a → slice_get new slot ≡ Some b → HasMore (of_slot slot messages) a b
