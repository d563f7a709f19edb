-- What a message of the switch changes in the slices' states (this proxy's own rule).
use Rattle.std.specs.Prelude.{ℕ, ◌≡◌, ◌<◌, ◌^◌, ◌==◌, Bool, true, false, List, [], ◌∷◌, ◌++◌, length, map, filter, slice_get, Option, Some, None}
use Rattle.std.specs.List.{All, list_any}
use Rattle.of10_model.specs.Header.{Header}
use Rattle.of10_flow.specs.declared.packet_in.PacketIn.{PacketIn}
use Rattle.of10_model.specs.declared.pattern.Pattern.{Pattern}
use Rattle.of10_flow.specs.declared.flow_removed.FlowRemoved.{FlowRemoved}
use Rattle.xid_map.specs.declared.asked.AskKind.{AskKind}
use Rattle.xid_map.specs.declared.asked.Issued.{Issued}
use Rattle.xid_map.specs.Collections as collections
use Rattle.stats_filter.specs.Keeping.{entries_in}
use Rattle.flow_book.specs.declared.state.SliceState.{SliceState}
use Rattle.slice_words.specs.Items.{Settings, Sight, Share, Writer, Item, Removed, Fault, Barrier, Queues, Entry, Last, is_buffered, buffered_count}
use Rattle.slice_words.specs.Pasts.{is_any}
use Rattle.slice_words.specs.Statistics.{collects}
use Rattle.slice_words.specs.Buffers.{HeldPacket, held_packets}
use Rattle.slice_words.specs.Alone.{answer_to, number_it_came_with}
use Rattle.slice_words.specs.Calls.{request_for, request_calls, collection_calls}
use Rattle.slice_words.specs.Standing.{SliceStands, past_of}
use Rattle.desk_words.specs.Histories.{header_in, seen_with, handed_by, lost_one}
use Rattle.switch_side.specs.declared.change.Change.{Change}
use Rattle.switch_side.specs.declared.change.Change.TheVariants as changes

-- ---- one change

-- an entry of this match and priority was removed
pub record IsRemoval (items : List Item) (pattern : Pattern) (priority : ℕ) : Type 0 where
  pub entry : FlowRemoved
  pub shown : items ≡ Removed entry ∷ []
  pub same_pattern : entry.pattern ≡ pattern
  pub same_priority : entry.priority ≡ priority

-- an error came for the request of this number, and carries this pair, if it carries one
pub record IsFailure (s : Settings) (sight : Sight) (items : List Item) (number : ℕ) (pair : Option (Pattern × ℕ)) : Type 0 where
  pub x : ℕ
  pub class : ℕ
  pub code : ℕ
  pub request : Issued
  pub shown : items ≡ Fault x class code pair ∷ []
  pub found : request_for s x (request_calls s (past_of s sight.view)) ≡ Some request
  pub same_number : request.number ≡ number

-- what the switch replied to a barrier, or to a question for queues, under these bits of a transaction id
abbrev pub is_reply_under : ℕ → Item → Bool
is_reply_under x (Barrier y) = y == x
is_reply_under x (Queues y body) = y == x
is_reply_under x item = false

-- a reply came for the request of this number, and the slice is sent it
pub record IsAnswer (s : Settings) (sight : Sight) (items : List Item) (number : ℕ) : Type 0 where
  pub x : ℕ
  pub item : Item
  pub request : Issued
  pub shown : items ≡ item ∷ []
  pub reply : is_reply_under x item ≡ true
  pub found : request_for s x (request_calls s (past_of s sight.view)) ≡ Some request
  pub same_number : request.number ≡ number
  pub told : is_any (answer_to s sight.view item).to_slice ≡ true

-- the request of this number is found under these bits of a transaction id, and collects statistics of a type
pub record IsGathering (s : Settings) (sight : Sight) (x sent number : ℕ) : Type 0 where
  pub request : Issued
  pub found : request_for s x (request_calls s (past_of s sight.view)) ≡ Some request
  pub same_number : request.number ≡ number
  pub collecting : collects request sent (collection_calls s (past_of s sight.view)) ≡ true

-- entries came, after which more come, for the request of this number and kind; of its type these stand one behind another
pub record IsMore (s : Settings) (sight : Sight) (items : List Item) (number : ℕ) (kind : AskKind) (entries : List ℕ) : Type 0 where
  pub x : ℕ
  pub sent : ℕ
  pub gathering : IsGathering s sight x sent number
  pub same_kind : gathering.request.asked.kind ≡ kind
  pub shown : items ≡ map (Entry x sent) (entries_in sent entries)

-- the last entries came for the request of this number
pub record IsEnd (s : Settings) (sight : Sight) (items : List Item) (number : ℕ) : Type 0 where
  pub x : ℕ
  pub sent : ℕ
  pub entries : List (List ℕ)
  pub gathering : IsGathering s sight x sent number
  pub shown : items ≡ map (Entry x sent) entries ++ Last x sent ∷ []

-- the items of a packet-in: the packet that is lost, if one is, and then a packet with each of these shares
abbrev pub packet_shown : Option ℕ → List Share → PacketIn → List Item
packet_shown lost shares packet = lost_one lost ++ handed_by shares packet

-- a packet is the one that is lost
abbrev pub is_lost : Option ℕ → HeldPacket → Bool
is_lost None packet = false
is_lost (Some k) packet = packet.ordinal == k

-- of the packets that a slice holds the lost one, and no other, came with this number
abbrev pub IsLost : Settings → Sight → ℕ → Option ℕ → Type 0
IsLost s sight physical lost = All (λ packet. (number_it_came_with sight.came packet.ordinal == physical) ≡ is_lost lost packet) (held_packets (past_of s sight.view))

-- the switch keeps another packet under a number, and the slice may not use that one by number
pub record IsLoss (s : Settings) (sight : Sight) (items : List Item) (physical : ℕ) : Type 0 where
  pub lost : Option ℕ
  pub shares : List Share
  pub packet : PacketIn
  pub shown : items ≡ packet_shown lost shares packet
  pub only : IsLost s sight physical lost
  pub none_given : list_any is_buffered shares ≡ false

-- the switch keeps another packet under a number, and the slice may write that one by number; each of the slice's buffered packets so far came with one
pub record IsGift (s : Settings) (sight : Sight) (items : List Item) (physical : ℕ) (header : Header) : Type 0 where
  pub lost : Option ℕ
  pub shares : List Share
  pub packet : PacketIn
  pub shown : items ≡ packet_shown lost (Writer true ∷ shares) packet
  pub only : IsLost s sight physical lost
  pub same_header : header_in packet ≡ header
  pub none_given : list_any is_buffered shares ≡ false
  pub counted : length sight.came ≡ buffered_count sight.view

-- the change that items of an event ask for after what a slice sees, where the event hands up a packet with this number, or without one
abbrev pub IsChangeOfItems : Settings → Option ℕ → Sight → List Item → Change → Type 0
IsChangeOfItems s number sight items (changes.Released pattern priority) = (number ≡ None) × IsRemoval items pattern priority
IsChangeOfItems s number sight items (changes.Failed request pair) = (number ≡ None) × IsFailure s sight items request pair
IsChangeOfItems s number sight items (changes.Replied request) = (number ≡ None) × IsAnswer s sight items request
IsChangeOfItems s number sight items (changes.Collected request kind entries) = (number ≡ None) × IsMore s sight items request kind entries
IsChangeOfItems s number sight items (changes.Finished request) = (number ≡ None) × IsEnd s sight items request
IsChangeOfItems s number sight items (changes.Lost physical) = (number ≡ Some physical) × IsLoss s sight items physical
IsChangeOfItems s number sight items (changes.Given physical header) = (number ≡ Some physical) × IsGift s sight items physical header

-- ---- the changes of one slice

-- of things with slots those of one slot, in order
abbrev pub of_slot : {A : Type 0} → ℕ → List (ℕ × A) → List A
of_slot slot listed = map (λ c. c.1) (filter (λ c. c.0 == slot) listed)

-- what items change after what a slice sees: nothing, so that each state that belonged to it before does so after; or this
abbrev pub SlotChanges : Settings → Option ℕ → Sight → List Item → List Change → Type 0
SlotChanges s number sight items [] = (state : SliceState) → SliceStands s sight state → SliceStands s (seen_with number items sight) state
SlotChanges s number sight items (change ∷ []) = IsChangeOfItems s number sight items change
SlotChanges s number sight items (change ∷ other ∷ others) = ⊥

-- ---- changes that are made

-- a change is made in a state: one that belonged to what a slice saw before belongs to what it sees after
abbrev pub IsMade : Change → SliceState → SliceState → Type 0
IsMade change old new =
    (s : Settings) (number : Option ℕ) (sight : Sight) (items : List Item) → SliceStands s sight old → IsChangeOfItems s number sight items change → SliceStands s (seen_with number items sight) new

-- it is made in the state at a slot, if there is one, and in no other
pub record IsMadeAt (slot : ℕ) (change : Change) (old new : List SliceState) : Type 0 where
  pub count : length new ≡ length old
  pub own : (before after : SliceState) → slice_get old slot ≡ Some before → slice_get new slot ≡ Some after → IsMade change before after
  pub others : (other : ℕ) → (slot == other) ≡ false → slice_get new other ≡ slice_get old other

-- ---- the room for changes

-- a slice's state has room for a change: for one packet more, of which it is given fewer than a desk sees events, and for entries that are collected
abbrev pub StateHasRoom : Change → SliceState → Type 0
StateHasRoom (changes.Given physical header) state = state.buffers.given < 2 ^ 62
StateHasRoom (changes.Collected number kind entries) state = collections.HasRoomToCollect number (length entries) state.collections
StateHasRoom change state = Unit {0}

-- so has the state at a slot, if there is one
abbrev pub StateHasRoomAt : ℕ → Change → List SliceState → Type 0
StateHasRoomAt slot change states = (state : SliceState) → slice_get states slot ≡ Some state → StateHasRoom change state

-- the slots of changes ascend, so that no slot has two, and each state has room for the change at its slot
pub record StatesHaveRoom (listed : List (ℕ × Change)) (states : List SliceState) : Type 0 where
  pub apart : (i j : ℕ) (one other : ℕ × Change) → i < j → slice_get listed i ≡ Some one → slice_get listed j ≡ Some other → one.0 < other.0
  pub rooms : (i : ℕ) (one : ℕ × Change) → slice_get listed i ≡ Some one → StateHasRoomAt one.0 one.1 states

-- a state belongs to what it belonged to
abbrev pub SameState : SliceState → SliceState → Type 0
SameState old new = (s : Settings) (sight : Sight) → SliceStands s sight old → SliceStands s sight new

-- so it is of each state
pub record StandOn (old new : List SliceState) : Type 0 where
  pub count : length new ≡ length old
  pub each : (slot : ℕ) (before after : SliceState) → slice_get old slot ≡ Some before → slice_get new slot ≡ Some after → SameState before after
