-- What events make of one slice: its state and what waits for its controller (this proxy's own rule).
use Rattle.std.specs.Prelude.{ℕ, ◌≡◌, Bool, not, List, [], ◌∷◌, map}
use Rattle.of10_ctl.specs.declared.kind.TheConstants.{HELLO}
use Rattle.of10_ctl.specs.Frames.{message_of}
use Rattle.of10_port.specs.declared.features.Features.{Features}
use Rattle.flowspace.specs.Policies.{SwitchView}
use Rattle.flow_book.specs.declared.state.SliceState.{SliceState}
use Rattle.outbox.specs.Queues.{Queue, no_messages, push_all, OutboxState, QueueStands}
use Rattle.slice_words.specs.Items.{Settings, Sight, Item, Up, Msg}
use Rattle.slice_words.specs.Alone.{answer_to, shown_to, rendered}
use Rattle.slice_words.specs.Standing.{SliceStands}
use Rattle.slice_side.specs.Reactions.{with_item, Sees}
use Rattle.switch_side.specs.Changes.{SameState}

-- an outbox keeps the queue that it kept
abbrev pub SameQueue : OutboxState → OutboxState → Type 0
SameQueue old new = (limit : ℕ) (q : Queue) → QueueStands limit q old → QueueStands limit q new

-- an outbox has these messages more
abbrev pub HasMore : List (List ℕ) → OutboxState → OutboxState → Type 0
HasMore messages old new = (limit : ℕ) (q : Queue) → QueueStands limit q old → QueueStands limit (push_all limit q messages) new

-- an outbox has these messages alone
abbrev pub HasOnly : List (List ℕ) → OutboxState → OutboxState → Type 0
HasOnly messages old new = (limit : ℕ) (q : Queue) → QueueStands limit q old → QueueStands limit (push_all limit no_messages messages) new

-- a state that belonged to what was seen belongs to it with one item more
abbrev pub IsSeen : Item → SliceState → SliceState → Type 0
IsSeen item old new = (s : Settings) (sight : Sight) → SliceStands s sight old → SliceStands s (with_item item sight) new

-- the state stands as it stood, and what waits is what waited
abbrev pub Keeps : SliceState → OutboxState → SliceState → OutboxState → Type 0
Keeps old_state old new_state new = SameState old_state new_state × SameQueue old new

-- the slice's controller connected, and nothing waits but the greeting
abbrev pub Comes : SliceState → OutboxState → SliceState → OutboxState → Type 0
Comes old_state old new_state new = IsSeen Up old_state new_state × HasOnly (message_of HELLO 0 [] ∷ []) old new

-- a message of a slice that is up was answered as follows from what the slice sees
pub record Heard (s : Settings) (sight : Sight) (item : Item) (on : Bool) (old lane : OutboxState) (new_state : SliceState) (new new_lane : OutboxState) : Type 0 where
  pub stands : SliceStands s (with_item item sight) new_state
  pub to_slice : HasMore (shown_to s (answer_to s sight.view item).to_slice) old new
  pub to_switch : HasMore (map (rendered sight.came) (answer_to s sight.view item).to_switch) lane new_lane
  pub goes_on : on ≡ not (answer_to s sight.view item).dismissed

abbrev pub Hears : SwitchView → List (List ℕ) → Features → ℕ → List ℕ → ℕ → Bool → SliceState → OutboxState → OutboxState → SliceState → OutboxState → OutboxState → Type 0
Hears policy known features slot message moment on old_state old lane new_state new new_lane =
    (s : Settings) (sight : Sight) → SliceStands s sight old_state → Sees s sight.view policy known features slot
    → Heard s sight (Msg message moment) on old lane new_state new new_lane
