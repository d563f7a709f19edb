-- What a slice sees: its settings, and a view, which is a list of items with the newest first. All of this is this proxy's own rule, over the messages of OpenFlow 1.0.0.
use Rattle.std.specs.Prelude.{ℕ, ◌+◌, Bool, true, false, if◌then◌else◌, List, [], ◌∷◌, map, filter_map, Option, Some, None, unwrap_or}
use Rattle.of10_model.specs.declared.pattern.Pattern.{Pattern}
use Rattle.of10_flow.specs.declared.flow_removed.FlowRemoved.{FlowRemoved}
use Rattle.of10_port.specs.declared.features.Features.{Features}
use Rattle.of10_port.specs.declared.status.PortStatus.{PortStatus}
use Rattle.flowspace.specs.declared.slices.Slice.{Slice}
use Rattle.flowspace.specs.declared.rules.Rule.{Rule}
use Rattle.flowspace.specs.declared.swaps.Swap.{Swap}
use Rattle.flowspace.specs.Swaps.{Pairs, pairs_of}
use Rattle.flowspace.specs.Owners.{has_port}
use Rattle.port_turns.specs.Readings.{turn_in, read_turned}
use Rattle.port_view.specs.KnownPorts.{changed_plainly}
use Rattle.rate_bucket.specs.Rates.{latest as greatest}
use Rattle.flowmod_expand.specs.Pieces.{writes_of}
use Rattle.slice_words.specs.Messages.{Reading, is_dismissing, length_set}

-- ---- settings

-- what a slice is on one switch: its slot, its limits, the matches of the rules that it writes there, in rule order, and the pairs of port numbers that are exchanged for it there. Who else writes or reads, and at what priorities, is no part of it
pub record Settings : Type 0 where
  pub slot : ℕ
  pub rate : ℕ
  pub burst : ℕ
  pub quota : ℕ
  pub patterns : List Pattern
  pub swaps : Pairs

-- the settings of the slice at a slot, among the rules of a switch in rule order and the swaps that hold there
abbrev pub settings_of : Slice → ℕ → List Rule → List Swap → Settings
settings_of slice slot rules swaps = record { slot = slot; rate = slice.rate; burst = slice.burst; quota = slice.quota; patterns = writes_of rules slot; swaps = pairs_of swaps slot }

-- a rule by which a slice alone writes a match
abbrev pub lone_rule : ℕ → Pattern → Rule
lone_rule slot m = record { switch = None; priority = 0; pattern = m; writer = Some slot; readers = 0 }

-- a message of the slice's controller with physical port numbers
abbrev pub message_turned : Settings → List ℕ → List ℕ
message_turned s message = turn_in s.swaps message

-- what is read of it. What is quoted of the message and its transaction id are of the message as it came. So is what no number of a port decides: whether the message ends the connection (is_dismissing), which length it sets (length_set), and whether it is a question (is_question)
abbrev pub message_read : Settings → List ℕ → Reading
message_read s message = read_turned s.swaps message

-- the rules of a proxy that serves the slice alone
abbrev pub lone_rules : ℕ → List Pattern → List Rule
lone_rules slot patterns = map (lone_rule slot) patterns

-- those of the slice's settings
abbrev pub own_rules : Settings → List Rule
own_rules s = lone_rules s.slot s.patterns

-- a slice that writes these patterns has a port on its switch
abbrev pub is_own_port : ℕ → List Pattern → ℕ → Bool
is_own_port slot patterns port = has_port (lone_rules slot patterns) slot port

-- ---- items

-- why a slice is given a packet: it may write the packet's header, and the switch may have buffered the packet; it may read the header; or the packet is its own probe
pub data Share : Type 0 where
  Writer : Bool → Share
  Reader : Share
  Probe : Share

-- a packet that the switch hands up (section 5.4.1), without the switch's number for it
pub record Packet : Type 0 where
  pub share : Share
  pub total_len : ℕ
  pub in_port : ℕ
  pub reason : ℕ
  pub payload : List ℕ

-- one thing that a slice sees. What the switch answers names the low 24 bits of a transaction id
pub data Item : Type 0 where
  -- the switch said what it is (section 5.3.1): its known ports are cut to those of the slice, and its tables count as one
  Opened : Features → Item
  -- the slice's controller connected, or its connection ended
  Up : Item
  Down : Item
  -- a message of the controller, and its timestamp
  Msg : List ℕ → ℕ → Item
  -- the switch uses the number of the slice's k-th buffered packet for another packet
  Lost : ℕ → Item
  -- a packet is handed up (section 5.4.1)
  Handed : Packet → Item
  -- an entry of the slice was removed (section 5.4.2); the transaction id counts as 0
  Removed : FlowRemoved → Item
  -- a port of the slice was added, removed or changed (section 5.4.3)
  Status : PortStatus → Item
  -- an error (section 5.4.4) with its class and code, and the match and priority of the flow-mod that it carries
  Fault : ℕ → ℕ → ℕ → Option (Pattern × ℕ) → Item
  -- the reply to a barrier (section 5.3.7), or to a question for a port's queues (section 5.3.4) with its body
  Barrier : ℕ → Item
  Queues : ℕ → List ℕ → Item
  -- an entry of statistics (section 5.3.5) of a type, and the end of a reply
  Entry : ℕ → ℕ → List ℕ → Item
  Last : ℕ → ℕ → Item
  -- the switch's connection ended
  End : Item

-- ---- what a slice sees

-- a view, and beside it the switch's number of each buffered packet in it, newest first. A slice's own state may depend on these, and on nothing else
pub record Sight : Type 0 where
  pub view : List Item
  pub came : List ℕ

-- ---- look-ups in a view

-- an item says that the slice connected, disconnected, or sent a message that ends its connection
abbrev pub is_forgetting : Item → Bool
is_forgetting Up = true
is_forgetting Down = true
is_forgetting (Msg message moment) = is_dismissing message
is_forgetting item = false

-- the slice is up where the last of its ups, downs and dismissing messages is an up
abbrev pub is_up : List Item → Bool
is_up [] = false
is_up (Up ∷ view) = true
is_up (Down ∷ view) = false
is_up (Msg message moment ∷ view) = if is_dismissing message then false else is_up view
is_up (item ∷ view) = is_up view

-- what the controller set last for how much of a packet it wants (section 5.3.2), since the slice last connected, disconnected or sent a dismissing message; 128 where it set nothing since (section 4.1.2)
abbrev pub miss_send_len : List Item → ℕ
miss_send_len [] = 128
miss_send_len (Up ∷ view) = 128
miss_send_len (Down ∷ view) = 128
miss_send_len (Msg message moment ∷ view) = if is_dismissing message then 128 else unwrap_or (length_set message) (miss_send_len view)
miss_send_len (item ∷ view) = miss_send_len view

-- the timestamp of an item that has one: a message of the controller
abbrev pub moment_of : Item → Option ℕ
moment_of (Msg message moment) = Some moment
moment_of item = None

-- the timestamps of the controller's messages
abbrev pub moments : List Item → List ℕ
moments view = filter_map moment_of view

-- the greatest of them
abbrev pub latest_moment : List Item → ℕ
latest_moment view = greatest (moments view)

-- a share of a packet that the slice may use by number
abbrev pub is_buffered : Share → Bool
is_buffered (Writer buffered) = buffered
is_buffered Reader = false
is_buffered Probe = false

-- an item hands up a packet that the slice may use by number
abbrev pub hands_up_buffered : Item → Bool
hands_up_buffered (Handed packet) = is_buffered packet.share
hands_up_buffered item = false

-- how many buffered packets the slice was given
abbrev pub buffered_count : List Item → ℕ
buffered_count [] = 0
buffered_count (item ∷ view) = if hands_up_buffered item then buffered_count view + 1 else buffered_count view

-- what the switch said of itself
abbrev pub features_in : List Item → Option Features
features_in [] = None
features_in (Opened features ∷ view) = Some features
features_in (item ∷ view) = features_in view

-- the ports of the slice: those that the switch reported first, and then each change (sections 5.3.1 and 5.4.3)
abbrev pub known_ports : List Item → List (List ℕ)
known_ports [] = []
known_ports (Opened features ∷ view) = features.ports
known_ports (Status status ∷ view) = changed_plainly status (known_ports view)
known_ports (item ∷ view) = known_ports view
