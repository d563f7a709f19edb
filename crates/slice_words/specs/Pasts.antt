-- Items of a view with what followed from each, and what can follow (this proxy's own rule).
use Rattle.std.specs.Prelude.{ℕ, Bool, true, false, List, [], map, leb, length, Option}
use Rattle.of10_flow.specs.declared.flow_mod.FlowMod.{FlowMod}
use Rattle.of10_flow.specs.declared.packet_out.PacketOut.{PacketOut}
use Rattle.of10_stats.specs.declared.request.StatsRequest.{StatsRequest}
use Rattle.of10_message.specs.declared.queues.QueuesQuestion.{QueuesQuestion}
use Rattle.slice_words.specs.Items.{Item}

-- what the switch is asked for a slice that replies to it: for statistics (OpenFlow 1.0.0, section 5.3.5), that it do all before it first (5.3.7), or for the queues of a port (5.3.4)
pub data Inquiry : Type 0 where
  ForStatistics : StatsRequest → Inquiry
  ForBarrier : Inquiry
  ForQueues : QueuesQuestion → Inquiry

-- a message for the switch: a flow-mod or a packet-out, with the buffered packet of the slice that it names, if it names one, by how many the slice was given before that; or an inquiry under its transaction id
pub data Outgoing : Type 0 where
  Modifies : FlowMod → Option ℕ → Outgoing
  SendsOut : PacketOut → Option ℕ → Outgoing
  Asks : Inquiry → ℕ → Outgoing

-- what follows from an item: messages to the slice, messages for the switch, and whether the connection ends
pub record Answer : Type 0 where
  pub to_slice : List (List ℕ)
  pub to_switch : List Outgoing
  pub dismissed : Bool

-- an item and what followed from it
pub record Past : Type 0 where
  pub item : Item
  pub answer : Answer

-- the items of a view with its answers
abbrev pub view_in : List Past → List Item
view_in past = map (λ p. p.item) past

-- there is one at least
abbrev pub is_any : {A : Type 0} → List A → Bool
is_any xs = leb 1 (length xs)

-- nothing follows
abbrev pub no_answer : Answer
no_answer = record { to_slice = []; to_switch = []; dismissed = false }

-- messages to the slice and nothing else
abbrev pub told : List (List ℕ) → Answer
told messages = record { to_slice = messages; to_switch = []; dismissed = false }

-- the same, and the connection ends
abbrev pub dismissal : List (List ℕ) → Answer
dismissal messages = record { to_slice = messages; to_switch = []; dismissed = true }

-- messages for the switch and nothing else
abbrev pub forwarded : List Outgoing → Answer
forwarded messages = record { to_slice = []; to_switch = messages; dismissed = false }
