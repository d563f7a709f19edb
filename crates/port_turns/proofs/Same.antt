-- What stands for itself stays: what is read of a message, where each number is exchanged for itself.
use Rattle.std.proofs.Common.{◌≡◌, ℕ, nat_lt, false, List, [], ◌∷◌, length, map, refl, sym, ap, ◌∙◌, true≢false, arith, Option, Some, None, Result, Ok, Err}
use Rattle.std.specs.Prelude.{option_map}
use Rattle.std.proofs.lemmas.Bool.{lt-ltb}
use Rattle.of10_model.specs.declared.pattern.Pattern.{Pattern}
use Rattle.of10_action.specs.declared.action.Action.{Action}
use Rattle.of10_action.specs.declared.action.Action.TheVariants as does
use Rattle.of10_message.specs.declared.queues.QueuesQuestion.{QueuesQuestion}
use Rattle.of10_flow.specs.declared.flow_mod.FlowMod.{FlowMod}
use Rattle.of10_flow.specs.declared.packet_out.PacketOut.{PacketOut}
use Rattle.of10_stats.specs.declared.request.StatsRequest.{StatsRequest}
use Rattle.of10_stats.specs.declared.request.StatsRequest.TheVariants.{Desc, Flow, Aggregate, Table, Port, Queue}
use Rattle.of10_message.specs.declared.controller.FromController.{FromController}
use Rattle.of10_message.specs.declared.controller.FromController.TheVariants as said
use Rattle.of10_message.specs.declared.fault.Unread.{Unread}
use Rattle.of10_message.specs.Controller.{read_controller}
use Rattle.flowspace.specs.declared.swaps.Swap.{Swap}
use Rattle.flowspace.specs.Swaps.{Pairs, pairs_of}
use Rattle.port_turns.specs.Turned.{exchanged, turned_pattern, turned_action, turned_flow_mod, turned_packet_out}
use Rattle.port_turns.specs.Readings.{turned_request, turned_queues, turned_said, turned_read, turn_in, read_turned}
use Rattle.port_turns.proofs.ReadTurned.{turn_in_read}

module _ (exchange : ℕ → ℕ) (same : (port : ℕ) → exchange port ≡ port) where
  same_in_port : (port : Option ℕ) → option_map exchange port ≡ port
  same_in_port None = refl
  same_in_port (Some port) = ap (λ n. Some n) (same port)

  same_pattern : (m : Pattern) → turned_pattern exchange m ≡ m
  same_pattern m = ap (λ (port : Option ℕ). record m { in_port = port }) (same_in_port m.in_port)

  same_action : (action : Action) → turned_action exchange action ≡ action
  same_action (does.Output port max_len) = ap (λ n. does.Output n max_len) (same port)
  same_action (does.Enqueue port queue) = ap (λ n. does.Enqueue n queue) (same port)
  same_action does.StripVlan = refl
  same_action (does.SetVlanVid n) = refl
  same_action (does.SetVlanPcp n) = refl
  same_action (does.SetDlSrc n) = refl
  same_action (does.SetDlDst n) = refl
  same_action (does.SetNwSrc n) = refl
  same_action (does.SetNwDst n) = refl
  same_action (does.SetNwTos n) = refl
  same_action (does.SetTpSrc n) = refl
  same_action (does.SetTpDst n) = refl

  same_actions : (actions : List Action) → map (turned_action exchange) actions ≡ actions
  same_actions [] = refl
  same_actions (action ∷ actions) = rw (same_action action, same_actions actions) refl

  pub same_flow_mod : (m : FlowMod) → turned_flow_mod exchange m ≡ m
  same_flow_mod m = rw (same_pattern m.pattern, same m.out_port, same_actions m.actions) refl

  pub same_packet_out : (m : PacketOut) → turned_packet_out exchange m ≡ m
  same_packet_out m = rw (same m.in_port, same_actions m.actions) refl

  pub same_request : (request : StatsRequest) → turned_request exchange request ≡ request
  same_request (Flow pattern table out_port) = rw (same_pattern pattern, same out_port) refl
  same_request (Aggregate pattern table out_port) = rw (same_pattern pattern, same out_port) refl
  same_request (Port port) = ap (λ n. Port n) (same port)
  same_request (Queue port queue) = ap (λ n. Queue n queue) (same port)
  same_request Desc = refl
  same_request Table = refl

  pub same_queues : (queues : QueuesQuestion) → turned_queues exchange queues ≡ queues
  same_queues queues = ap (λ (n : ℕ). record queues { port = n }) (same queues.port)

  same_said : (message : FromController) → turned_said exchange message ≡ message
  same_said (said.PacketOut m) = ap (λ (x : PacketOut). said.PacketOut x) (same_packet_out m)
  same_said (said.FlowMod m) = ap (λ (x : FlowMod). said.FlowMod x) (same_flow_mod m)
  same_said (said.StatsRequest m) = ap (λ (x : StatsRequest). said.StatsRequest x) (same_request m)
  same_said (said.QueueGetConfigRequest m) = ap (λ (x : QueuesQuestion). said.QueueGetConfigRequest x) (same_queues m)
  same_said said.Hello = refl
  same_said said.Error = refl
  same_said (said.EchoRequest body) = refl
  same_said said.EchoReply = refl
  same_said said.Vendor = refl
  same_said said.FeaturesRequest = refl
  same_said said.GetConfigRequest = refl
  same_said (said.SetConfig config) = refl
  same_said said.PortMod = refl
  same_said said.BarrierRequest = refl

  same_read : (read : Result FromController Unread) → turned_read exchange read ≡ read
  same_read (Err fault) = refl
  same_read (Ok message) = ap (λ (x : FromController). Ok x) (same_said message)

-- where no swap holds on the switch, each number stands for itself
pub none_named : (swaps : List Swap) (slot : ℕ) → nat_lt 0 (length swaps) ≡ false → (port : ℕ) → exchanged (pairs_of swaps slot) port ≡ port
none_named [] slot none port = refl
none_named (swap ∷ swaps) slot none port = absurd (true≢false (sym (lt-ltb 0 (length (swap ∷ swaps)) (omega arith)) ∙ none))

-- what is read of a message once its port numbers are exchanged is what is read of it, with each number exchanged
pub read_turned_is : (pairs : Pairs) (bytes : List ℕ) → read_turned pairs bytes ≡ turned_read (exchanged pairs) (read_controller bytes)
unfolding turn_in
read_turned_is [] bytes = sym (same_read (exchanged []) (λ port. refl) (read_controller bytes))
read_turned_is (pair ∷ others) bytes = turn_in_read pair others bytes

pub turn_in_none : (bytes : List ℕ) → turn_in [] bytes ≡ bytes
unfolding turn_in
turn_in_none bytes = refl
