-- A message that is turned is read as what was read, turned.
use Rattle.std.proofs.Common.{◌≡◌, ℕ, List, [], ◌∷◌, length, take, refl, sym, ap, ◌∙◌, Result, Ok, Err}
use Rattle.of10_action.specs.declared.fault.WireFault.{WireFault}
use Rattle.of10_message.specs.declared.queues.QueuesQuestion.{QueuesQuestion}
use Rattle.of10_message.specs.Queues.{read_queues_request}
use Rattle.of10_flow.specs.declared.flow_mod.FlowMod.{FlowMod}
use Rattle.of10_flow.specs.declared.packet_out.PacketOut.{PacketOut}
use Rattle.of10_flow.specs.FlowMods.{read_flow_mod}
use Rattle.of10_flow.specs.PacketOuts.{read_packet_out}
use Rattle.of10_stats.specs.declared.request.StatsRequest.{StatsRequest}
use Rattle.of10_stats.specs.Requests.{read_request}
use Rattle.of10_message.specs.declared.controller.FromController.{FromController}
use Rattle.of10_message.specs.declared.controller.FromController.TheVariants as said
use Rattle.of10_message.specs.declared.fault.Unread.{Unread}
use Rattle.of10_message.specs.Forms.{formed}
use Rattle.of10_message.specs.Controller.{read_controller}
use Rattle.flowspace.specs.Swaps.{Pairs}
use Rattle.port_turns.specs.Turns.{written, turn_port, turn_flow_mod, turn_packet_out}
use Rattle.port_turns.proofs.FlowModTurns.{flow_mod_size, flow_mod_head, flow_mod_turned}
use Rattle.port_turns.proofs.PacketOutTurns.{packet_out_size, packet_out_head, packet_out_turned}
use Rattle.port_turns.specs.Readings.{turn_request, turn_by, turn_in, turned_read}
use Rattle.port_turns.proofs.ByKind.{is_typed, typed_too, same_kind, packet_out_typed, flow_mod_typed, request_typed, queues_typed}
use Rattle.port_turns.proofs.Asked.{request_size, request_head, request_turned, queues_size, queues_head, queues_turned}

-- ---- what each layout read

packet_out_of : (r : Result PacketOut WireFault) (m : PacketOut) → formed said.PacketOut r ≡ Ok (said.PacketOut m) → r ≡ Ok m
packet_out_of (Ok x) m e = cc
packet_out_of (Err fault) m e = absurd cc

flow_mod_of : (r : Result FlowMod WireFault) (m : FlowMod) → formed said.FlowMod r ≡ Ok (said.FlowMod m) → r ≡ Ok m
flow_mod_of (Ok x) m e = cc
flow_mod_of (Err fault) m e = absurd cc

request_of : (r : Result StatsRequest WireFault) (m : StatsRequest) → formed said.StatsRequest r ≡ Ok (said.StatsRequest m) → r ≡ Ok m
request_of (Ok x) m e = cc
request_of (Err fault) m e = absurd cc

queues_of : (r : Result QueuesQuestion WireFault) (m : QueuesQuestion) → formed said.QueueGetConfigRequest r ≡ Ok (said.QueueGetConfigRequest m) → r ≡ Ok m
queues_of (Ok x) m e = cc
queues_of (Err fault) m e = absurd cc

module _ (bytes : List ℕ) where
  pub packet_out_read : (m : PacketOut) → read_controller bytes ≡ Ok (said.PacketOut m) → read_packet_out bytes ≡ Ok m
  packet_out_read m e = (let typed = is_typed bytes (said.PacketOut m) e refl in packet_out_of (read_packet_out bytes) m (sym (packet_out_typed bytes typed.2) ∙ typed.1))

  pub flow_mod_read : (m : FlowMod) → read_controller bytes ≡ Ok (said.FlowMod m) → read_flow_mod bytes ≡ Ok m
  flow_mod_read m e = (let typed = is_typed bytes (said.FlowMod m) e refl in flow_mod_of (read_flow_mod bytes) m (sym (flow_mod_typed bytes typed.2) ∙ typed.1))

  pub request_read : (m : StatsRequest) → read_controller bytes ≡ Ok (said.StatsRequest m) → read_request bytes ≡ Ok m
  request_read m e = (let typed = is_typed bytes (said.StatsRequest m) e refl in request_of (read_request bytes) m (sym (request_typed bytes typed.2) ∙ typed.1))

  pub queues_read : (m : QueuesQuestion) → read_controller bytes ≡ Ok (said.QueueGetConfigRequest m) → read_queues_request bytes ≡ Ok m
  queues_read m e = (let typed = is_typed bytes (said.QueueGetConfigRequest m) e refl in queues_of (read_queues_request bytes) m (sym (queues_typed bytes typed.2) ∙ typed.1))

-- ---- size and head

-- as many bytes, and the same first eight
record IsKept (bytes turned : List ℕ) : Type 0 where
  size : length turned ≡ length bytes
  head : take 8 turned ≡ take 8 bytes

same_kept : (bytes : List ℕ) → IsKept bytes bytes
same_kept bytes = record { size = refl; head = refl }

kept_by : (pairs : Pairs) (bytes : List ℕ) (r : Result FromController Unread) → read_controller bytes ≡ r → IsKept bytes (turn_by pairs r bytes)
kept_by pairs bytes (Err fault) e = same_kept bytes
kept_by pairs bytes (Ok (said.PacketOut m)) e = (let read = packet_out_read bytes m e in record { size = packet_out_size pairs bytes m read; head = packet_out_head pairs bytes m read })
kept_by pairs bytes (Ok (said.FlowMod m)) e = (let read = flow_mod_read bytes m e in record { size = flow_mod_size pairs bytes m read; head = flow_mod_head pairs bytes m read })
kept_by pairs bytes (Ok (said.StatsRequest m)) e = (let read = request_read bytes m e in record { size = request_size pairs bytes m read; head = request_head pairs bytes m read })
kept_by pairs bytes (Ok (said.QueueGetConfigRequest m)) e = (let read = queues_read bytes m e in record { size = queues_size pairs bytes m read; head = queues_head pairs bytes m read })
kept_by pairs bytes (Ok said.Hello) e = same_kept bytes
kept_by pairs bytes (Ok said.Error) e = same_kept bytes
kept_by pairs bytes (Ok (said.EchoRequest body)) e = same_kept bytes
kept_by pairs bytes (Ok said.EchoReply) e = same_kept bytes
kept_by pairs bytes (Ok said.Vendor) e = same_kept bytes
kept_by pairs bytes (Ok said.FeaturesRequest) e = same_kept bytes
kept_by pairs bytes (Ok said.GetConfigRequest) e = same_kept bytes
kept_by pairs bytes (Ok (said.SetConfig config)) e = same_kept bytes
kept_by pairs bytes (Ok said.PortMod) e = same_kept bytes
kept_by pairs bytes (Ok said.BarrierRequest) e = same_kept bytes

pub turn_in_size : (pairs : Pairs) (bytes : List ℕ) → length (turn_in pairs bytes) ≡ length bytes
unfolding turn_in
turn_in_size [] bytes = refl
turn_in_size (pair ∷ others) bytes = (kept_by (pair ∷ others) bytes (read_controller bytes) refl).size

pub turn_in_head : (pairs : Pairs) (bytes : List ℕ) → take 8 (turn_in pairs bytes) ≡ take 8 bytes
unfolding turn_in
turn_in_head [] bytes = refl
turn_in_head (pair ∷ others) bytes = (kept_by (pair ∷ others) bytes (read_controller bytes) refl).head

-- ---- reading

read_by : (pairs : Pairs) (bytes : List ℕ) → (r : Result FromController Unread) → read_controller bytes ≡ r → read_controller (turn_by pairs r bytes) ≡ turned_read (written pairs) r
read_by pairs bytes (Err fault) e = e
read_by pairs bytes (Ok (said.PacketOut m)) e =
    let typed = is_typed bytes (said.PacketOut m) e refl in
    let read = packet_out_read bytes m e in
    let turned = turn_packet_out pairs bytes in
    let head = packet_out_head pairs bytes m read in
    typed_too bytes turned head typed.0 ∙ packet_out_typed turned (same_kind bytes turned head ∙ typed.2) ∙ ap (formed said.PacketOut) (packet_out_turned pairs bytes m read)
read_by pairs bytes (Ok (said.FlowMod m)) e =
    let typed = is_typed bytes (said.FlowMod m) e refl in
    let read = flow_mod_read bytes m e in
    let turned = turn_flow_mod pairs bytes in
    let head = flow_mod_head pairs bytes m read in
    typed_too bytes turned head typed.0 ∙ flow_mod_typed turned (same_kind bytes turned head ∙ typed.2) ∙ ap (formed said.FlowMod) (flow_mod_turned pairs bytes m read)
read_by pairs bytes (Ok (said.StatsRequest m)) e =
    let typed = is_typed bytes (said.StatsRequest m) e refl in
    let read = request_read bytes m e in
    let turned = turn_request pairs m bytes in
    let head = request_head pairs bytes m read in
    typed_too bytes turned head typed.0 ∙ request_typed turned (same_kind bytes turned head ∙ typed.2) ∙ ap (formed said.StatsRequest) (request_turned pairs bytes m read)
read_by pairs bytes (Ok (said.QueueGetConfigRequest m)) e =
    let typed = is_typed bytes (said.QueueGetConfigRequest m) e refl in
    let read = queues_read bytes m e in
    let turned = turn_port pairs 8 bytes in
    let head = queues_head pairs bytes m read in
    typed_too bytes turned head typed.0 ∙ queues_typed turned (same_kind bytes turned head ∙ typed.2) ∙ ap (formed said.QueueGetConfigRequest) (queues_turned pairs bytes m read)
read_by pairs bytes (Ok said.Hello) e = e
read_by pairs bytes (Ok said.Error) e = e
read_by pairs bytes (Ok (said.EchoRequest body)) e = e
read_by pairs bytes (Ok said.EchoReply) e = e
read_by pairs bytes (Ok said.Vendor) e = e
read_by pairs bytes (Ok said.FeaturesRequest) e = e
read_by pairs bytes (Ok said.GetConfigRequest) e = e
read_by pairs bytes (Ok (said.SetConfig config)) e = e
read_by pairs bytes (Ok said.PortMod) e = e
read_by pairs bytes (Ok said.BarrierRequest) e = e

pub turn_in_read : (pair : ℕ × ℕ) (others : Pairs) (bytes : List ℕ) → read_controller (turn_in (pair ∷ others) bytes) ≡ turned_read (written (pair ∷ others)) (read_controller bytes)
unfolding turn_in
turn_in_read pair others bytes = read_by (pair ∷ others) bytes (read_controller bytes) refl
