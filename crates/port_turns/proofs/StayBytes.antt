-- Bytes that are turned are bytes.
use Rattle.std.proofs.Common.{ℕ, zero, suc, ◌+◌, ◌<◌, ◌/◌, ◌%◌, List, [], ◌∷◌, ◌++◌, take, drop, length, Result, Ok, Err, arith}
use Rattle.std.specs.List.{All}
use Rattle.std.proofs.lemmas.List.Elements.{All-nil, All-cons, All-append, All-take, All-drop}
use Rattle.of10_action.specs.declared.fault.WireFault.{WireFault}
use Rattle.byteorder.specs.Endian.{big_bytes}
use Rattle.of10_model.specs.Normal.{number_at, bit}
use Rattle.of10_model.proofs.Results.{either}
use Rattle.of10_action.specs.Reading.{head_at}
use Rattle.of10_stats.specs.declared.request.StatsRequest.{StatsRequest}
use Rattle.of10_stats.specs.declared.request.StatsRequest.TheVariants.{Desc, Flow, Aggregate, Table, Port, Queue}
use Rattle.of10_message.specs.declared.controller.FromController.{FromController}
use Rattle.of10_message.specs.declared.controller.FromController.TheVariants as said
use Rattle.of10_message.specs.declared.fault.Unread.{Unread}
use Rattle.of10_message.specs.Controller.{read_controller}
use Rattle.flowspace.specs.Swaps.{Pairs}
use Rattle.port_turns.specs.Turns.{written, turn_port, turn_match, names_port, turn_first, behind_first, turn_actions, turn_list, turn_flow_mod, turn_packet_out}
use Rattle.port_turns.specs.Readings.{turn_entries, turn_request, turn_by, turn_in}

abbrev Are : List ℕ → Type 0
Are bytes = All (λ byte. byte < 256) bytes

two_bytes : (n : ℕ) → Are (big_bytes 2 n)
two_bytes n = All-cons (λ (byte : ℕ). byte < 256) (n / 256 % 256) (n % 256 ∷ []) (omega arith) (All-cons (λ (byte : ℕ). byte < 256) (n % 256) [] (omega arith) (All-nil (λ (byte : ℕ). byte < 256)))

joined : (front rest : List ℕ) → Are front → Are rest → Are (front ++ rest)
joined front rest one other = All-append (λ (byte : ℕ). byte < 256) front rest one other

front_of : (n : ℕ) (bytes : List ℕ) → Are bytes → Are (take n bytes)
front_of n bytes all = All-take (λ (byte : ℕ). byte < 256) n bytes all

behind : (n : ℕ) (bytes : List ℕ) → Are bytes → Are (drop n bytes)
behind n bytes all = All-drop (λ (byte : ℕ). byte < 256) n bytes all

module _ (pairs : Pairs) where
  port_bytes : (at : ℕ) (bytes : List ℕ) → Are bytes → Are (turn_port pairs at bytes)
  port_bytes at bytes all =
      let n = written pairs (number_at bytes at 2) in
      joined (take at bytes) (big_bytes 2 n ++ drop (at + 2) bytes) (front_of at bytes all) (joined (big_bytes 2 n) (drop (at + 2) bytes) (two_bytes n) (behind (at + 2) bytes all))

  match_bytes : (at : ℕ) (bytes : List ℕ) → Are bytes → Are (turn_match pairs at bytes)
  match_bytes at bytes all = either Are (bit (number_at bytes at 4) 0) bytes (turn_port pairs (at + 4) bytes) all (port_bytes (at + 4) bytes all)

  first_bytes : (found : Result (ℕ × ℕ) WireFault) (bytes : List ℕ) → Are bytes → Are (turn_first pairs found bytes)
  first_bytes (Err fault) bytes all = all
  first_bytes (Ok head) bytes all =
      let own = take head.1 bytes in
      let all_own = front_of head.1 bytes all in
      either Are (names_port head.0) (turn_port pairs 4 own) own (port_bytes 4 own all_own) all_own

  rest_bytes : (found : Result (ℕ × ℕ) WireFault) (bytes : List ℕ) → Are bytes → Are (behind_first found bytes)
  rest_bytes (Err fault) bytes all = All-nil (λ (byte : ℕ). byte < 256)
  rest_bytes (Ok head) bytes all = behind head.1 bytes all

  actions_bytes : (n : ℕ) (bytes : List ℕ) → Are bytes → Are (turn_actions pairs n bytes)
  unfolding turn_actions
  actions_bytes zero bytes all = all
  actions_bytes (suc n) bytes all =
      let rest = behind_first (head_at bytes) bytes in
      joined (turn_first pairs (head_at bytes) bytes) (turn_actions pairs n rest) (first_bytes (head_at bytes) bytes all) (actions_bytes n rest (rest_bytes (head_at bytes) bytes all))

  list_bytes : (bytes : List ℕ) → Are bytes → Are (turn_list pairs bytes)
  list_bytes bytes all = actions_bytes (length bytes) bytes all

  flow_mod_bytes : (bytes : List ℕ) → Are bytes → Are (turn_flow_mod pairs bytes)
  flow_mod_bytes bytes all =
      let front = take 72 bytes in
      joined (turn_port pairs 68 (turn_match pairs 8 front)) (turn_list pairs (drop 72 bytes)) (port_bytes 68 (turn_match pairs 8 front) (match_bytes 8 front (front_of 72 bytes all))) (list_bytes (drop 72 bytes) (behind 72 bytes all))

  packet_out_bytes : (bytes : List ℕ) → Are bytes → Are (turn_packet_out pairs bytes)
  packet_out_bytes bytes all =
      let size = number_at bytes 14 2 in
      let rest = drop 16 bytes in
      let all_rest = behind 16 bytes all in
      joined (turn_port pairs 12 (take 16 bytes)) (turn_list pairs (take size rest) ++ drop size rest) (port_bytes 12 (take 16 bytes) (front_of 16 bytes all))
      (joined (turn_list pairs (take size rest)) (drop size rest) (list_bytes (take size rest) (front_of size rest all_rest)) (behind size rest all_rest))

  entries_bytes : (bytes : List ℕ) → Are bytes → Are (turn_entries pairs bytes)
  entries_bytes bytes all = port_bytes 54 (turn_match pairs 12 bytes) (match_bytes 12 bytes all)

  request_bytes : (request : StatsRequest) (bytes : List ℕ) → Are bytes → Are (turn_request pairs request bytes)
  request_bytes (Flow pattern table out_port) bytes all = entries_bytes bytes all
  request_bytes (Aggregate pattern table out_port) bytes all = entries_bytes bytes all
  request_bytes (Port port) bytes all = port_bytes 12 bytes all
  request_bytes (Queue port queue) bytes all = port_bytes 12 bytes all
  request_bytes Desc bytes all = all
  request_bytes Table bytes all = all

  said_bytes : (r : Result FromController Unread) (bytes : List ℕ) → Are bytes → Are (turn_by pairs r bytes)
  said_bytes (Err fault) bytes all = all
  said_bytes (Ok (said.PacketOut m)) bytes all = packet_out_bytes bytes all
  said_bytes (Ok (said.FlowMod m)) bytes all = flow_mod_bytes bytes all
  said_bytes (Ok (said.StatsRequest m)) bytes all = request_bytes m bytes all
  said_bytes (Ok (said.QueueGetConfigRequest m)) bytes all = port_bytes 8 bytes all
  said_bytes (Ok said.Hello) bytes all = all
  said_bytes (Ok said.Error) bytes all = all
  said_bytes (Ok (said.EchoRequest body)) bytes all = all
  said_bytes (Ok said.EchoReply) bytes all = all
  said_bytes (Ok said.Vendor) bytes all = all
  said_bytes (Ok said.FeaturesRequest) bytes all = all
  said_bytes (Ok said.GetConfigRequest) bytes all = all
  said_bytes (Ok (said.SetConfig config)) bytes all = all
  said_bytes (Ok said.PortMod) bytes all = all
  said_bytes (Ok said.BarrierRequest) bytes all = all

pub turn_in_bytes : (pairs : Pairs) (bytes : List ℕ) → All (λ byte. byte < 256) bytes → All (λ byte. byte < 256) (turn_in pairs bytes)
unfolding turn_in
turn_in_bytes [] bytes all = all
turn_in_bytes (pair ∷ others) bytes all = said_bytes (pair ∷ others) (read_controller bytes) bytes all
