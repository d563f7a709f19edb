-- The numbers of a slice's own message exchanged where they stand.
use Rattle.std.proofs.Common.{◌≡◌, ℕ, ◌+◌, ◌-◌, ◌≤◌, nat_lt, true, false, List, [], ◌∷◌, ◌++◌, length, take, drop, refl, sym, ap, ◌∙◌, true≢false, arith, Result, Ok, Err}
use Rattle.std.proofs.lemmas.Bool.{lt-ltb}
use Rattle.std.proofs.lemmas.List.{length-take-le, length-drop, take-append-drop, take_all, take_at, drop_at, append-nil}
use Rattle.of10_model.specs.Normal.{number_at}
use Rattle.of10_ctl.proofs.Patched.{with_alike}
use Rattle.of10_stats.specs.declared.request.StatsRequest.{StatsRequest}
use Rattle.of10_stats.specs.declared.request.StatsRequest.TheVariants as asks
use Rattle.of10_message.specs.declared.controller.FromController.{FromController}
use Rattle.of10_message.specs.declared.controller.FromController.TheVariants as said
use Rattle.of10_message.specs.declared.fault.Unread.{Unread}
use Rattle.of10_message.specs.Controller.{read_controller}
use Rattle.flowspace.specs.Swaps.{Pairs}
use Rattle.port_turns.specs.Turns.{written, turn_port, turn_match, turn_list, turn_behind, turn_flow_mod, turn_packet_out}
use Rattle.port_turns.specs.Sent.{turned_part}
use Rattle.port_turns.specs.Readings.{turn_request, turn_by, turn_in}
use Rattle.port_turns.specs.Received.{layout_of_request, layout_of, turn_laid, AreLaid}
use Rattle.port_turns.proofs.Matches.{turn_match_alike}
use Rattle.port_turns.proofs.Parts.{part_is, port_front, match_front}
use Rattle.port_turns.proofs.FlowModTurns.{flow_mod_right}
use Rattle.port_turns.proofs.PacketOutTurns.{packet_out_right}
use Rattle.port_turns.proofs.Asked.{request_laid, queues_laid}
use Rattle.port_turns.proofs.ReadTurned.{packet_out_read, flow_mod_read, request_read, queues_read}

-- ---- a flow-mod: its 72 bytes in front, and its actions

module _ (pairs : Pairs) (bytes : List ℕ) (long : 72 ≤ length bytes) where
  abbrev mod_front : List ℕ
  mod_front = take 72 bytes

  abbrev mod_list : List ℕ
  mod_list = drop 72 bytes

  abbrev mod_matched : List ℕ
  mod_matched = turn_match pairs 8 mod_front

  abbrev mod_turned : List ℕ
  mod_turned = turn_port pairs 68 mod_matched

  -- the match is turned, then the out_port
  abbrev pub mod_fields : List ℕ
  mod_fields = turn_port pairs 68 (turn_match pairs 8 bytes)

  mod_front_long : length mod_front ≡ 72
  mod_front_long = length-take-le 72 bytes long

  mod_matched_long : length mod_matched ≡ 72
  mod_matched_long = let l = mod_front_long in sym (turn_match_alike pairs 8 mod_front (omega (arith, l))).size ∙ mod_front_long

  mod_turned_long : length mod_turned ≡ 72
  mod_turned_long = let l = mod_matched_long in sym (with_alike 68 (written pairs (number_at mod_matched 68 2)) mod_matched (omega (arith, l))).size ∙ mod_matched_long

  mod_list_long : length mod_list ≡ length bytes - 72
  mod_list_long = length-drop 72 bytes

  mod_split : mod_fields ≡ mod_turned ++ mod_list
  mod_split =
      let l = mod_front_long in
      let m = mod_matched_long in
      ap (turn_port pairs 68) (ap (turn_match pairs 8) (sym (take-append-drop 72 bytes)) ∙ match_front pairs mod_front mod_list 8 (omega (arith, l)))
      ∙ port_front pairs mod_matched mod_list 68 (omega (arith, m))

  pub mod_actions : take (length bytes - 72) (drop 72 mod_fields) ≡ mod_list
  mod_actions =
      let l = mod_list_long in
      ap (λ (f : List ℕ). take (length bytes - 72) (drop 72 f)) mod_split
      ∙ ap (λ (f : List ℕ). take (length bytes - 72) f) (drop_at mod_turned mod_list 72 mod_turned_long)
      ∙ take_all (length bytes - 72) mod_list (omega (arith, l))

  pub mod_in_place : turned_part (turn_list pairs) 72 (length bytes - 72) mod_fields ≡ turn_flow_mod pairs bytes
  mod_in_place =
      ap (turned_part (turn_list pairs) 72 (length bytes - 72)) (mod_split ∙ ap (λ (f : List ℕ). mod_turned ++ f) (sym (append-nil mod_list)))
      ∙ part_is (turn_list pairs) 72 (length bytes - 72) mod_turned mod_list [] mod_turned_long mod_list_long
      ∙ ap (λ (f : List ℕ). mod_turned ++ f) (append-nil (turn_list pairs mod_list))

-- ---- a packet-out: its 16 bytes in front, its actions, and the packet

module _ (pairs : Pairs) (bytes : List ℕ) (size : ℕ) (is : size ≡ number_at bytes 14 2) (whole : 16 + number_at bytes 14 2 ≤ length bytes) where
  abbrev out_front : List ℕ
  out_front = take 16 bytes

  abbrev out_list : List ℕ
  out_list = take size (drop 16 bytes)

  abbrev out_rest : List ℕ
  out_rest = drop size (drop 16 bytes)

  abbrev out_turned : List ℕ
  out_turned = turn_port pairs 12 out_front

  out_front_long : length out_front ≡ 16
  out_front_long = length-take-le 16 bytes (omega (arith, whole))

  out_turned_long : length out_turned ≡ 16
  out_turned_long = let l = out_front_long in sym (with_alike 12 (written pairs (number_at out_front 12 2)) out_front (omega (arith, l))).size ∙ out_front_long

  out_list_long : length out_list ≡ 16 + size - 16
  out_list_long = let behind = length-drop 16 bytes in length-take-le size (drop 16 bytes) (omega (arith, behind, whole, is)) ∙ omega arith

  out_split : turn_port pairs 12 bytes ≡ out_turned ++ (out_list ++ out_rest)
  out_split =
      let l = out_front_long in
      ap (turn_port pairs 12) (sym (take-append-drop 16 bytes))
      ∙ port_front pairs out_front (drop 16 bytes) 12 (omega (arith, l))
      ∙ ap (λ (f : List ℕ). out_turned ++ f) (sym (take-append-drop size (drop 16 bytes)))

  pub out_actions : take (16 + size - 16) (drop 16 (turn_port pairs 12 bytes)) ≡ take (number_at bytes 14 2) (drop 16 bytes)
  out_actions =
      ap (λ (f : List ℕ). take (16 + size - 16) (drop 16 f)) out_split
      ∙ ap (λ (f : List ℕ). take (16 + size - 16) f) (drop_at out_turned (out_list ++ out_rest) 16 out_turned_long)
      ∙ take_at out_list out_rest (16 + size - 16) out_list_long
      ∙ ap (λ n. take n (drop 16 bytes)) is

  pub out_in_place : turned_part (turn_list pairs) 16 (16 + size - 16) (turn_port pairs 12 bytes) ≡ turn_packet_out pairs bytes
  out_in_place =
      ap (turned_part (turn_list pairs) 16 (16 + size - 16)) out_split
      ∙ part_is (turn_list pairs) 16 (16 + size - 16) out_turned out_list out_rest out_turned_long out_list_long
      ∙ ap (λ n. out_turned ++ turn_behind pairs n (drop 16 bytes)) is

-- ---- a message by what was read of it

pub laid_by : (bytes : List ℕ) (r : Result FromController Unread) → read_controller bytes ≡ r → AreLaid bytes (layout_of r)
laid_by bytes (Err fault) e = tt
laid_by bytes (Ok (said.PacketOut m)) e = packet_out_right bytes m (packet_out_read bytes m e)
laid_by bytes (Ok (said.FlowMod m)) e = flow_mod_right bytes m (flow_mod_read bytes m e)
laid_by bytes (Ok (said.StatsRequest m)) e = request_laid bytes m (request_read bytes m e)
laid_by bytes (Ok (said.QueueGetConfigRequest m)) e = queues_laid [] bytes m (queues_read bytes m e)
laid_by bytes (Ok said.Hello) e = tt
laid_by bytes (Ok said.Error) e = tt
laid_by bytes (Ok (said.EchoRequest body)) e = tt
laid_by bytes (Ok said.EchoReply) e = tt
laid_by bytes (Ok said.Vendor) e = tt
laid_by bytes (Ok said.FeaturesRequest) e = tt
laid_by bytes (Ok said.GetConfigRequest) e = tt
laid_by bytes (Ok (said.SetConfig config)) e = tt
laid_by bytes (Ok said.PortMod) e = tt
laid_by bytes (Ok said.BarrierRequest) e = tt

request_by : (pairs : Pairs) (request : StatsRequest) (bytes : List ℕ) → turn_laid pairs (layout_of_request request) bytes ≡ turn_request pairs request bytes
request_by pairs (asks.Flow pattern table out_port) bytes = refl
request_by pairs (asks.Aggregate pattern table out_port) bytes = refl
request_by pairs (asks.Port port) bytes = refl
request_by pairs (asks.Queue port queue) bytes = refl
request_by pairs asks.Desc bytes = refl
request_by pairs asks.Table bytes = refl

turned_by : (pairs : Pairs) (r : Result FromController Unread) (bytes : List ℕ) → turn_laid pairs (layout_of r) bytes ≡ turn_by pairs r bytes
turned_by pairs (Err fault) bytes = refl
turned_by pairs (Ok (said.PacketOut m)) bytes = refl
turned_by pairs (Ok (said.FlowMod m)) bytes = refl
turned_by pairs (Ok (said.StatsRequest m)) bytes = request_by pairs m bytes
turned_by pairs (Ok (said.QueueGetConfigRequest m)) bytes = refl
turned_by pairs (Ok said.Hello) bytes = refl
turned_by pairs (Ok said.Error) bytes = refl
turned_by pairs (Ok (said.EchoRequest body)) bytes = refl
turned_by pairs (Ok said.EchoReply) bytes = refl
turned_by pairs (Ok said.Vendor) bytes = refl
turned_by pairs (Ok said.FeaturesRequest) bytes = refl
turned_by pairs (Ok said.GetConfigRequest) bytes = refl
turned_by pairs (Ok (said.SetConfig config)) bytes = refl
turned_by pairs (Ok said.PortMod) bytes = refl
turned_by pairs (Ok said.BarrierRequest) bytes = refl

-- where the slice has swaps, and where it has none
pub in_turned : (pairs : Pairs) (bytes : List ℕ) → nat_lt 0 (length pairs) ≡ true → turn_laid pairs (layout_of (read_controller bytes)) bytes ≡ turn_in pairs bytes
unfolding turn_in
in_turned [] bytes some = absurd (true≢false (sym some))
in_turned (pair ∷ others) bytes some = turned_by (pair ∷ others) (read_controller bytes) bytes

pub in_stays : (pairs : Pairs) (bytes : List ℕ) → nat_lt 0 (length pairs) ≡ false → bytes ≡ turn_in pairs bytes
unfolding turn_in
in_stays [] bytes none = refl
in_stays (pair ∷ others) bytes none = absurd (true≢false (sym (lt-ltb 0 (length (pair ∷ others)) (omega arith)) ∙ none))
