-- A packet-out whose bytes are turned is read as the packet-out, turned.
use Rattle.std.proofs.Common.{◌≡◌, ℕ, ◌+◌, ◌≤◌, ◌<◌, ◌^◌, nat_lt, true, if◌then◌else◌, List, ◌++◌, map, length, take, drop, refl, sym, ap, ◌∙◌, Ok, Err, arith}
use Rattle.std.specs.Prelude.{is_ok}
use Rattle.std.proofs.lemmas.Bool.{le-ltb, ltb-false}
use Rattle.std.proofs.lemmas.List.{length-append, length-take-le, length-drop, take-take, take_at, drop_at, drop-drop, take-append-le}
use Rattle.of10_model.specs.Normal.{number_at}
use Rattle.of10_model.specs.Results.{◌>>=◌}
use Rattle.of10_model.proofs.Padding.{piece_before, number_before, number_behind}
use Rattle.of10_model.proofs.Results.{ok_is, passed, bind_ok}
use Rattle.of10_action.specs.declared.action.Action.{Action}
use Rattle.of10_action.specs.declared.fault.WireFault.TheVariants.{Length}
use Rattle.of10_action.specs.Reading.{read_all}
use Rattle.of10_flow.specs.declared.packet_out.PacketOut.{PacketOut}
use Rattle.of10_flow.specs.PacketOuts.{read_packet_out}
use Rattle.flowspace.specs.Swaps.{Pairs}
use Rattle.port_turns.specs.Turned.{turned_action, turned_packet_out}
use Rattle.port_turns.specs.Turns.{written, turn_port, turn_list, turn_behind, turn_packet_out}
use Rattle.of10_action.proofs.Refused.{number_front}
use Rattle.of10_ctl.proofs.Patched.{with_alike, with_read}
use Rattle.port_turns.proofs.Patched.{written_small, number_take}
use Rattle.port_turns.proofs.ActionTurns.{turn_actions_length, actions_turned}

-- the fields of a packet-out at their places, with these actions
abbrev packet_out_with : List Action → List ℕ → PacketOut
packet_out_with actions bytes = record {
  xid = number_at bytes 4 4;
  buffer = number_at bytes 8 4;
  in_port = number_at bytes 12 2;
  actions = actions;
  payload = drop (16 + number_at bytes 14 2) bytes;
}

-- what is read of a packet-out has its fields and its list
record IsSplit (bytes : List ℕ) (m : PacketOut) : Type 0 where
  long : 16 ≤ length bytes
  whole : 16 + number_at bytes 14 2 ≤ length bytes
  actions : List Action
  read : read_all (take (number_at bytes 14 2) (drop 16 bytes)) ≡ Ok actions
  fields : packet_out_with actions bytes ≡ m

is_split : (bytes : List ℕ) (m : PacketOut) → read_packet_out bytes ≡ Ok m → IsSplit bytes m
unfolding read_packet_out
is_split bytes m e =
    let size = number_at bytes 14 2 in
    let list_read = read_all (take size (drop 16 bytes)) >>= λ actions. Ok (packet_out_with actions bytes) in
    let one = passed (nat_lt (length bytes) 16) (Length (length bytes)) (if nat_lt (length bytes) (16 + size) then Err (Length (length bytes)) else list_read) m e in
    let two = passed (nat_lt (length bytes) (16 + size)) (Length (length bytes)) list_read m one.1 in
    let list = bind_ok (read_all (take size (drop 16 bytes))) (λ actions. Ok (packet_out_with actions bytes)) m two.1 in
    record { long = ltb-false (length bytes) 16 one.0; whole = ltb-false (length bytes) (16 + size) two.0; actions = list.0; read = list.1; fields = ok_is (packet_out_with list.0 bytes) m list.2 }

read_from : (bytes : List ℕ) (actions : List Action) → 16 ≤ length bytes → 16 + number_at bytes 14 2 ≤ length bytes → read_all (take (number_at bytes 14 2) (drop 16 bytes)) ≡ Ok actions
    → read_packet_out bytes ≡ Ok (packet_out_with actions bytes)
unfolding read_packet_out
read_from bytes actions long whole read = rw (le-ltb (length bytes) 16 long, le-ltb (length bytes) (16 + number_at bytes 14 2) whole, read) refl

-- one that is read has as many bytes as it says, and its actions are right
pub packet_out_right : (bytes : List ℕ) (m : PacketOut) → read_packet_out bytes ≡ Ok m → (16 + number_at bytes 14 2 ≤ length bytes) × (is_ok (read_all (take (number_at bytes 14 2) (drop 16 bytes))) ≡ true)
packet_out_right bytes m e = (let s = is_split bytes m e in (s.whole, ap is_ok s.read))

-- what stands behind the 16 bytes in front
behind_length : (pairs : Pairs) (size : ℕ) (rest : List ℕ) → size ≤ length rest → length (turn_behind pairs size rest) ≡ length rest
behind_length pairs size rest le =
    let list = turn_actions_length pairs (length (take size rest)) (take size rest) in
    let taken = length-take-le size rest le in
    let left = length-drop size rest in
    length-append (turn_list pairs (take size rest)) (drop size rest) ∙ omega (arith, list, taken, left, le)

same_fields : (pairs : Pairs) (list : List Action) (bytes turned : List ℕ) → number_at turned 4 4 ≡ number_at bytes 4 4 → number_at turned 8 4 ≡ number_at bytes 8 4
    → number_at turned 12 2 ≡ written pairs (number_at bytes 12 2) → drop (16 + number_at turned 14 2) turned ≡ drop (16 + number_at bytes 14 2) bytes
    → packet_out_with (map (turned_action (written pairs)) list) turned ≡ turned_packet_out (written pairs) (packet_out_with list bytes)
same_fields pairs list bytes turned xid buffer in_port payload = rw (xid, buffer, in_port, payload) refl

module _ (pairs : Pairs) (bytes : List ℕ) (long : 16 ≤ length bytes) (whole : 16 + number_at bytes 14 2 ≤ length bytes) where
  front_long : length (take 16 bytes) ≡ 16
  front_long = length-take-le 16 bytes long

  out_size : length (turn_packet_out pairs bytes) ≡ length bytes
  out_size =
      let front = with_alike 12 (written pairs (number_at (take 16 bytes) 12 2)) (take 16 bytes) (omega (arith, front_long)) in
      let size = front.size in
      let short = front_long in
      let rest = length-drop 16 bytes in
      let behind = behind_length pairs (number_at bytes 14 2) (drop 16 bytes) (omega (arith, rest, whole)) in
      length-append (turn_port pairs 12 (take 16 bytes)) (turn_behind pairs (number_at bytes 14 2) (drop 16 bytes)) ∙ omega (arith, size, short, rest, behind, long)

  out_head : take 8 (turn_packet_out pairs bytes) ≡ take 8 bytes
  out_head =
      let front = with_alike 12 (written pairs (number_at (take 16 bytes) 12 2)) (take 16 bytes) (omega (arith, front_long)) in
      let size = front.size in
      let short = front_long in
      take-append-le 8 (turn_port pairs 12 (take 16 bytes)) (turn_behind pairs (number_at bytes 14 2) (drop 16 bytes)) (omega (arith, size, short))
      ∙ sym (piece_before 12 14 (take 16 bytes) (turn_port pairs 12 (take 16 bytes)) front 0 8 (omega arith)) ∙ take-take 8 16 bytes (omega arith)

pub packet_out_size : (pairs : Pairs) (bytes : List ℕ) (m : PacketOut) → read_packet_out bytes ≡ Ok m → length (turn_packet_out pairs bytes) ≡ length bytes
packet_out_size pairs bytes m e = (let s = is_split bytes m e in out_size pairs bytes s.long s.whole)

pub packet_out_head : (pairs : Pairs) (bytes : List ℕ) (m : PacketOut) → read_packet_out bytes ≡ Ok m → take 8 (turn_packet_out pairs bytes) ≡ take 8 bytes
packet_out_head pairs bytes m e = (let s = is_split bytes m e in out_head pairs bytes s.long s.whole)

pub packet_out_turned : (pairs : Pairs) (bytes : List ℕ) (m : PacketOut) → read_packet_out bytes ≡ Ok m → read_packet_out (turn_packet_out pairs bytes) ≡ Ok (turned_packet_out (written pairs) m)
packet_out_turned pairs bytes m e =
    let s = is_split bytes m e in
    let size = number_at bytes 14 2 in
    let front = take 16 bytes in
    let rest = drop 16 bytes in
    let short : length front ≡ 16 = length-take-le 16 bytes s.long in
    let long_rest = length-drop 16 bytes in
    let enough = s.whole in
    let le : size ≤ length rest = omega (arith, long_rest, enough) in
    let port = written pairs (number_at front 12 2) in
    let lt : port < 2 ^ 16 = written_small pairs (number_at front 12 2) in
    let alike = with_alike 12 port front (omega (arith, short)) in
    let turned = turn_port pairs 12 front in
    let turned_long : length turned ≡ 16 = sym alike.size ∙ short in
    let list = turn_list pairs (take size rest) in
    let list_long : length list ≡ size = turn_actions_length pairs (length (take size rest)) (take size rest) ∙ length-take-le size rest le in
    let behind = turn_behind pairs size rest in
    let all_turned = turned ++ behind in
    let back : drop 16 all_turned ≡ behind = drop_at turned behind 16 turned_long in
    let size_kept : number_at all_turned 14 2 ≡ size = number_front turned behind 14 2 (omega (arith, turned_long)) ∙ sym (number_behind 12 14 front turned alike 0 2) ∙ number_take 16 bytes 14 2 (omega arith) in
    let list_read : read_all (take (number_at all_turned 14 2) (drop 16 all_turned)) ≡ Ok (map (turned_action (written pairs)) s.actions) =
    ap (λ n. read_all (take n (drop 16 all_turned))) size_kept ∙ ap (λ (l : List ℕ). read_all (take size l)) back ∙ ap read_all (take_at list (drop size rest) size list_long)
    ∙ actions_turned pairs (length (take size rest)) (take size rest) s.actions (omega arith) s.read in
    let payload : drop (16 + number_at all_turned 14 2) all_turned ≡ drop (16 + size) bytes =
    ap (λ n. drop (16 + n) all_turned) size_kept ∙ sym (drop-drop size 16 all_turned) ∙ ap (drop size) back ∙ drop_at list (drop size rest) size list_long ∙ drop-drop size 16 bytes in
    let long = out_size pairs bytes s.long s.whole in
    let begun = s.long in
    read_from all_turned (map (turned_action (written pairs)) s.actions) (omega (arith, long, begun)) (rw size_kept (omega (arith, long, enough))) list_read
    ∙ ap (λ (x : PacketOut). Ok x)
    (same_fields pairs s.actions bytes all_turned
    (number_front turned behind 4 4 (omega (arith, turned_long)) ∙ sym (number_before 12 14 front turned alike 4 4 (omega arith)) ∙ number_take 16 bytes 4 4 (omega arith))
    (number_front turned behind 8 4 (omega (arith, turned_long)) ∙ sym (number_before 12 14 front turned alike 8 4 (omega arith)) ∙ number_take 16 bytes 8 4 (omega arith))
    (number_front turned behind 12 2 (omega (arith, turned_long)) ∙ with_read 12 port front (omega (arith, short)) lt ∙ ap (written pairs) (number_take 16 bytes 12 2 (omega arith)))
    payload
    ∙ ap (turned_packet_out (written pairs)) s.fields)
