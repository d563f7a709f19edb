-- A flow-mod whose bytes are turned is read as the flow-mod, turned.
use Rattle.std.proofs.Common.{◌≡◌, ℕ, ◌+◌, ◌≤◌, ◌<◌, ◌^◌, nat_lt, true, List, ◌++◌, map, length, take, drop, refl, sym, ap, ◌∙◌, Ok, arith}
use Rattle.std.specs.Prelude.{is_ok}
use Rattle.std.proofs.lemmas.Bool.{le-ltb, ltb-false}
use Rattle.std.proofs.lemmas.List.{length-append, length-take-le, length-drop, take-take, drop_at, drop-take, take-append-le, drop-append-le}
use Rattle.of10_model.specs.Normal.{number_at, match_at, Norm}
use Rattle.of10_model.specs.Results.{◌>>=◌}
use Rattle.of10_model.proofs.Padding.{piece_before, number_before, number_behind}
use Rattle.of10_model.proofs.Results.{ok_is, passed, bind_ok}
use Rattle.of10_action.specs.declared.action.Action.{Action}
use Rattle.of10_action.specs.declared.fault.WireFault.TheVariants.{Length}
use Rattle.of10_action.specs.Reading.{read_all}
use Rattle.of10_flow.specs.declared.flow_mod.FlowMod.{FlowMod}
use Rattle.of10_flow.specs.FlowMods.{flow_mod_with, read_flow_mod}
use Rattle.flowspace.specs.Swaps.{Pairs}
use Rattle.port_turns.specs.Turned.{turned_pattern, turned_action, turned_flow_mod}
use Rattle.port_turns.specs.Turns.{written, turn_port, turn_match, turn_list, turn_flow_mod}
use Rattle.of10_action.proofs.Refused.{number_front}
use Rattle.of10_ctl.proofs.Patched.{with_alike, with_read}
use Rattle.port_turns.proofs.Patched.{written_small, number_take}
use Rattle.port_turns.proofs.Matches.{turn_match_alike, turn_match_read}
use Rattle.port_turns.proofs.ActionTurns.{turn_actions_length, actions_turned}

-- what is read of a flow-mod has its fields and its list
record IsSplit (bytes : List ℕ) (m : FlowMod) : Type 0 where
  long : 72 ≤ length bytes
  actions : List Action
  read : read_all (drop 72 bytes) ≡ Ok actions
  fields : flow_mod_with actions bytes ≡ m

is_split : (bytes : List ℕ) (m : FlowMod) → read_flow_mod bytes ≡ Ok m → IsSplit bytes m
unfolding read_flow_mod
is_split bytes m e =
    let fields = passed (nat_lt (length bytes) 72) (Length (length bytes)) (read_all (drop 72 bytes) >>= λ actions. Ok (flow_mod_with actions bytes)) m e in
    let list = bind_ok (read_all (drop 72 bytes)) (λ actions. Ok (flow_mod_with actions bytes)) m fields.1 in
    record { long = ltb-false (length bytes) 72 fields.0; actions = list.0; read = list.1; fields = ok_is (flow_mod_with list.0 bytes) m list.2 }

-- the reading of bytes that are long enough and whose list is read
read_from : (bytes : List ℕ) (actions : List Action) → 72 ≤ length bytes → read_all (drop 72 bytes) ≡ Ok actions → read_flow_mod bytes ≡ Ok (flow_mod_with actions bytes)
unfolding read_flow_mod
read_from bytes actions long read = rw (le-ltb (length bytes) 72 long, read) refl

-- one that is read is long enough, and its actions are right
pub flow_mod_right : (bytes : List ℕ) (m : FlowMod) → read_flow_mod bytes ≡ Ok m → (72 ≤ length bytes) × (is_ok (read_all (drop 72 bytes)) ≡ true)
flow_mod_right bytes m e = (let s = is_split bytes m e in (s.long, ap is_ok s.read))

-- ---- the 72 bytes in front

-- they are as they were but for the in_port of the match and the out_port
record AreFront (pairs : Pairs) (front turned : List ℕ) : Type 0 where
  size : length turned ≡ 72
  before : (place n : ℕ) → place + n ≤ 12 → number_at turned place n ≡ number_at front place n
  between : (more n : ℕ) → 14 + more + n ≤ 68 → number_at turned (14 + more) n ≡ number_at front (14 + more) n
  end : number_at turned 70 2 ≡ number_at front 70 2
  head : take 8 turned ≡ take 8 front

front_turned : (pairs : Pairs) (front : List ℕ) → length front ≡ 72 → AreFront pairs front (turn_port pairs 68 (turn_match pairs 8 front))
front_turned pairs front long =
    let matched = turn_match pairs 8 front in
    let one = turn_match_alike pairs 8 front (omega (arith, long)) in
    let fits : 68 + 2 ≤ length matched = rw (sym one.size) (omega (arith, long)) in
    let port = written pairs (number_at matched 68 2) in
    let two = with_alike 68 port matched fits in
    record {
      size = sym two.size ∙ sym one.size ∙ long;
      before = λ place n le. sym (number_before 68 70 matched (turn_port pairs 68 matched) two place n (omega (arith, le))) ∙ sym (number_before 12 14 front matched one place n le);
      between = λ more n le. sym (number_before 68 70 matched (turn_port pairs 68 matched) two (14 + more) n le) ∙ sym (number_behind 12 14 front matched one more n);
      end = sym (number_behind 68 70 matched (turn_port pairs 68 matched) two 0 2) ∙ sym (number_behind 12 14 front matched one 56 2);
      head = sym (piece_before 68 70 matched (turn_port pairs 68 matched) two 0 8 (omega arith)) ∙ sym (piece_before 12 14 front matched one 0 8 (omega arith));
    }

-- the match that stands there, and the port
front_match : (pairs : Pairs) (front : List ℕ) → length front ≡ 72
    → match_at (turn_port pairs 68 (turn_match pairs 8 front)) 8 ≡ turned_pattern (written pairs) (match_at front 8)
front_match pairs front long =
    let matched = turn_match pairs 8 front in
    let one = turn_match_alike pairs 8 front (omega (arith, long)) in
    let fits : 68 + 2 ≤ length matched = rw (sym one.size) (omega (arith, long)) in
    let two = with_alike 68 (written pairs (number_at matched 68 2)) matched fits in
    ap Norm (sym (piece_before 68 70 matched (turn_port pairs 68 matched) two 8 40 (omega arith))) ∙ turn_match_read pairs 8 front (omega (arith, long))

front_port : (pairs : Pairs) (front : List ℕ) → length front ≡ 72
    → number_at (turn_port pairs 68 (turn_match pairs 8 front)) 68 2 ≡ written pairs (number_at front 68 2)
front_port pairs front long =
    let matched = turn_match pairs 8 front in
    let one = turn_match_alike pairs 8 front (omega (arith, long)) in
    let fits : 68 + 2 ≤ length matched = rw (sym one.size) (omega (arith, long)) in
    let same : number_at matched 68 2 ≡ number_at front 68 2 = sym (number_behind 12 14 front matched one 54 2) in
    let lt : written pairs (number_at matched 68 2) < 2 ^ 16 = rw same (written_small pairs (number_at front 68 2)) in
    with_read 68 (written pairs (number_at matched 68 2)) matched fits lt ∙ ap (written pairs) same

-- ---- the whole

pub flow_mod_size : (pairs : Pairs) (bytes : List ℕ) (m : FlowMod) → read_flow_mod bytes ≡ Ok m → length (turn_flow_mod pairs bytes) ≡ length bytes
flow_mod_size pairs bytes m e =
    let s = is_split bytes m e in
    let front = front_turned pairs (take 72 bytes) (length-take-le 72 bytes s.long) in
    let list = turn_actions_length pairs (length (drop 72 bytes)) (drop 72 bytes) in
    let rest = length-drop 72 bytes in
    length-append (turn_port pairs 68 (turn_match pairs 8 (take 72 bytes))) (turn_list pairs (drop 72 bytes)) ∙ (let long = s.long in let size = front.size in omega (arith, size, list, rest, long))

pub flow_mod_head : (pairs : Pairs) (bytes : List ℕ) (m : FlowMod) → read_flow_mod bytes ≡ Ok m → take 8 (turn_flow_mod pairs bytes) ≡ take 8 bytes
flow_mod_head pairs bytes m e =
    let s = is_split bytes m e in
    let front = front_turned pairs (take 72 bytes) (length-take-le 72 bytes s.long) in
    take-append-le 8 (turn_port pairs 68 (turn_match pairs 8 (take 72 bytes))) (turn_list pairs (drop 72 bytes)) (rw front.size (omega arith))
    ∙ front.head ∙ take-take 8 72 bytes (omega arith)

same_fields : (pairs : Pairs) (list : List Action) (bytes turned : List ℕ)
    → ((place n : ℕ) → place + n ≤ 12 → number_at turned place n ≡ number_at bytes place n)
    → ((more n : ℕ) → 14 + more + n ≤ 68 → number_at turned (14 + more) n ≡ number_at bytes (14 + more) n)
    → number_at turned 70 2 ≡ number_at bytes 70 2
    → match_at turned 8 ≡ turned_pattern (written pairs) (match_at bytes 8)
    → number_at turned 68 2 ≡ written pairs (number_at bytes 68 2)
    → flow_mod_with (map (turned_action (written pairs)) list) turned ≡ turned_flow_mod (written pairs) (flow_mod_with list bytes)
unfolding flow_mod_with
same_fields pairs list bytes turned before between end pattern out_port =
    rw (
      before 4 4 (omega arith),
      pattern,
      between 34 8 (omega arith),
      between 42 2 (omega arith),
      between 44 2 (omega arith),
      between 46 2 (omega arith),
      between 48 2 (omega arith),
      between 50 4 (omega arith),
      out_port,
      end,
    ) refl

pub flow_mod_turned : (pairs : Pairs) (bytes : List ℕ) (m : FlowMod) → read_flow_mod bytes ≡ Ok m → read_flow_mod (turn_flow_mod pairs bytes) ≡ Ok (turned_flow_mod (written pairs) m)
flow_mod_turned pairs bytes m e =
    let s = is_split bytes m e in
    let front = take 72 bytes in
    let long = length-take-le 72 bytes s.long in
    let turned = turn_port pairs 68 (turn_match pairs 8 front) in
    let behind = turn_list pairs (drop 72 bytes) in
    let are = front_turned pairs front long in
    let size = are.size in
    let whole = turned ++ behind in
    let list : read_all (drop 72 whole) ≡ Ok (map (turned_action (written pairs)) s.actions) =
    ap read_all (drop_at turned behind 72 size)
    ∙ actions_turned pairs (length (drop 72 bytes)) (drop 72 bytes) s.actions (omega arith) s.read in
    let fits : 72 ≤ length whole = (let added = length-append turned behind in omega (arith, added, size)) in
    let pattern : match_at whole 8 ≡ turned_pattern (written pairs) (match_at bytes 8) =
    ap Norm (ap (take 40) (drop-append-le 8 turned behind (omega (arith, size))) ∙ take-append-le 40 (drop 8 turned) behind (let cut = length-drop 8 turned in omega (arith, cut, size)))
    ∙ front_match pairs front long
    ∙ ap (turned_pattern (written pairs)) (ap Norm (ap (take 40) (drop-take 8 64 bytes) ∙ take-take 40 64 (drop 8 bytes) (omega arith))) in
    let fields : flow_mod_with (map (turned_action (written pairs)) s.actions) whole ≡ turned_flow_mod (written pairs) (flow_mod_with s.actions bytes) =
    same_fields pairs s.actions bytes whole
    (λ place n le. number_front turned behind place n (omega (arith, size, le)) ∙ are.before place n le ∙ number_take 72 bytes place n (omega (arith, le)))
    (λ more n le. number_front turned behind (14 + more) n (omega (arith, size, le)) ∙ are.between more n le ∙ number_take 72 bytes (14 + more) n (omega (arith, le)))
    (number_front turned behind 70 2 (omega (arith, size)) ∙ are.end ∙ number_take 72 bytes 70 2 (omega arith))
    pattern
    (number_front turned behind 68 2 (omega (arith, size)) ∙ front_port pairs front long ∙ ap (written pairs) (number_take 72 bytes 68 2 (omega arith))) in
    read_from whole (map (turned_action (written pairs)) s.actions) fits list ∙ ap (λ (x : FlowMod). Ok x) (fields ∙ ap (turned_flow_mod (written pairs)) s.fields)
