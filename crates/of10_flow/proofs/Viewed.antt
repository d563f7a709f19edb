-- What is read of flow-mods and of packet-outs where they lie.
use Rattle.std.proofs.Common.{◌≡◌, ℕ, ◌+◌, ◌<◌, ◌≤◌, ltb, true, List, [], ◌∷◌, length, take, drop, slice_index, Ok, ap, sym, subst, arith}
use Rattle.std.proofs.lemmas.Bool.{ltb-false}
use Rattle.std.specs.Prelude.{is_ok}
use Rattle.std.specs.List.{All}
use Rattle.of10_model.specs.Normal.{number_at}
use Rattle.of10_model.proofs.Results.{ok_is, passed, bind_ok}
use Rattle.of10_model.proofs.Ranges.{bytes-drop, bytes-take, number_at-lt}
use Rattle.of10_model.proofs.Applied.{IsNormal-Norm}
use Rattle.of10_action.specs.declared.action.Action.{Action}
use Rattle.of10_action.specs.declared.fault.WireFault.TheVariants.{Length}
use Rattle.of10_action.specs.Actions.{IsAction, spelling}
use Rattle.of10_action.specs.Reading.{action_at, actions_at, read_all}
use Rattle.of10_flow.specs.declared.flow_mod.FlowMod.{FlowMod}
use Rattle.of10_flow.specs.declared.packet_out.PacketOut.{PacketOut}
use Rattle.of10_flow.specs.FlowMods.{IsRanged, IsFlowMod, flow_mod_with, read_flow_mod}
use Rattle.of10_flow.specs.PacketOuts.{begins_well, read_packet_out}
use Rattle.of10_flow.proofs.Begins.{begins}

-- the fields of a flow-mod of bytes with right actions lie in their ranges
pub IsRanged-with : (actions : List Action) (bytes : List ℕ) → ((k : ℕ) → slice_index bytes k < 256) → All IsAction actions → IsRanged (flow_mod_with actions bytes)
unfolding flow_mod_with
IsRanged-with actions bytes h right = record {
  pattern = IsNormal-Norm (take 40 (drop 8 bytes)) (bytes-take 40 (drop 8 bytes) (bytes-drop bytes 8 h));
  cookie = number_at-lt bytes 48 8 h;
  command = number_at-lt bytes 56 2 h;
  idle = number_at-lt bytes 58 2 h;
  hard = number_at-lt bytes 60 2 h;
  priority = number_at-lt bytes 62 2 h;
  buffer = number_at-lt bytes 64 4 h;
  out_port = number_at-lt bytes 68 2 h;
  flags = number_at-lt bytes 70 2 h;
  actions = right;
}

pub IsFlowMod-with : (actions : List Action) (bytes : List ℕ) → ((k : ℕ) → slice_index bytes k < 256) → All IsAction actions → 72 + length (spelling actions) ≤ 65535 → IsFlowMod (flow_mod_with actions bytes)
unfolding flow_mod_with
IsFlowMod-with actions bytes h right fits = record { xid = number_at-lt bytes 4 4 h; ranged = IsRanged-with actions bytes h right; fits = fits }

-- bytes of which an action is read begin with one
pub some_begins : (bytes : List ℕ) (actions : List Action) → read_all bytes ≡ Ok actions → 1 ≤ length actions → is_ok (action_at bytes) ≡ true
unfolding actions_at
some_begins [] actions e some = absurd (let h : [] ≡ actions = cc in subst (λ (l : List Action). 1 ≤ length l → ⊥) h (λ le. omega (arith, le)) some)
some_begins (byte ∷ bytes) actions e some = ap is_ok (bind_ok (action_at (byte ∷ bytes)) _ actions e).1

-- a flow-mod with an action has its fields, and the action behind them
pub flow_mod_begins : (bytes : List ℕ) (m : FlowMod) → read_flow_mod bytes ≡ Ok m → 1 ≤ length m.actions → (72 ≤ length bytes) × (is_ok (action_at (drop 72 bytes)) ≡ true)
unfolding read_flow_mod flow_mod_with
flow_mod_begins bytes m e some =
    let long = passed (ltb (length bytes) 72) (Length (length bytes)) _ m e in
    let actions = bind_ok (read_all (drop 72 bytes)) (λ actions. Ok (flow_mod_with actions bytes)) m long.1 in
    let same : actions.0 ≡ m.actions = ap (λ (n : FlowMod). n.actions) (ok_is (flow_mod_with actions.0 bytes) m actions.2) in
    (ltb-false _ _ long.0, some_begins (drop 72 bytes) actions.0 actions.1 (subst (λ (l : List Action). 1 ≤ length l) (sym same) some))

-- a packet-out has its fields and its actions, the first of which is right
pub packet_out_begins : (bytes : List ℕ) (m : PacketOut) → read_packet_out bytes ≡ Ok m → (16 + number_at bytes 14 2 ≤ length bytes) × (begins_well (take (number_at bytes 14 2) (drop 16 bytes)) ≡ true)
unfolding read_packet_out
packet_out_begins bytes m e =
    let size = number_at bytes 14 2 in
    let front = passed (ltb (length bytes) 16) (Length (length bytes)) _ m e in
    let whole = passed (ltb (length bytes) (16 + size)) (Length (length bytes)) _ m front.1 in
    let actions = bind_ok (read_all (take size (drop 16 bytes))) _ m whole.1 in
    (ltb-false _ _ whole.0, begins (take size (drop 16 bytes)) actions.0 actions.1)
