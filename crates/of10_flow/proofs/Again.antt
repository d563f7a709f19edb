-- What is spelled is read again.
use Rattle.std.proofs.Common.{◌≡◌, ◌+◌, ◌<◌, ◌≤◌, ◌^◌, [], length, drop, Ok, refl, sym, ap, ◌∙◌, arith}
use Rattle.std.proofs.lemmas.Bool.{le-ltb}
use Rattle.std.proofs.lemmas.List.{drop-drop, length-append}
use Rattle.std.proofs.Math.Seq.{take-append_seam, drop-append_seam}
use Rattle.byteorder.specs.Numbers.{big_number-reads_back}
use Rattle.of10_model.specs.Normal.{number_at}
use Rattle.of10_model.specs.Spelling.{Spell}
use Rattle.of10_model.proofs.Spelling.{Norm-Spell}
use Rattle.of10_action.specs.Actions.{spelling}
use Rattle.of10_action.proofs.Again.{actions_again}
use Rattle.of10_ctl.specs.declared.kind.TheConstants.{PACKET_IN, FLOW_REMOVED, PACKET_OUT, FLOW_MOD}
use Rattle.of10_ctl.specs.Kinds.{IsOf}
use Rattle.of10_ctl.proofs.Reading.{IsOf-message}
use Rattle.of10_flow.specs.declared.flow_mod.FlowMod.{FlowMod}
use Rattle.of10_flow.specs.declared.flow_removed.FlowRemoved.{FlowRemoved}
use Rattle.of10_flow.specs.declared.packet_in.PacketIn.{PacketIn}
use Rattle.of10_flow.specs.declared.packet_out.PacketOut.{PacketOut}
use Rattle.of10_flow.specs.FlowMods.{IsRanged, IsFlowMod, spell_flow_mod, flow_mod_with, read_flow_mod}
use Rattle.of10_flow.specs.FlowRemoveds.{IsFlowRemoved, spell_flow_removed, read_flow_removed}
use Rattle.of10_flow.specs.PacketIns.{IsPacketIn, spell_packet_in, read_packet_in}
use Rattle.of10_flow.specs.PacketOuts.{IsRangedOut, IsPacketOut, spell_packet_out, read_packet_out}

-- ---- flow-mods

fields_told : (m : FlowMod) → IsRanged m → flow_mod_with m.actions (spell_flow_mod m) ≡ record m { xid = number_at (spell_flow_mod m) 4 4 }
unfolding Spell spell_flow_mod flow_mod_with
fields_told m h =
    rw (
      Norm-Spell m.pattern h.pattern,
      big_number-reads_back 8 m.cookie [] h.cookie,
      big_number-reads_back 2 m.command [] h.command,
      big_number-reads_back 2 m.idle [] h.idle,
      big_number-reads_back 2 m.hard [] h.hard,
      big_number-reads_back 2 m.priority [] h.priority,
      big_number-reads_back 4 m.buffer [] h.buffer,
      big_number-reads_back 2 m.out_port [] h.out_port,
      big_number-reads_back 2 m.flags [] h.flags,
    ) refl

pub flow_mod_of : (m : FlowMod) → IsFlowMod m → IsOf FLOW_MOD (spell_flow_mod m)
unfolding Spell spell_flow_mod
flow_mod_of m h = IsOf-message 14 m.xid (drop 8 (spell_flow_mod m)) (omega arith)

-- of a flow-mod in ranges all fields are read, with the transaction id that the bytes have
pub flow_mod_told : (m : FlowMod) → IsRanged m → read_flow_mod (spell_flow_mod m) ≡ Ok (record m { xid = number_at (spell_flow_mod m) 4 4 })
unfolding Spell spell_flow_mod read_flow_mod
flow_mod_told m h =
    rw (le-ltb (length (spell_flow_mod m)) 72 (omega arith), actions_again m.actions h.actions) (ap (λ (x : FlowMod). Ok x) (fields_told m h))

flow_mod_xid : (m : FlowMod) → m.xid < 2 ^ 32 → number_at (spell_flow_mod m) 4 4 ≡ m.xid
unfolding spell_flow_mod
flow_mod_xid m below = big_number-reads_back 4 m.xid [] below

pub flow_mod_again : (m : FlowMod) → IsFlowMod m → read_flow_mod (spell_flow_mod m) ≡ Ok m
flow_mod_again m h = flow_mod_told m h.ranged ∙ ap (λ xid. Ok (record m { xid = xid })) (flow_mod_xid m h.xid)

-- ---- packet-ins

pub packet_in_of : (m : PacketIn) → IsPacketIn m → IsOf PACKET_IN (spell_packet_in m)
unfolding spell_packet_in
packet_in_of m h = IsOf-message 10 m.xid (drop 8 (spell_packet_in m)) (omega arith)

pub packet_in_again : (m : PacketIn) → IsPacketIn m → read_packet_in (spell_packet_in m) ≡ Ok m
unfolding spell_packet_in read_packet_in
packet_in_again m h =
    rw (
      le-ltb (length (spell_packet_in m)) 18 (omega arith),
      big_number-reads_back 4 m.xid [] h.xid,
      big_number-reads_back 4 m.buffer [] h.buffer,
      big_number-reads_back 2 m.total_len [] h.total_len,
      big_number-reads_back 2 m.in_port [] h.in_port,
      big_number-reads_back 1 m.reason [] h.reason,
    ) refl

-- ---- flow-removed messages

pub flow_removed_of : (m : FlowRemoved) → IsFlowRemoved m → IsOf FLOW_REMOVED (spell_flow_removed m)
unfolding Spell spell_flow_removed
flow_removed_of m h = IsOf-message 11 m.xid (drop 8 (spell_flow_removed m)) (omega arith)

pub flow_removed_again : (m : FlowRemoved) → IsFlowRemoved m → read_flow_removed (spell_flow_removed m) ≡ Ok m
unfolding Spell spell_flow_removed read_flow_removed
flow_removed_again m h =
    rw (
      big_number-reads_back 4 m.xid [] h.xid,
      Norm-Spell m.pattern h.pattern,
      big_number-reads_back 8 m.cookie [] h.cookie,
      big_number-reads_back 2 m.priority [] h.priority,
      big_number-reads_back 1 m.reason [] h.reason,
      big_number-reads_back 4 m.seconds [] h.seconds,
      big_number-reads_back 4 m.nanos [] h.nanos,
      big_number-reads_back 2 m.idle [] h.idle,
      big_number-reads_back 8 m.packets [] h.packets,
      big_number-reads_back 8 m.bytes [] h.bytes,
    ) refl

-- ---- packet-outs

pub packet_out_of : (m : PacketOut) → IsPacketOut m → IsOf PACKET_OUT (spell_packet_out m)
unfolding spell_packet_out
packet_out_of m h = IsOf-message 13 m.xid (drop 8 (spell_packet_out m)) (omega (arith, h.fits, length-append (spelling m.actions) m.payload))

-- of a packet-out in ranges all fields are read, with the transaction id that the bytes have
pub packet_out_told : (m : PacketOut) → IsRangedOut m → length (spell_packet_out m) ≤ 65535 → read_packet_out (spell_packet_out m) ≡ Ok (record m { xid = number_at (spell_packet_out m) 4 4 })
unfolding spell_packet_out read_packet_out
packet_out_told m h small =
    let bytes = spell_packet_out m in
    let actions = spelling m.actions in
    let enough : length bytes ≡ 16 + length actions + length m.payload = omega (arith, length-append actions m.payload) in
    let size : number_at bytes 14 2 ≡ length actions = big_number-reads_back 2 (length actions) [] (omega (arith, small, enough)) in
    let behind : drop (16 + length actions) bytes ≡ m.payload = sym (drop-drop (length actions) 16 bytes) ∙ drop-append_seam actions m.payload in
    rw (
      le-ltb (length bytes) 16 (omega arith),
      size,
      le-ltb (length bytes) (16 + length actions) (omega arith),
      take-append_seam actions m.payload,
      actions_again m.actions h.actions,
      behind,
      big_number-reads_back 4 m.buffer [] h.buffer,
      big_number-reads_back 2 m.in_port [] h.in_port,
    ) refl

packet_out_xid : (m : PacketOut) → m.xid < 2 ^ 32 → number_at (spell_packet_out m) 4 4 ≡ m.xid
unfolding spell_packet_out
packet_out_xid m below = big_number-reads_back 4 m.xid [] below

packet_out_fits : (m : PacketOut) → 16 + length (spelling m.actions) + length m.payload ≤ 65535 → length (spell_packet_out m) ≤ 65535
unfolding spell_packet_out
packet_out_fits m fits = omega (arith, fits, length-append (spelling m.actions) m.payload)

pub packet_out_again : (m : PacketOut) → IsPacketOut m → read_packet_out (spell_packet_out m) ≡ Ok m
packet_out_again m h = packet_out_told m h.ranged (packet_out_fits m h.fits) ∙ ap (λ xid. Ok (record m { xid = xid })) (packet_out_xid m h.xid)
