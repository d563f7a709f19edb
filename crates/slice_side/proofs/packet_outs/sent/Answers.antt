use Rattle.std.proofs.Common.{Option, option_map, ap, ◌∙◌, refl}
use Rattle.of10_flow.specs.PacketOuts.{spell_packet_out}
use Rattle.buffer_map.specs.declared.held.Held.{Held}
use Rattle.slice_words.specs.Buffers.{HeldPacket}
use Rattle.slice_words.specs.PacketOuts.{sent_out_with, packet_out_size}
use Rattle.slice_side.specs.Reactions.{without_physical, ground_at}
use Rattle.slice_side.specs.Checking.{number_in}
use Rattle.slice_side.proofs.Outs.{out_refused_large, out_not_refused, out_sent, out_used}
use Rattle.slice_side.proofs.Packets.{kept_packet}
use Rattle.slice_side.proofs.packet_outs.sent.Goals as goal

pub returns-then-size-gt-MOST_BYTES : goal.returns-then-size-gt-MOST_BYTES
returns-then-size-gt-MOST_BYTES c quota may =
    let g = (ground_at c.args.around.now.policy.now.rules c.args.around.now.slot c.args.around.now.ports.now quota c.args.xid c.args.around.now.state.now) in
    let packet = ap (option_map without_physical) c.requires ∙ kept_packet c.args.around.now.state.now g c.args.m.now.buffer refl in
    out_refused_large g c.args.m.now c.args.actions c.size.result may
    (c.size.ensures ∙ ap packet_out_size (c.in_ok-out.ensures quota) ∙ ap (λ (q : Option HeldPacket). packet_out_size (sent_out_with q g c.args.m.now c.args.actions)) packet) c.if-size-gt-MOST_BYTES.true

pub returns : goal.returns
returns c quota may =
    let g = (ground_at c.args.around.now.policy.now.rules c.args.around.now.slot c.args.around.now.ports.now quota c.args.xid c.args.around.now.state.now) in
    let packet = ap (option_map without_physical) c.requires ∙ kept_packet c.args.around.now.state.now g c.args.m.now.buffer refl in (
      out_not_refused g c.args.m.now c.args.actions c.size.result may
          (c.size.ensures ∙ ap packet_out_size (c.in_ok-out.ensures quota) ∙ ap (λ (q : Option HeldPacket). packet_out_size (sent_out_with q g c.args.m.now c.args.actions)) packet) c.if-size-gt-MOST_BYTES.false,
      c.in_ok-encode.ensures.value
          ∙ ap spell_packet_out (out_sent g c.args.m.now c.args.around.now.state.now c.args.actions c.in_ok-out.out refl may.1
          (c.in_ok-out.ensures quota ∙ ap (λ (held : Option Held). record (sent_out_with (option_map without_physical held) g c.args.m.now c.args.actions) { buffer = number_in held }) c.requires)),
      c.used.ensures ∙ ap (option_map (λ (held : Held). c.args.m.now.buffer)) c.requires ∙ out_used g c.args.m.now c.args.around.now.state.now refl,
    )
