use Rattle.std.proofs.Common.{ℕ, Option, Some, None, ap, ◌∙◌}
use Rattle.of10_model.specs.Header.{Header}
use Rattle.of10_flow.specs.PacketIns.{packet_of}
use Rattle.flowspace.specs.Order.{first_rule}
use Rattle.desk_words.specs.Histories.{header_in}
use Rattle.switch_side.specs.declared.audience.Audience.TheVariants.{Prober}
use Rattle.switch_side.specs.Audiences.{named_by}
use Rattle.switch_side.proofs.Shares.{shares_found}
use Rattle.switch_side.proofs.audience.Audience.of.Goals as goal

pub returns-in-Some-clause-shares : goal.returns-in-Some-clause-shares
returns-in-Some-clause-shares c =
    let packet = packet_of c.args.packet.now in
    let rules = c.args.policy.now.rules in
    shares_found (Prober c.in-Some.slot) c.args.count rules packet (ap (λ (marked : Option ℕ). elim marked [ None ↦ named_by (first_rule rules (header_in packet)) | Some slot ↦ Prober slot ]) c.in-Some.ensures)

pub returns-in-None-clause-shares : goal.returns-in-None-clause-shares
returns-in-None-clause-shares c =
    let packet = packet_of c.args.packet.now in
    let rules = c.args.policy.now.rules in
    shares_found c.named.result c.args.count rules packet
    (c.named.ensures ∙ ap (λ (h : Header). named_by (first_rule rules h)) c.requires.header
    ∙ ap (λ (marked : Option ℕ). elim marked [ None ↦ named_by (first_rule rules (header_in packet)) | Some slot ↦ Prober slot ]) c.in-None.ensures)
