-- The audience of a packet has for each slice the shares of it that the rules say.
use Rattle.std.proofs.Common.{◌≡◌, ℕ, ◌==◌, if◌then◌else◌, List, [], ◌∷◌, ◌++◌, length, Option, Some, None, is_some, option_map, refl, sym, ap, ◌∙◌}
use Rattle.std.specs.Prelude.{option_and_then, unwrap_or}
use Rattle.of10_model.specs.Normal.{is_value, bit}
use Rattle.of10_flow.specs.declared.packet_in.PacketIn.{PacketIn}
use Rattle.flowspace.specs.declared.rules.Rule.{Rule}
use Rattle.flowspace.specs.Order.{first_rule}
use Rattle.flowspace.specs.Policies.{PolicyView}
use Rattle.slice_words.specs.Items.{Writer, Reader, Probe}
use Rattle.desk_words.specs.Histories.{header_in, number_given, marked_slot, shares_of}
use Rattle.switch_side.specs.declared.audience.Audience.{Audience}
use Rattle.switch_side.specs.declared.audience.Audience.TheVariants.{Prober}
use Rattle.switch_side.specs.Audiences.{named_by, audience_of, shares_in}

by_first : (packet : PacketIn) (slot : ℕ) (marked : Option ℕ) (first : Option Rule)
    → shares_in (elim marked [ None ↦ named_by first | Some other ↦ Prober other ]) packet slot
    ≡ elim marked [
      | None ↦ (if is_value slot (option_and_then (λ rule. rule.writer) first) then Writer (is_some (number_given packet)) ∷ [] else [])
          ++ (if bit (unwrap_or (option_map (λ rule. rule.readers) first) 0) slot then Reader ∷ [] else [])
      | Some other ↦ if other == slot then Probe ∷ [] else []
    ]
by_first packet slot None None = refl
by_first packet slot None (Some rule) = refl
by_first packet slot (Some other) first = refl

shares_same : (told : PolicyView) (rules : List Rule) (packet : PacketIn) (slot : ℕ) → shares_in (audience_of (length told.slices) rules packet) packet slot ≡ shares_of told rules slot packet
shares_same told rules packet slot = by_first packet slot (marked_slot (length told.slices) packet.payload) (first_rule rules (header_in packet))

-- what was found to be the audience among so many slices
pub shares_found : (audience : Audience) (count : ℕ) (rules : List Rule) (packet : PacketIn) → audience ≡ audience_of count rules packet
    → (told : PolicyView) → length told.slices ≡ count → (slot : ℕ) → shares_in audience packet slot ≡ shares_of told rules slot packet
shares_found audience count rules packet found told many slot =
    ap (λ (here : Audience). shares_in here packet slot) (found ∙ ap (λ (n : ℕ). audience_of n rules packet) (sym many))
    ∙ shares_same told rules packet slot
