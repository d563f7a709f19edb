-- Whom a packet is for that the switch hands up (this proxy's own rule).
use Rattle.std.specs.Prelude.{ℕ, Bool, false, List, Option, Some, None}
use Rattle.of10_model.specs.Normal.{is_value}
use Rattle.of10_flow.specs.declared.packet_in.PacketIn.{PacketIn}
use Rattle.flowspace.specs.declared.rules.Rule.{Rule}
use Rattle.flowspace.specs.Order.{first_rule}
use Rattle.slice_words.specs.Items.{Share}
use Rattle.desk_words.specs.Histories.{header_in, marked_slot, shares_named, shares_probed}
use Rattle.switch_side.specs.declared.audience.Audience.{Audience}
use Rattle.switch_side.specs.declared.audience.Audience.TheVariants.{Prober, Named}

-- those that a rule names; nobody where there is none
abbrev pub named_by : Option Rule → Audience
named_by None = Named None 0
named_by (Some rule) = Named rule.writer rule.readers

-- among so many slices, the one whose mark the packet bears, or those that the first rule of its header names
abbrev pub audience_of : ℕ → List Rule → PacketIn → Audience
audience_of count rules packet = elim (marked_slot count packet.payload) [ None ↦ named_by (first_rule rules (header_in packet)) | Some slot ↦ Prober slot ]

-- the shares of a packet that the slice at a slot has: as the prober alone, or as the writer and as a reader
abbrev pub shares_in : Audience → PacketIn → ℕ → List Share
shares_in (Prober other) packet slot = shares_probed other slot
shares_in (Named writer readers) packet slot = shares_named writer readers slot packet

-- the slice at a slot may write such packets
abbrev pub writes : Audience → ℕ → Bool
writes (Prober other) slot = false
writes (Named writer readers) slot = is_value slot writer
