-- A probe with the slice's mark behind it is a probe of the slice.
use Rattle.std.proofs.Common.{◌≡◌, inl, inr, refl, sym, ◌∙◌, ℕ, ◌+◌, ◌-◌, ◌==◌, leb, true, eqb-true, List, ◌++◌, length, drop, arith}
use Rattle.std.proofs.lemmas.Bool.{cases_Bool, and_parts, leb-true, le-leb}
use Rattle.std.proofs.lemmas.List.{length-append, drop-append-le}
use Rattle.of10_model.specs.Normal.{number_at}
use Rattle.of10_action.specs.Actions.{padding}
use Rattle.of10_action.proofs.Refused.{number_front}
use Rattle.of10_flow.specs.declared.packet_out.PacketOut.{PacketOut}
use Rattle.of10_flow.specs.declared.protocol.TheConstants.{NO_BUFFER}
use Rattle.frame_header.specs.Links.{typed, tagged_link, link_of, is_snap}
use Rattle.frame_header.specs.Headers.{header_of_packet, dl_type_of}
use Rattle.frame_header.specs.Probes.{trailer, IsProbe}
use Rattle.frame_header.specs.declared.probe.TheConstants.{LLDP}
use Rattle.flow_facts.specs.PacketOuts.{carried_header, is_probe}
use Rattle.slice_words.specs.PacketOuts.{marked}

-- ---- bytes with more behind them

-- the type of LLDP stays
typed_more : (word : ℕ) (bytes more : List ℕ) → (typed word bytes).kind ≡ LLDP → (typed word (bytes ++ more)).kind ≡ LLDP
unfolding typed
typed_more word bytes more is = elim (cases_Bool (leb 0x0600 word)) [
  | inl big ↦ rw big (rw big at is)
  | inr small ↦
      elim (cases_Bool (is_snap bytes)) [
        | inl snap ↦
            let parts = and_parts (leb 8 (length bytes)) (number_at bytes 0 6 == 0xaaaa03000000) snap in
            let long = leb-true 8 (length bytes) parts.0 in
            let longer : leb 8 (length (bytes ++ more)) ≡ true = le-leb 8 (length (bytes ++ more)) (omega (arith, long, length-append bytes more)) in
            let kind : number_at bytes 6 2 ≡ LLDP = rw (small, snap) at is in
            rw (small, longer, number_front bytes more 0 6 (omega (arith, long)), parts.1) (number_front bytes more 6 2 (omega (arith, long)) ∙ kind)
        | inr none ↦ absurd (let clash : 0x05ff ≡ LLDP = rw (small, none) at is in omega (arith, clash))
      ]
]

tagged_more : (bytes more : List ℕ) → (tagged_link bytes).kind ≡ LLDP → (tagged_link (bytes ++ more)).kind ≡ LLDP
unfolding tagged_link
tagged_more bytes more is = elim (cases_Bool (leb 4 (length bytes))) [
  | inl enough ↦
      let four = leb-true 4 (length bytes) enough in
      rw (le-leb 4 (length (bytes ++ more)) (omega (arith, four, length-append bytes more)), number_front bytes more 2 2 (omega (arith, four)), drop-append-le 4 bytes more four)
      (typed_more (number_at bytes 2 2) (drop 4 bytes) more (rw enough at is))
  | inr short ↦ absurd (let clash : 0 ≡ LLDP = rw short at is in omega (arith, clash))
]

type_more : (bytes more : List ℕ) → (link_of bytes).kind ≡ LLDP → (link_of (bytes ++ more)).kind ≡ LLDP
unfolding link_of
type_more bytes more is = elim (cases_Bool (leb 14 (length bytes))) [
  | inr short ↦ absurd (let clash : 0 ≡ LLDP = rw short at is in omega (arith, clash))
  | inl enough ↦
      let long = leb-true 14 (length bytes) enough in
      let longer : leb 14 (length (bytes ++ more)) ≡ true = le-leb 14 (length (bytes ++ more)) (omega (arith, long, length-append bytes more)) in
      let word = number_front bytes more 12 2 (omega (arith, long)) in
      let behind = drop-append-le 14 bytes more long in
      elim (cases_Bool (number_at bytes 12 2 == 0x8100)) [
        | inl tag ↦ rw (longer, word, behind, tag) (tagged_more (drop 14 bytes) more (rw (enough, tag) at is))
        | inr plain ↦ rw (longer, word, behind, plain) (typed_more (number_at bytes 12 2) (drop 14 bytes) more (rw (enough, plain) at is))
      ]
]

-- ---- the mark

type_of_header : (in_port : ℕ) (bytes : List ℕ) → (header_of_packet in_port bytes).dl_type ≡ dl_type_of bytes
unfolding header_of_packet
type_of_header in_port bytes = refl

pub IsProbe-marked : (slot : ℕ) (m : PacketOut) → is_probe m ≡ true → IsProbe (marked slot m.payload) slot
IsProbe-marked slot m is =
    let lldp = eqb-true (carried_header m).dl_type LLDP (and_parts (m.buffer == NO_BUFFER) ((carried_header m).dl_type == LLDP) is).1 in
    let filled = m.payload ++ padding (52 - length m.payload) in
    let kind : dl_type_of (filled ++ trailer slot) ≡ LLDP =
    type_more filled (trailer slot) (type_more m.payload (padding (52 - length m.payload)) (sym (type_of_header m.in_port m.payload) ∙ lldp)) in
    record { lldp = λ in_port. type_of_header in_port (filled ++ trailer slot) ∙ kind; marked = (filled, refl) }
