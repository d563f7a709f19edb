-- The mark of a slice's probe: an LLDP packet that ends in a trailer with the slice's slot (this proxy's own rule).
use Rattle.std.specs.Prelude.{◌≡◌, ℕ, ◌==◌, ◌-◌, if◌then◌else◌, List, [], ◌∷◌, ◌++◌, length, drop, slice_index, Option, Some, None}
use Rattle.std.specs.Str.{bytes_eq}
use Rattle.frame_header.specs.declared.probe.TheConstants.{LLDP}
use Rattle.frame_header.specs.Headers.{dl_type_of, header_of_packet}

-- the last eight bytes of a probe: "FVSL", the slot and three zero bytes
abbrev pub trailer : ℕ → List ℕ
trailer slot = 0x46 ∷ 0x56 ∷ 0x53 ∷ 0x4c ∷ slot ∷ 0 ∷ 0 ∷ 0 ∷ []

-- a packet is a probe of a slot where its type is LLDP, on whichever port it came in, and it ends in that slot's trailer
pub record IsProbe (bytes : List ℕ) (slot : ℕ) : Type 0 where
  pub lldp : (in_port : ℕ) → (header_of_packet in_port bytes).dl_type ≡ LLDP
  pub marked : (front : List ℕ) × (bytes ≡ front ++ trailer slot)

-- the last eight bytes, or all where there are fewer
abbrev pub last_eight : List ℕ → List ℕ
last_eight bytes = drop (length bytes - 8) bytes

-- the slot that a packet's last eight bytes name, where they are the trailer of the slot in them
unfoldable pub trailer_slot : List ℕ → Option ℕ
trailer_slot bytes =
    let last = last_eight bytes in
    if bytes_eq last (trailer (slice_index last 4)) then Some (slice_index last 4) else None

-- the slot of which a packet is a probe
unfoldable pub probe_slot_of : List ℕ → Option ℕ
probe_slot_of bytes = if dl_type_of bytes == LLDP then trailer_slot bytes else None
