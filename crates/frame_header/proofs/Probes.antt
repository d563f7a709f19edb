-- The slot that is read from the last eight bytes is the one slot of whose trailer they are.
use Rattle.std.proofs.Common.{◌≡◌, ◌↔◌, ℕ, ◌-◌, ◌==◌, Bool, true, false, cond, List, ◌++◌, length, take, slice_index, Option, Some, None, refl, sym, ap, ◌∙◌, arith}
use Rattle.std.specs.Str.{bytes_eq}
use Rattle.std.proofs.lemmas.List.{length-append, drop_at, take-append-drop}
use Rattle.std.proofs.lemmas.Option.{same_Some}
use Rattle.std.proofs.lemmas.Bool.{eqb-true}
use Rattle.std.proofs.lemmas.Slice.Eq.{bytes_eq-Decides}
use Rattle.frame_header.specs.declared.probe.TheConstants.{LLDP}
use Rattle.frame_header.specs.Headers.{dl_type_of, header_of_packet}
use Rattle.frame_header.specs.Probes.{IsProbe, trailer, last_eight, trailer_slot, probe_slot_of}

last_eight-trailer : (front : List ℕ) (slot : ℕ) → last_eight (front ++ trailer slot) ≡ trailer slot
last_eight-trailer front slot =
    let n : length (front ++ trailer slot) - 8 ≡ length front = omega (arith, length-append front (trailer slot)) in
    rw n (drop_at front (trailer slot) (length front) refl)

abbrev EndsIn : List ℕ → ℕ → Type 0
EndsIn bytes slot = (front : List ℕ) × (bytes ≡ front ++ trailer slot)

-- a test that was passed
passed : (b : Bool) (o : Option ℕ) (slot : ℕ) → cond b o None ≡ Some slot → (b ≡ true) × (o ≡ Some slot)
passed true o slot e = (refl, e)
passed false o slot e = absurd cc

trailer_slot-EndsIn : (bytes : List ℕ) (slot : ℕ) → trailer_slot bytes ≡ Some slot → EndsIn bytes slot
unfolding trailer_slot
trailer_slot-EndsIn bytes slot e =
    let last : List ℕ = last_eight bytes in
    let a : ℕ = slice_index last 4 in
    let found = passed (bytes_eq last (trailer a)) (Some a) slot e in
    let n : ℕ = length bytes - 8 in
    let here : last ≡ trailer slot = (bytes_eq-Decides last (trailer a)).0 found.0 ∙ ap trailer (same_Some a slot found.1) in
    (take n bytes, sym (take-append-drop n bytes) ∙ ap (λ (t : List ℕ). take n bytes ++ t) here)

EndsIn-trailer_slot : (bytes : List ℕ) (slot : ℕ) → EndsIn bytes slot → trailer_slot bytes ≡ Some slot
unfolding trailer_slot
EndsIn-trailer_slot bytes slot (front, e) =
    let same : bytes_eq (trailer slot) (trailer slot) ≡ true = (bytes_eq-Decides (trailer slot) (trailer slot)).1 refl in
    rw (e, last_eight-trailer front slot, same) refl

-- the type is the header's, on whichever port the packet came in
IsProbe-from : (bytes : List ℕ) (slot : ℕ) → dl_type_of bytes ≡ LLDP → EndsIn bytes slot → IsProbe bytes slot
unfolding header_of_packet
IsProbe-from bytes slot kind marked = record { lldp = λ in_port. kind; marked = marked }

IsProbe-kind : (bytes : List ℕ) (slot : ℕ) → IsProbe bytes slot → dl_type_of bytes ≡ LLDP
unfolding header_of_packet
IsProbe-kind bytes slot p = p.lldp 0

slot-IsProbe : (bytes : List ℕ) (slot : ℕ) → probe_slot_of bytes ≡ Some slot → IsProbe bytes slot
unfolding probe_slot_of
slot-IsProbe bytes slot e =
    let found = passed (dl_type_of bytes == LLDP) (trailer_slot bytes) slot e in
    IsProbe-from bytes slot (eqb-true _ _ found.0) (trailer_slot-EndsIn bytes slot found.1)

IsProbe-slot : (bytes : List ℕ) (slot : ℕ) → IsProbe bytes slot → probe_slot_of bytes ≡ Some slot
unfolding probe_slot_of
IsProbe-slot bytes slot p =
    rw (IsProbe-kind bytes slot p, EndsIn-trailer_slot bytes slot p.marked) refl

-- the slot that the definition computes is exactly the one of which the packet is a probe
pub slot-exactly : (bytes : List ℕ) (slot : ℕ) → probe_slot_of bytes ≡ Some slot ↔ IsProbe bytes slot
slot-exactly bytes slot = (slot-IsProbe bytes slot, IsProbe-slot bytes slot)
