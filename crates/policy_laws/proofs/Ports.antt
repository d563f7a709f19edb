-- Which port tables are read, and as which swap.
use Rattle.std.proofs.Common.{◌≡◌, ◌↔◌, ℕ, ◌%◌, List, Option, Some, None, Ok, Err, refl, sym, ap, ◌∙◌}
use Rattle.of10_model.specs.Results.{◌>>=◌}
use Rattle.of10_model.proofs.Results.{bind_ok, ok_is}
use Rattle.flowspace.specs.declared.fault.PolicyFault.TheVariants.{UnknownPortSlice}
use Rattle.flowspace.specs.declared.slices.Slice.{Slice}
use Rattle.flowspace.specs.declared.swaps.Swap.{Swap}
use Rattle.flowspace.specs.Slices.{slot_named}
use Rattle.policy_text.specs.declared.fault.ReadFault.{ReadFault}
use Rattle.policy_text.specs.declared.fault.ReadFault.TheVariants.{Refused}
use Rattle.policy_text.specs.Ports.{PortText, port_slot, swap_from}
use Rattle.policy_text.proofs.Sound.{swap_with, swap_from_is}
use Rattle.policy_laws.specs.Ports.{IsSwapOf}

slot_is : (index : ℕ) (o : Option ℕ) (n : ℕ) → port_slot index o ≡ Ok n → (slot : ℕ) × (o ≡ Some slot) × (n ≡ slot % 256)
slot_is index None n e = absurd cc
slot_is index (Some slot) n e = (slot, refl, sym (ok_is (slot % 256) n e))

swap_back : (slices : List Slice) (index : ℕ) (said : PortText) (swap : Swap) → swap_from slices index said ≡ Ok swap → IsSwapOf slices said swap
unfolding swap_from
swap_back slices index said swap e =
    let a = bind_ok (port_slot index (slot_named slices said.slice)) _ swap e in
    let named = slot_is index (slot_named slices said.slice) a.0 a.1 in
    let same : swap ≡ swap_with said a.0 = sym (ok_is (swap_with said a.0) swap a.2) in
    record {
      slot = named.0;
      is_named = named.1;
      slice = ap (λ (w : Swap). w.slice) same ∙ named.2;
      switch = ap (λ (w : Swap). w.switch) same;
      shown = ap (λ (w : Swap). w.shown) same;
      physical = ap (λ (w : Swap). w.physical) same;
    }

swap_same : (said : PortText) (swap : Swap) (n : ℕ) → n ≡ swap.slice → said.switch ≡ swap.switch → said.shown ≡ swap.shown → said.physical ≡ swap.physical → swap_with said n ≡ swap
swap_same said swap n a b c d = rw (a, b, c, d) refl

swap_there : (slices : List Slice) (index : ℕ) (said : PortText) (swap : Swap) → IsSwapOf slices said swap → swap_from slices index said ≡ Ok swap
swap_there slices index said swap h =
    swap_from_is slices index said (h.slot % 256) (ap (port_slot index) h.is_named)
    ∙ ap Ok (swap_same said swap (h.slot % 256) (sym h.slice) (sym h.switch) (sym h.shown) (sym h.physical))

pub swap_is : (slices : List Slice) (index : ℕ) (said : PortText) (swap : Swap) → (swap_from slices index said ≡ Ok swap) ↔ IsSwapOf slices said swap
swap_is slices index said swap = (swap_back slices index said swap, swap_there slices index said swap)

refused_by : (index : ℕ) (said : PortText) (fault : ReadFault) (o : Option ℕ) → ((port_slot index o >>= (λ slot. Ok (swap_with said slot))) ≡ Err fault) ↔ ((o ≡ None) × (fault ≡ Refused (UnknownPortSlice index)))
refused_by index said fault None = (λ e. (refl, cc), λ h. ap Err (sym h.1))
refused_by index said fault (Some slot) = (λ e. absurd cc, λ h. absurd (let none = h.0 in cc))

pub refused_is : (slices : List Slice) (index : ℕ) (said : PortText) (fault : ReadFault) → (swap_from slices index said ≡ Err fault) ↔ ((slot_named slices said.slice ≡ None) × (fault ≡ Refused (UnknownPortSlice index)))
unfolding swap_from
refused_is slices index said fault = refused_by index said fault (slot_named slices said.slice)
