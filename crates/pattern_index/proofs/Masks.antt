-- What the masks of a shape leave of a header is its key.
use Rattle.std.proofs.Common.{◌≡◌, ℕ, ◌-◌, ◌^◌, ◌<◌, ◌&&◌, Bool, true, false, Option, Some, None, refl, ap, ◌∙◌, arith}
use Rattle.std.specs.Int.Bits.{bit_and, and_zero_r}
use Rattle.std.proofs.Math.Nat.{mod-eq_of_lt}
use Rattle.std.proofs.Math.Bool.{and-true}
use Rattle.std.proofs.lemmas.Nat.{and_mask}
use Rattle.std.proofs.lemmas.Nat.Bits.{and_high_mask}
use Rattle.of10_model.specs.Header.{Header, IsHeader}
use Rattle.of10_model.specs.Exact.{exact_of}
use Rattle.pattern_index.specs.declared.shape.Shape.{Shape}
use Rattle.pattern_index.specs.declared.header_shape.Masks.{Masks}
use Rattle.pattern_index.specs.Keys.{given_field, given_prefix, gives, picked, leading_part, key_of}
use Rattle.pattern_index.specs.Masks.{ones, leading_ones, masks_of}

masked : (width : ℕ) (has : Bool) (x : ℕ) → x < 2 ^ width → bit_and x (ones width has) ≡ picked has (Some x)
masked width true x fits = and_mask x width ∙ mod-eq_of_lt fits
masked width false x fits = and_zero_r x

pub masked_address : (bits : Option ℕ) (x : ℕ) → x < 2 ^ 32 → bit_and x (leading_ones bits) ≡ leading_part bits x
masked_address None x fits = and_zero_r x
masked_address (Some bits) x fits = and_high_mask 32 (32 - bits) (omega arith) x fits

-- ---- the key of a header

pub key_masked : (s : Shape) (masks : Masks) (h : Header) → masks ≡ masks_of s → IsHeader h
    → record {
      nw_dst = bit_and h.nw_dst masks.nw_dst;
      nw_src = bit_and h.nw_src masks.nw_src;
      tp_dst = bit_and h.tp_dst masks.tp_dst;
      tp_src = bit_and h.tp_src masks.tp_src;
      dl_dst = bit_and h.dl_dst masks.dl_dst;
      dl_src = bit_and h.dl_src masks.dl_src;
      in_port = bit_and h.in_port masks.in_port;
      dl_vlan = bit_and h.dl_vlan masks.dl_vlan;
      dl_vlan_pcp = bit_and h.dl_vlan_pcp masks.dl_vlan_pcp;
      dl_type = bit_and h.dl_type masks.dl_type;
      nw_proto = bit_and h.nw_proto masks.nw_proto;
      nw_tos = bit_and h.nw_tos masks.nw_tos;
    } ≡ key_of s (exact_of h)
unfolding key_of masks_of
key_masked s masks h are range =
    rw (
      are,
      masked_address s.nw_dst h.nw_dst range.nw_dst,
      masked_address s.nw_src h.nw_src range.nw_src,
      masked 16 s.tp_dst h.tp_dst range.tp_dst,
      masked 16 s.tp_src h.tp_src range.tp_src,
      masked 64 s.dl_dst h.dl_dst (omega (arith, range.dl_dst)),
      masked 64 s.dl_src h.dl_src (omega (arith, range.dl_src)),
      masked 16 s.in_port h.in_port range.in_port,
      masked 16 s.dl_vlan h.dl_vlan range.dl_vlan,
      masked 8 s.dl_vlan_pcp h.dl_vlan_pcp (omega (arith, range.dl_vlan_pcp)),
      masked 16 s.dl_type h.dl_type range.dl_type,
      masked 8 s.nw_proto h.nw_proto range.nw_proto,
      masked 8 s.nw_tos h.nw_tos range.nw_tos,
    )
    refl

-- ---- headers give each field, and whole addresses

given_some : (has : Bool) → given_field has true ≡ true
given_some true = refl
given_some false = refl

pub gives_exact : (s : Shape) (h : Header) → gives s (exact_of h) ≡ (given_prefix s.nw_dst (Some (record { bits = 32; value = h.nw_dst })) && given_prefix s.nw_src (Some (record { bits = 32; value = h.nw_src })))
unfolding gives
gives_exact s h =
    rw (
      given_some s.tp_dst,
      given_some s.tp_src,
      given_some s.dl_dst,
      given_some s.dl_src,
      given_some s.in_port,
      given_some s.dl_vlan,
      given_some s.dl_vlan_pcp,
      given_some s.dl_type,
      given_some s.nw_proto,
      given_some s.nw_tos,
    )
    (ap (λ b. given_prefix s.nw_dst (Some (record { bits = 32; value = h.nw_dst })) && b) (and-true (given_prefix s.nw_src (Some (record { bits = 32; value = h.nw_src })))))
