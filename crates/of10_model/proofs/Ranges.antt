-- What bytes spell lies in range, and so does its normal form.
use Rattle.std.proofs.Common.{ℕ, zero, suc, ◌≡◌, ◌+◌, ◌-◌, ◌*◌, ◌/◌, ◌%◌, ◌^◌, ◌<◌, ◌≤◌, ◌&&◌, Bool, true, false, if◌then◌else◌, leb, List, [], ◌∷◌, take, drop, slice_index, Option, Some, None, refl, arith}
use Rattle.std.proofs.Math.Nat.{div-mul-le_self, mul-mod_left}
use Rattle.std.proofs.lemmas.List.{get_or-drop}
use Rattle.std.proofs.lemmas.Bool.{leb-true, leb-false, and_parts}
use Rattle.byteorder.specs.Numbers.{big_from-lt}
use Rattle.of10_model.specs.declared.pattern.Prefix.{Prefix}
use Rattle.of10_model.specs.declared.pattern.Pattern.{Pattern}
use Rattle.of10_model.specs.Pattern.{leading_bits}
use Rattle.of10_model.specs.Normal.{bit, number_at, spelled, kept, kept_prefix, is_exact, has_vlan, has_network, has_service, has_ports, applied, IsBelow, IsService, IsPrefix, IsInRange}

-- the two sides of a range
pub between : (low high n : ℕ) → (leb low n && leb n high) ≡ true → (low ≤ n) × (n ≤ high)
between low high n e = let (from, to) = and_parts (leb low n) (leb n high) e in (leb-true _ _ from, leb-true _ _ to)

-- ---- what bytes spell

-- what is left of bytes are bytes
pub bytes-drop : (bytes : List ℕ) (n : ℕ) → ((k : ℕ) → slice_index bytes k < 256) → (k : ℕ) → slice_index (drop n bytes) k < 256
bytes-drop bytes n h k = rw (get_or-drop n bytes k 0) (h (n + k))

-- and the first of bytes are bytes
pub bytes-take : (n : ℕ) (bytes : List ℕ) → ((k : ℕ) → slice_index bytes k < 256) → (k : ℕ) → slice_index (take n bytes) k < 256
bytes-take zero bytes h k = omega arith
bytes-take (suc n) [] h k = omega arith
bytes-take (suc n) (byte ∷ bytes) h zero = h zero
bytes-take (suc n) (byte ∷ bytes) h (suc k) = bytes-take n bytes (λ j. h (suc j)) k

pub number_at-lt : (bytes : List ℕ) (at n : ℕ) → ((k : ℕ) → slice_index bytes k < 256) → number_at bytes at n < 256 ^ n
number_at-lt bytes at n h = big_from-lt 0 n (drop at bytes) (bytes-drop bytes at h)

IsBelow-freed : (limit value : ℕ) (b : Bool) → value < limit → IsBelow limit (if b then None else Some value)
IsBelow-freed limit value true h = tt
IsBelow-freed limit value false h = h

IsService-freed : (value : ℕ) (b : Bool) → value < 256 → IsService (if b then None else Some (value / 4 * 4))
IsService-freed value true h = tt
IsService-freed value false h = (omega arith, omega arith)

pub IsPrefix-leading : (address bits : ℕ) → address < 2 ^ 32 → 1 ≤ bits → bits ≤ 32 → IsPrefix (Some (leading_bits address bits))
IsPrefix-leading address bits below some few =
    let cut = div-mul-le_self address (2 ^ (32 - bits)) in
    (some, few, omega arith, mul-mod_left (address / 2 ^ (32 - bits)) (2 ^ (32 - bits)))

IsPrefix-cut : (count address : ℕ) (b : Bool) → leb 32 count ≡ b → address < 2 ^ 32 → IsPrefix (if b then None else Some (leading_bits address (32 - count)))
IsPrefix-cut count address true e h = tt
IsPrefix-cut count address false e h =
    let below : count < 32 = leb-false 32 count e in
    IsPrefix-leading address (32 - count) h (omega arith) (omega arith)

pub IsInRange-spelled : (bytes : List ℕ) → ((k : ℕ) → slice_index bytes k < 256) → IsInRange (spelled bytes)
unfolding spelled
IsInRange-spelled bytes h =
    let word = number_at bytes 0 4 in
    let pcp = number_at-lt bytes 20 1 h in
    record {
      in_port = IsBelow-freed (2 ^ 16) (number_at bytes 4 2) (bit word 0) (number_at-lt bytes 4 2 h);
      dl_src = IsBelow-freed (2 ^ 48) (number_at bytes 6 6) (bit word 2) (number_at-lt bytes 6 6 h);
      dl_dst = IsBelow-freed (2 ^ 48) (number_at bytes 12 6) (bit word 3) (number_at-lt bytes 12 6 h);
      dl_vlan = IsBelow-freed (2 ^ 16) (number_at bytes 18 2) (bit word 1) (number_at-lt bytes 18 2 h);
      dl_vlan_pcp = IsBelow-freed 8 _ (bit word 20) (omega arith);
      dl_type = IsBelow-freed (2 ^ 16) (number_at bytes 22 2) (bit word 4) (number_at-lt bytes 22 2 h);
      nw_tos = IsService-freed (number_at bytes 24 1) (bit word 21) (number_at-lt bytes 24 1 h);
      nw_proto = IsBelow-freed 256 (number_at bytes 25 1) (bit word 5) (number_at-lt bytes 25 1 h);
      nw_src = IsPrefix-cut (word / 2 ^ 8 % 64) (number_at bytes 28 4) (leb 32 (word / 2 ^ 8 % 64)) refl (number_at-lt bytes 28 4 h);
      nw_dst = IsPrefix-cut (word / 2 ^ 14 % 64) (number_at bytes 32 4) (leb 32 (word / 2 ^ 14 % 64)) refl (number_at-lt bytes 32 4 h);
      tp_src = IsBelow-freed (2 ^ 16) (number_at bytes 36 2) (bit word 6) (number_at-lt bytes 36 2 h);
      tp_dst = IsBelow-freed (2 ^ 16) (number_at bytes 38 2) (bit word 7) (number_at-lt bytes 38 2 h);
    }

-- ---- what the prerequisites leave

IsBelow-kept : (limit : ℕ) (exact needed : Bool) (c : Option ℕ) → 0 < limit → IsBelow limit c → IsBelow limit (kept exact needed c)
IsBelow-kept limit exact true c h r = r
IsBelow-kept limit true false c h r = h
IsBelow-kept limit false false c h r = tt

IsService-kept : (exact needed : Bool) (c : Option ℕ) → IsService c → IsService (kept exact needed c)
IsService-kept exact true c r = r
IsService-kept true false c r = (omega arith, refl)
IsService-kept false false c r = tt

IsPrefix-kept : (exact needed : Bool) (c : Option Prefix) → IsPrefix c → IsPrefix (kept_prefix exact needed c)
IsPrefix-kept exact true c r = r
IsPrefix-kept true false c r = (omega arith, omega arith, omega arith, refl)
IsPrefix-kept false false c r = tt

pub IsInRange-applied : (m : Pattern) → IsInRange m → IsInRange (applied m)
unfolding applied
IsInRange-applied m r =
    let exact = is_exact m in
    let proto = kept exact (has_network m.dl_type) m.nw_proto in
    record {
      in_port = r.in_port;
      dl_src = r.dl_src;
      dl_dst = r.dl_dst;
      dl_vlan = r.dl_vlan;
      dl_vlan_pcp = IsBelow-kept 8 exact (has_vlan m.dl_vlan) m.dl_vlan_pcp (omega arith) r.dl_vlan_pcp;
      dl_type = r.dl_type;
      nw_tos = IsService-kept exact (has_service m.dl_type) m.nw_tos r.nw_tos;
      nw_proto = IsBelow-kept 256 exact (has_network m.dl_type) m.nw_proto (omega arith) r.nw_proto;
      nw_src = IsPrefix-kept exact (has_network m.dl_type) m.nw_src r.nw_src;
      nw_dst = IsPrefix-kept exact (has_network m.dl_type) m.nw_dst r.nw_dst;
      tp_src = IsBelow-kept (2 ^ 16) exact (has_ports m.dl_type proto) m.tp_src (omega arith) r.tp_src;
      tp_dst = IsBelow-kept (2 ^ 16) exact (has_ports m.dl_type proto) m.tp_dst (omega arith) r.tp_dst;
    }
