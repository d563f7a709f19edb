-- The normal spelling of a match is read as that match.
use Rattle.std.proofs.Common.{ℕ, ◌≡◌, ◌==◌, ◌+◌, ◌-◌, ◌*◌, ◌/◌, ◌%◌, ◌^◌, ◌<◌, ◌≤◌, false, if◌then◌else◌, leb, [], Option, Some, None, refl, arith}
use Rattle.std.proofs.Math.Nat.{mod-eq_of_lt, div-add-mod'}
use Rattle.std.proofs.lemmas.Bool.{lt-leb}
use Rattle.byteorder.specs.Numbers.{big_number-reads_back}
use Rattle.of10_model.specs.declared.pattern.Prefix.{Prefix}
use Rattle.of10_model.specs.declared.pattern.Pattern.{Pattern}
use Rattle.of10_model.specs.Pattern.{leading_bits}
use Rattle.of10_model.specs.Normal.{number_at, spelled, Norm, IsBelow, IsService, IsPrefix, IsInRange, IsNormal}
use Rattle.of10_model.specs.Spelling.{freed, ignored, number_or_zero, address_or_zero, wildcards, Spell}
use Rattle.of10_model.proofs.Applied.{same_fields}

-- ---- the parts of the wildcard word

record Parts (word in_port dl_vlan dl_src dl_dst dl_type nw_proto tp_src tp_dst nw_src nw_dst dl_vlan_pcp nw_tos : ℕ) : Type 0 where
  at_in_port : word / 2 ^ 0 % 2 ≡ in_port
  at_dl_vlan : word / 2 ^ 1 % 2 ≡ dl_vlan
  at_dl_src : word / 2 ^ 2 % 2 ≡ dl_src
  at_dl_dst : word / 2 ^ 3 % 2 ≡ dl_dst
  at_dl_type : word / 2 ^ 4 % 2 ≡ dl_type
  at_nw_proto : word / 2 ^ 5 % 2 ≡ nw_proto
  at_tp_src : word / 2 ^ 6 % 2 ≡ tp_src
  at_tp_dst : word / 2 ^ 7 % 2 ≡ tp_dst
  at_nw_src : word / 2 ^ 8 % 64 ≡ nw_src
  at_nw_dst : word / 2 ^ 14 % 64 ≡ nw_dst
  at_dl_vlan_pcp : word / 2 ^ 20 % 2 ≡ dl_vlan_pcp
  at_nw_tos : word / 2 ^ 21 % 2 ≡ nw_tos
  fits : word < 256 ^ 4

parts : (in_port dl_vlan dl_src dl_dst dl_type nw_proto tp_src tp_dst nw_src nw_dst dl_vlan_pcp nw_tos : ℕ)
    → in_port ≤ 1 → dl_vlan ≤ 1 → dl_src ≤ 1 → dl_dst ≤ 1 → dl_type ≤ 1 → nw_proto ≤ 1 → tp_src ≤ 1 → tp_dst ≤ 1 → nw_src ≤ 32 → nw_dst ≤ 32 → dl_vlan_pcp ≤ 1 → nw_tos ≤ 1
    → Parts (in_port + 0x2 * dl_vlan + 0x4 * dl_src + 0x8 * dl_dst + 0x10 * dl_type + 0x20 * nw_proto + 0x40 * tp_src + 0x80 * tp_dst + 0x100 * nw_src + 0x4000 * nw_dst + 0x100000 * dl_vlan_pcp + 0x200000 * nw_tos) in_port dl_vlan dl_src dl_dst dl_type nw_proto tp_src tp_dst nw_src nw_dst dl_vlan_pcp nw_tos
parts in_port dl_vlan dl_src dl_dst dl_type nw_proto tp_src tp_dst nw_src nw_dst dl_vlan_pcp nw_tos h0 h1 h2 h3 h4 h5 h6 h7 h8 h9 h10 h11 =
    record {
      at_in_port = omega arith;
      at_dl_vlan = omega arith;
      at_dl_src = omega arith;
      at_dl_dst = omega arith;
      at_dl_type = omega arith;
      at_nw_proto = omega arith;
      at_tp_src = omega arith;
      at_tp_dst = omega arith;
      at_nw_src = omega arith;
      at_nw_dst = omega arith;
      at_dl_vlan_pcp = omega arith;
      at_nw_tos = omega arith;
      fits = omega arith;
    }

freed-le : (c : Option ℕ) → freed c ≤ 1
freed-le None = omega arith
freed-le (Some v) = omega arith

ignored-le : (c : Option Prefix) → ignored c ≤ 32
ignored-le None = omega arith
ignored-le (Some p) = omega arith

wildcards_parts : (m : Pattern) → Parts (wildcards m) (freed m.in_port) (freed m.dl_vlan) (freed m.dl_src) (freed m.dl_dst) (freed m.dl_type) (freed m.nw_proto) (freed m.tp_src) (freed m.tp_dst) (ignored m.nw_src) (ignored m.nw_dst) (freed m.dl_vlan_pcp) (freed m.nw_tos)
wildcards_parts m =
    parts (freed m.in_port) (freed m.dl_vlan) (freed m.dl_src) (freed m.dl_dst) (freed m.dl_type) (freed m.nw_proto) (freed m.tp_src) (freed m.tp_dst) (ignored m.nw_src) (ignored m.nw_dst) (freed m.dl_vlan_pcp) (freed m.nw_tos)
    (freed-le m.in_port) (freed-le m.dl_vlan) (freed-le m.dl_src) (freed-le m.dl_dst) (freed-le m.dl_type) (freed-le m.nw_proto) (freed-le m.tp_src) (freed-le m.tp_dst) (ignored-le m.nw_src) (ignored-le m.nw_dst) (freed-le m.dl_vlan_pcp) (freed-le m.nw_tos)

-- ---- a field

below_limit : (limit : ℕ) (c : Option ℕ) → 0 < limit → IsBelow limit c → number_or_zero c < limit
below_limit limit None h r = h
below_limit limit (Some v) h r = r

service_again : (c : Option ℕ) → IsService c → (number_or_zero c < 256) × (number_or_zero c / 4 * 4 ≡ number_or_zero c)
service_again None r = (omega arith, refl)
service_again (Some v) r = let low = r.1 in (r.0, omega arith)

address_below : (c : Option Prefix) → IsPrefix c → address_or_zero c < 2 ^ 32
address_below None r = omega arith
address_below (Some p) r = r.2

field_again : (b value : ℕ) (c : Option ℕ) → b ≡ freed c → value ≡ number_or_zero c → (if b == 1 then None else Some value) ≡ c
field_again b value None e f = rw e refl
field_again b value (Some v) e f = rw (e, f) refl

prefix_again : (count address : ℕ) (c : Option Prefix) → IsPrefix c → count ≡ ignored c → address ≡ address_or_zero c
    → (if leb 32 count then None else Some (leading_bits address (32 - count))) ≡ c
prefix_again count address None r e f = rw e refl
prefix_again count address (Some p) r e f =
    let within = r.1 in
    let some_bit = r.0 in
    let few : leb 32 count ≡ false = lt-leb 32 count (omega arith) in
    let is_bits : 32 - count ≡ p.bits = omega arith in
    let parts = div-add-mod' p.value (2 ^ (32 - p.bits)) in
    let low = r.3 in
    let cut : p.value / 2 ^ (32 - p.bits) * 2 ^ (32 - p.bits) ≡ p.value = omega arith in
    rw (few, is_bits, f, cut) refl

-- ---- all of them

-- read raw, before fields without their prerequisite are made meaningless
pub spelled-Spell : (m : Pattern) → IsInRange m → spelled (Spell m) ≡ m
unfolding spelled Spell
spelled-Spell m r =
    let word = wildcards_parts m in
    let is_word : number_at (Spell m) 0 4 ≡ wildcards m = big_number-reads_back 4 (wildcards m) [] word.fits in
    let is_in_port : number_at (Spell m) 4 2 ≡ number_or_zero m.in_port = big_number-reads_back 2 (number_or_zero m.in_port) [] (below_limit (2 ^ 16) m.in_port (omega arith) r.in_port) in
    let is_dl_src : number_at (Spell m) 6 6 ≡ number_or_zero m.dl_src = big_number-reads_back 6 (number_or_zero m.dl_src) [] (below_limit (2 ^ 48) m.dl_src (omega arith) r.dl_src) in
    let is_dl_dst : number_at (Spell m) 12 6 ≡ number_or_zero m.dl_dst = big_number-reads_back 6 (number_or_zero m.dl_dst) [] (below_limit (2 ^ 48) m.dl_dst (omega arith) r.dl_dst) in
    let is_dl_vlan : number_at (Spell m) 18 2 ≡ number_or_zero m.dl_vlan = big_number-reads_back 2 (number_or_zero m.dl_vlan) [] (below_limit (2 ^ 16) m.dl_vlan (omega arith) r.dl_vlan) in
    let is_dl_vlan_pcp : number_at (Spell m) 20 1 ≡ number_or_zero m.dl_vlan_pcp = big_number-reads_back 1 (number_or_zero m.dl_vlan_pcp) [] (omega (arith, below_limit 8 m.dl_vlan_pcp (omega arith) r.dl_vlan_pcp)) in
    let is_dl_type : number_at (Spell m) 22 2 ≡ number_or_zero m.dl_type = big_number-reads_back 2 (number_or_zero m.dl_type) [] (below_limit (2 ^ 16) m.dl_type (omega arith) r.dl_type) in
    let is_nw_tos : number_at (Spell m) 24 1 ≡ number_or_zero m.nw_tos = big_number-reads_back 1 (number_or_zero m.nw_tos) [] (service_again m.nw_tos r.nw_tos).0 in
    let is_nw_proto : number_at (Spell m) 25 1 ≡ number_or_zero m.nw_proto = big_number-reads_back 1 (number_or_zero m.nw_proto) [] (below_limit (2 ^ 8) m.nw_proto (omega arith) r.nw_proto) in
    let is_nw_src : number_at (Spell m) 28 4 ≡ address_or_zero m.nw_src = big_number-reads_back 4 (address_or_zero m.nw_src) [] (address_below m.nw_src r.nw_src) in
    let is_nw_dst : number_at (Spell m) 32 4 ≡ address_or_zero m.nw_dst = big_number-reads_back 4 (address_or_zero m.nw_dst) [] (address_below m.nw_dst r.nw_dst) in
    let is_tp_src : number_at (Spell m) 36 2 ≡ number_or_zero m.tp_src = big_number-reads_back 2 (number_or_zero m.tp_src) [] (below_limit (2 ^ 16) m.tp_src (omega arith) r.tp_src) in
    let is_tp_dst : number_at (Spell m) 38 2 ≡ number_or_zero m.tp_dst = big_number-reads_back 2 (number_or_zero m.tp_dst) [] (below_limit (2 ^ 16) m.tp_dst (omega arith) r.tp_dst) in
    same_fields (spelled (Spell m)) m (record {
      in_port = field_again (number_at (Spell m) 0 4 / 2 ^ 0 % 2) (number_at (Spell m) 4 2) m.in_port (rw is_word word.at_in_port) is_in_port;
      dl_src = field_again (number_at (Spell m) 0 4 / 2 ^ 2 % 2) (number_at (Spell m) 6 6) m.dl_src (rw is_word word.at_dl_src) is_dl_src;
      dl_dst = field_again (number_at (Spell m) 0 4 / 2 ^ 3 % 2) (number_at (Spell m) 12 6) m.dl_dst (rw is_word word.at_dl_dst) is_dl_dst;
      dl_vlan = field_again (number_at (Spell m) 0 4 / 2 ^ 1 % 2) (number_at (Spell m) 18 2) m.dl_vlan (rw is_word word.at_dl_vlan) is_dl_vlan;
      dl_vlan_pcp = field_again (number_at (Spell m) 0 4 / 2 ^ 20 % 2) (number_at (Spell m) 20 1 % 8) m.dl_vlan_pcp (rw is_word word.at_dl_vlan_pcp) (rw is_dl_vlan_pcp (mod-eq_of_lt (below_limit 8 m.dl_vlan_pcp (omega arith) r.dl_vlan_pcp)));
      dl_type = field_again (number_at (Spell m) 0 4 / 2 ^ 4 % 2) (number_at (Spell m) 22 2) m.dl_type (rw is_word word.at_dl_type) is_dl_type;
      nw_tos = field_again (number_at (Spell m) 0 4 / 2 ^ 21 % 2) (number_at (Spell m) 24 1 / 4 * 4) m.nw_tos (rw is_word word.at_nw_tos) (rw is_nw_tos (service_again m.nw_tos r.nw_tos).1);
      nw_proto = field_again (number_at (Spell m) 0 4 / 2 ^ 5 % 2) (number_at (Spell m) 25 1) m.nw_proto (rw is_word word.at_nw_proto) is_nw_proto;
      nw_src = prefix_again (number_at (Spell m) 0 4 / 2 ^ 8 % 64) (number_at (Spell m) 28 4) m.nw_src r.nw_src (rw is_word word.at_nw_src) is_nw_src;
      nw_dst = prefix_again (number_at (Spell m) 0 4 / 2 ^ 14 % 64) (number_at (Spell m) 32 4) m.nw_dst r.nw_dst (rw is_word word.at_nw_dst) is_nw_dst;
      tp_src = field_again (number_at (Spell m) 0 4 / 2 ^ 6 % 2) (number_at (Spell m) 36 2) m.tp_src (rw is_word word.at_tp_src) is_tp_src;
      tp_dst = field_again (number_at (Spell m) 0 4 / 2 ^ 7 % 2) (number_at (Spell m) 38 2) m.tp_dst (rw is_word word.at_tp_dst) is_tp_dst;
    })

-- read to its normal form
pub Norm-Spell : (m : Pattern) → IsNormal m → Norm (Spell m) ≡ m
Norm-Spell m n = rw (spelled-Spell m n.0) n.1
