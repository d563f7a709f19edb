-- The test of inclusion answers by the headers, and two matches with the same headers are one.
use Rattle.std.proofs.Common.{IsTrue, ℕ, suc, ◌≡◌, ◌↔◌, ◌+◌, ◌-◌, ◌*◌, ◌/◌, ◌%◌, ◌^◌, ◌<◌, ◌≤◌, inl, inr, leb, Option, Some, None, refl, sym, ◌∙◌, ap, arith, eqb-true, eq-eqb}
use Rattle.std.proofs.lemmas.Bool.{true≢false, and_parts, and_from, leb-true, leb-false, cases_Bool}
use Rattle.std.proofs.lemmas.Nat.{shl-shr, shr-shr, shl_below, shr_below, div-add-mod'}
use Rattle.std.proofs.Math.Nat.{two-pow-succ}
use Rattle.of10_model.specs.declared.pattern.Prefix.{Prefix}
use Rattle.of10_model.specs.declared.pattern.Pattern.{Pattern}
use Rattle.of10_model.specs.Header.{Header, IsHeader}
use Rattle.of10_model.specs.Pattern.{Meets, MeetsPrefix, Has, begins_as}
use Rattle.of10_model.specs.Normal.{IsBelow, IsService, IsPrefix, IsInRange, IsNormal}
use Rattle.of10_model.specs.Inclusion.{Includes, covers, covers_prefix, includes_of, any_in_port}
use Rattle.of10_model.proofs.Twelve.{each_true, true_of_each}
use Rattle.of10_model.proofs.Applied.{same_parts, same_fields}
use Rattle.of10_model.proofs.Meeting.{coarser}
use Rattle.of10_model.proofs.Inhabited.{IsTos, Values, header_of, IsHeader-header_of, Has-header_of, own_values}

-- ---- a constraint that covers another holds of all its values

Meets-covers : (c d : Option ℕ) (x : ℕ) → IsTrue (covers c d) → Meets d x → Meets c x
Meets-covers None d x e h = tt
Meets-covers (Some v) None x e h = absurd (true≢false (sym e))
Meets-covers (Some v) (Some w) x e h = h ∙ eqb-true w v e

MeetsPrefix-covers : (c d : Option Prefix) (x : ℕ) → IsTrue (covers_prefix c d) → MeetsPrefix d x → MeetsPrefix c x
MeetsPrefix-covers None q x e h = tt
MeetsPrefix-covers (Some p) None x e h = absurd (true≢false (sym e))
MeetsPrefix-covers (Some p) (Some q) x e h =
    let parts = and_parts (leb p.bits q.bits) (begins_as p q.value) e in
    let le = leb-true p.bits q.bits parts.0 in
    coarser x q.value (32 - q.bits) (32 - p.bits) (omega arith) h ∙ eqb-true (q.value / 2 ^ (32 - p.bits)) (p.value / 2 ^ (32 - p.bits)) parts.1

-- a match that passes the test has the headers of the other
pub Has-includes : (a b : Pattern) → IsTrue (includes_of a b) → (h : Header) → Has b h → Has a h
unfolding includes_of
Has-includes a b e h k =
    let each = each_true (covers a.in_port b.in_port) (covers a.dl_src b.dl_src) (covers a.dl_dst b.dl_dst) (covers a.dl_vlan b.dl_vlan) (covers a.dl_vlan_pcp b.dl_vlan_pcp) (covers a.dl_type b.dl_type) (covers a.nw_tos b.nw_tos) (covers a.nw_proto b.nw_proto) (covers_prefix a.nw_src b.nw_src) (covers_prefix a.nw_dst b.nw_dst) (covers a.tp_src b.tp_src) (covers a.tp_dst b.tp_dst) e in
    record {
      in_port = Meets-covers a.in_port b.in_port h.in_port each.is_in_port k.in_port;
      dl_src = Meets-covers a.dl_src b.dl_src h.dl_src each.is_dl_src k.dl_src;
      dl_dst = Meets-covers a.dl_dst b.dl_dst h.dl_dst each.is_dl_dst k.dl_dst;
      dl_vlan = Meets-covers a.dl_vlan b.dl_vlan h.dl_vlan each.is_dl_vlan k.dl_vlan;
      dl_vlan_pcp = Meets-covers a.dl_vlan_pcp b.dl_vlan_pcp h.dl_vlan_pcp each.is_dl_vlan_pcp k.dl_vlan_pcp;
      dl_type = Meets-covers a.dl_type b.dl_type h.dl_type each.is_dl_type k.dl_type;
      nw_tos = Meets-covers a.nw_tos b.nw_tos h.nw_tos each.is_nw_tos k.nw_tos;
      nw_proto = Meets-covers a.nw_proto b.nw_proto h.nw_proto each.is_nw_proto k.nw_proto;
      nw_src = MeetsPrefix-covers a.nw_src b.nw_src h.nw_src each.is_nw_src k.nw_src;
      nw_dst = MeetsPrefix-covers a.nw_dst b.nw_dst h.nw_dst each.is_nw_dst k.nw_dst;
      tp_src = Meets-covers a.tp_src b.tp_src h.tp_src each.is_tp_src k.tp_src;
      tp_dst = Meets-covers a.tp_dst b.tp_dst h.tp_dst each.is_tp_dst k.tp_dst;
    }

-- ---- a constraint that holds of all values of another covers it

covers-Meets : (In : ℕ → Type 0) (c d : Option ℕ) → In 0 → In 4 → ((v : ℕ) → d ≡ Some v → In v) → ((x : ℕ) → In x → Meets d x → Meets c x) → IsTrue (covers c d)
covers-Meets In None d z f i h = refl
covers-Meets In (Some v) None z f i h =
    let zero : 0 ≡ v = h 0 z tt in
    let four : 4 ≡ v = h 4 f tt in
    absurd (omega arith)
covers-Meets In (Some v) (Some w) z f i h = eq-eqb w v (h w (i w refl) refl)

below_at : (limit : ℕ) (d : Option ℕ) → IsBelow limit d → (v : ℕ) → d ≡ Some v → v < limit
below_at limit d r v e = rw e at r

service_at : (d : Option ℕ) → IsService d → (v : ℕ) → d ≡ Some v → IsTos v
service_at d r v e = rw e at r

-- two addresses that begin alike in some bits, but not in more of them
record Differ (more bits value : ℕ) : Type 0 where
  low : ℕ
  high : ℕ
  low-lt : low < 2 ^ 32
  high-lt : high < 2 ^ 32
  low_alike : low / 2 ^ (32 - bits) ≡ value / 2 ^ (32 - bits)
  high_alike : high / 2 ^ (32 - bits) ≡ value / 2 ^ (32 - bits)
  apart : low / 2 ^ (32 - more) ≡ high / 2 ^ (32 - more) → ⊥

shifted : (a m k : ℕ) → a / 2 ≡ m → a * 2 ^ k / 2 ^ (k + 1) ≡ m
shifted a m k e = rw (← shr-shr (a * 2 ^ k) k 1, shl-shr a k) e

leading_below : (n j k t : ℕ) → j + k ≡ t → n < 2 ^ t → n / 2 ^ k < 2 ^ j
leading_below n j k t e h = shr_below n j k (rw e h)

differ : (more bits value : ℕ) → bits < more → more ≤ 32 → value < 2 ^ 32 → Differ more bits value
differ more bits value lt le h =
    let k = 31 - bits in
    let m = value / 2 ^ (32 - bits) in
    let ignored : k + 1 ≡ 32 - bits = omega arith in
    let whole : bits + (32 - bits) ≡ 32 = omega arith in
    let total : suc bits + k ≡ 32 = omega arith in
    let few : m < 2 ^ bits = leading_below value bits (32 - bits) 32 whole h in
    let twice = two-pow-succ bits in
    let low_few : m + m < 2 ^ suc bits = omega arith in
    let high_few : m + m + 1 < 2 ^ suc bits = omega arith in
    record {
      low = (m + m) * 2 ^ k;
      high = (m + m + 1) * 2 ^ k;
      low-lt = rw total at (shl_below (m + m) (suc bits) k low_few);
      high-lt = rw total at (shl_below (m + m + 1) (suc bits) k high_few);
      low_alike = rw ignored at (shifted (m + m) m k (omega arith));
      high_alike = rw ignored at (shifted (m + m + 1) m k (omega arith));
      apart = λ e.
          let same = coarser ((m + m) * 2 ^ k) ((m + m + 1) * 2 ^ k) (32 - more) k (omega arith) e in
          let equal : m + m ≡ m + m + 1 = sym (shl-shr (m + m) k) ∙ same ∙ shl-shr (m + m + 1) k in
          omega arith;
    }

no_longer : (p q : Prefix) → IsPrefix (Some p) → IsPrefix (Some q) → ((x : ℕ) → x < 2 ^ 32 → MeetsPrefix (Some q) x → MeetsPrefix (Some p) x) → q.bits < p.bits → ⊥
no_longer p q i j h lt =
    let d = differ p.bits q.bits q.value lt i.1 j.2 in
    d.apart (h d.low d.low-lt d.low_alike ∙ sym (h d.high d.high-lt d.high_alike))

covers_prefix-MeetsPrefix : (c d : Option Prefix) → IsPrefix c → IsPrefix d → ((x : ℕ) → x < 2 ^ 32 → MeetsPrefix d x → MeetsPrefix c x) → IsTrue (covers_prefix c d)
covers_prefix-MeetsPrefix None d i j h = refl
covers_prefix-MeetsPrefix (Some p) None i j h =
    let some_bit = i.0 in
    let d = differ p.bits 0 0 (omega arith) i.1 (omega arith) in
    absurd (d.apart (h d.low d.low-lt tt ∙ sym (h d.high d.high-lt tt)))
covers_prefix-MeetsPrefix (Some p) (Some q) i j h =
    let begins = eq-eqb (q.value / 2 ^ (32 - p.bits)) (p.value / 2 ^ (32 - p.bits)) (h q.value j.2 refl) in
    elim (cases_Bool (leb p.bits q.bits)) [
      | inl e ↦ and_from (leb p.bits q.bits) (begins_as p q.value) e begins
      | inr e ↦ absurd (no_longer p q i j h (leb-false p.bits q.bits e))
    ]

-- ---- all fields

on : (a b : Pattern) → Includes a b → (s : Values b) → Has a (header_of b s)
on a b h s = h (header_of b s) (IsHeader-header_of b s) (Has-header_of b s)

-- a match with the headers of the other passes the test
pub includes-Includes : (a b : Pattern) → IsInRange a → IsInRange b → Includes a b → IsTrue (includes_of a b)
unfolding includes_of
includes-Includes a b i j h =
    let own = own_values b j in
    true_of_each (covers a.in_port b.in_port) (covers a.dl_src b.dl_src) (covers a.dl_dst b.dl_dst) (covers a.dl_vlan b.dl_vlan) (covers a.dl_vlan_pcp b.dl_vlan_pcp) (covers a.dl_type b.dl_type) (covers a.nw_tos b.nw_tos) (covers a.nw_proto b.nw_proto) (covers_prefix a.nw_src b.nw_src) (covers_prefix a.nw_dst b.nw_dst) (covers a.tp_src b.tp_src) (covers a.tp_dst b.tp_dst)
    (record {
      is_in_port = covers-Meets (λ x. x < 2 ^ 16) a.in_port b.in_port (omega arith) (omega arith) (below_at (2 ^ 16) b.in_port j.in_port) (λ x l m. (on a b h (record own { on_in_port = record { value = x; in_range = l; allowed = m } })).in_port);
      is_dl_src = covers-Meets (λ x. x < 2 ^ 48) a.dl_src b.dl_src (omega arith) (omega arith) (below_at (2 ^ 48) b.dl_src j.dl_src) (λ x l m. (on a b h (record own { on_dl_src = record { value = x; in_range = l; allowed = m } })).dl_src);
      is_dl_dst = covers-Meets (λ x. x < 2 ^ 48) a.dl_dst b.dl_dst (omega arith) (omega arith) (below_at (2 ^ 48) b.dl_dst j.dl_dst) (λ x l m. (on a b h (record own { on_dl_dst = record { value = x; in_range = l; allowed = m } })).dl_dst);
      is_dl_vlan = covers-Meets (λ x. x < 2 ^ 16) a.dl_vlan b.dl_vlan (omega arith) (omega arith) (below_at (2 ^ 16) b.dl_vlan j.dl_vlan) (λ x l m. (on a b h (record own { on_dl_vlan = record { value = x; in_range = l; allowed = m } })).dl_vlan);
      is_dl_vlan_pcp = covers-Meets (λ x. x < 8) a.dl_vlan_pcp b.dl_vlan_pcp (omega arith) (omega arith) (below_at (8) b.dl_vlan_pcp j.dl_vlan_pcp) (λ x l m. (on a b h (record own { on_dl_vlan_pcp = record { value = x; in_range = l; allowed = m } })).dl_vlan_pcp);
      is_dl_type = covers-Meets (λ x. x < 2 ^ 16) a.dl_type b.dl_type (omega arith) (omega arith) (below_at (2 ^ 16) b.dl_type j.dl_type) (λ x l m. (on a b h (record own { on_dl_type = record { value = x; in_range = l; allowed = m } })).dl_type);
      is_nw_tos = covers-Meets IsTos a.nw_tos b.nw_tos (omega arith, refl) (omega arith, refl) (service_at b.nw_tos j.nw_tos) (λ x l m. (on a b h (record own { on_nw_tos = record { value = x; in_range = l; allowed = m } })).nw_tos);
      is_nw_proto = covers-Meets (λ x. x < 256) a.nw_proto b.nw_proto (omega arith) (omega arith) (below_at (256) b.nw_proto j.nw_proto) (λ x l m. (on a b h (record own { on_nw_proto = record { value = x; in_range = l; allowed = m } })).nw_proto);
      is_nw_src = covers_prefix-MeetsPrefix a.nw_src b.nw_src i.nw_src j.nw_src (λ x l m. (on a b h (record own { on_nw_src = record { value = x; in_range = l; allowed = m } })).nw_src);
      is_nw_dst = covers_prefix-MeetsPrefix a.nw_dst b.nw_dst i.nw_dst j.nw_dst (λ x l m. (on a b h (record own { on_nw_dst = record { value = x; in_range = l; allowed = m } })).nw_dst);
      is_tp_src = covers-Meets (λ x. x < 2 ^ 16) a.tp_src b.tp_src (omega arith) (omega arith) (below_at (2 ^ 16) b.tp_src j.tp_src) (λ x l m. (on a b h (record own { on_tp_src = record { value = x; in_range = l; allowed = m } })).tp_src);
      is_tp_dst = covers-Meets (λ x. x < 2 ^ 16) a.tp_dst b.tp_dst (omega arith) (omega arith) (below_at (2 ^ 16) b.tp_dst j.tp_dst) (λ x l m. (on a b h (record own { on_tp_dst = record { value = x; in_range = l; allowed = m } })).tp_dst);
    })

-- the test answers by the headers
pub includes_iff : (a b : Pattern) → IsInRange a → IsInRange b → IsTrue (includes_of a b) ↔ Includes a b
includes_iff a b i j = (λ e h r k. Has-includes a b e h k, includes-Includes a b i j)

pub IsInRange-any_in_port : (m : Pattern) → IsInRange m → IsInRange (any_in_port m)
IsInRange-any_in_port m r = record {
  in_port = tt;
  dl_src = r.dl_src;
  dl_dst = r.dl_dst;
  dl_vlan = r.dl_vlan;
  dl_vlan_pcp = r.dl_vlan_pcp;
  dl_type = r.dl_type;
  nw_tos = r.nw_tos;
  nw_proto = r.nw_proto;
  nw_src = r.nw_src;
  nw_dst = r.nw_dst;
  tp_src = r.tp_src;
  tp_dst = r.tp_dst;
}

-- ---- two matches with the same headers

covers_both_ways : (c d : Option ℕ) → IsTrue (covers c d) → IsTrue (covers d c) → c ≡ d
covers_both_ways None None e f = refl
covers_both_ways None (Some w) e f = absurd (true≢false (sym f))
covers_both_ways (Some v) None e f = absurd (true≢false (sym e))
covers_both_ways (Some v) (Some w) e f = ap Some (eqb-true v w f)

covers_prefix_both_ways : (c d : Option Prefix) → IsPrefix c → IsPrefix d → IsTrue (covers_prefix c d) → IsTrue (covers_prefix d c) → c ≡ d
covers_prefix_both_ways None None i j e f = refl
covers_prefix_both_ways None (Some q) i j e f = absurd (true≢false (sym f))
covers_prefix_both_ways (Some p) None i j e f = absurd (true≢false (sym e))
covers_prefix_both_ways (Some p) (Some q) i j e f =
    let there = and_parts (leb p.bits q.bits) (begins_as p q.value) e in
    let back = and_parts (leb q.bits p.bits) (begins_as q p.value) f in
    let le = leb-true p.bits q.bits there.0 in
    let ge = leb-true q.bits p.bits back.0 in
    let bits : p.bits ≡ q.bits = omega arith in
    let high : q.value / 2 ^ (32 - p.bits) ≡ p.value / 2 ^ (32 - p.bits) = eqb-true (q.value / 2 ^ (32 - p.bits)) (p.value / 2 ^ (32 - p.bits)) there.1 in
    let low : p.value % 2 ^ (32 - p.bits) ≡ 0 = i.3 in
    let low' : q.value % 2 ^ (32 - p.bits) ≡ 0 = rw (← bits) at j.3 in
    let parts = div-add-mod' p.value (2 ^ (32 - p.bits)) in
    let parts' = div-add-mod' q.value (2 ^ (32 - p.bits)) in
    let value : p.value ≡ q.value = sym parts ∙ rw (low, ← high, ← low', parts') refl in
    ap Some (same_parts p q bits value)

-- two matches of which each has the headers of the other are one
pub Includes_both_ways : (a b : Pattern) → IsInRange a → IsInRange b → Includes a b → Includes b a → a ≡ b
unfolding includes_of
Includes_both_ways a b i j h k =
    let there = each_true (covers a.in_port b.in_port) (covers a.dl_src b.dl_src) (covers a.dl_dst b.dl_dst) (covers a.dl_vlan b.dl_vlan) (covers a.dl_vlan_pcp b.dl_vlan_pcp) (covers a.dl_type b.dl_type) (covers a.nw_tos b.nw_tos) (covers a.nw_proto b.nw_proto) (covers_prefix a.nw_src b.nw_src) (covers_prefix a.nw_dst b.nw_dst) (covers a.tp_src b.tp_src) (covers a.tp_dst b.tp_dst) (includes-Includes a b i j h) in
    let back = each_true (covers b.in_port a.in_port) (covers b.dl_src a.dl_src) (covers b.dl_dst a.dl_dst) (covers b.dl_vlan a.dl_vlan) (covers b.dl_vlan_pcp a.dl_vlan_pcp) (covers b.dl_type a.dl_type) (covers b.nw_tos a.nw_tos) (covers b.nw_proto a.nw_proto) (covers_prefix b.nw_src a.nw_src) (covers_prefix b.nw_dst a.nw_dst) (covers b.tp_src a.tp_src) (covers b.tp_dst a.tp_dst) (includes-Includes b a j i k) in
    same_fields a b (record {
      in_port = covers_both_ways a.in_port b.in_port there.is_in_port back.is_in_port;
      dl_src = covers_both_ways a.dl_src b.dl_src there.is_dl_src back.is_dl_src;
      dl_dst = covers_both_ways a.dl_dst b.dl_dst there.is_dl_dst back.is_dl_dst;
      dl_vlan = covers_both_ways a.dl_vlan b.dl_vlan there.is_dl_vlan back.is_dl_vlan;
      dl_vlan_pcp = covers_both_ways a.dl_vlan_pcp b.dl_vlan_pcp there.is_dl_vlan_pcp back.is_dl_vlan_pcp;
      dl_type = covers_both_ways a.dl_type b.dl_type there.is_dl_type back.is_dl_type;
      nw_tos = covers_both_ways a.nw_tos b.nw_tos there.is_nw_tos back.is_nw_tos;
      nw_proto = covers_both_ways a.nw_proto b.nw_proto there.is_nw_proto back.is_nw_proto;
      nw_src = covers_prefix_both_ways a.nw_src b.nw_src i.nw_src j.nw_src there.is_nw_src back.is_nw_src;
      nw_dst = covers_prefix_both_ways a.nw_dst b.nw_dst i.nw_dst j.nw_dst there.is_nw_dst back.is_nw_dst;
      tp_src = covers_both_ways a.tp_src b.tp_src there.is_tp_src back.is_tp_src;
      tp_dst = covers_both_ways a.tp_dst b.tp_dst there.is_tp_dst back.is_tp_dst;
    })

-- two normal matches with the same headers are one
pub same_headers : (a b : Pattern) → IsNormal a → IsNormal b → ((h : Header) → IsHeader h → Has a h ↔ Has b h) → a ≡ b
same_headers a b i j h = Includes_both_ways a b i.0 j.0 (λ x r k. (h x r).1 k) (λ x r k. (h x r).0 k)
