-- The constraints of a match on the fields of a rule are those of the rule exactly where the rule includes the match.
use Rattle.std.proofs.Common.{◌≡◌, ℕ, ◌-◌, ◌*◌, ◌/◌, ◌^◌, ◌<◌, ◌==◌, ◌&&◌, leb, Bool, true, false, is_some, Option, Some, None, refl, sym, ap, ◌∙◌, arith, eqb-true}
use Rattle.std.proofs.Math.Nat.{mul-div_cancel}
use Rattle.std.proofs.lemmas.Nat.{pow_pos}
use Rattle.std.specs.declared.cmp.Ordering.{Ordering}
use Rattle.std.specs.Ordering.{nat_cmp, is_eq, ordering_then}
use Rattle.std.specs.Cmp.{unsigned_tied, tied_then}
use Rattle.std.proofs.lemmas.Bool.{le-leb, eq-eqb}
use Rattle.of10_model.specs.declared.pattern.Prefix.{Prefix}
use Rattle.of10_model.specs.declared.pattern.Pattern.{Pattern}
use Rattle.of10_model.specs.Pattern.{has, meets, meets_prefix, begins_as}
use Rattle.of10_model.specs.Header.{Header}
use Rattle.of10_model.specs.Normal.{IsPrefix, IsInRange}
use Rattle.of10_model.specs.Exact.{exact_of}
use Rattle.of10_model.specs.Inclusion.{covers, covers_prefix, includes_of}
use Rattle.pattern_index.specs.Keys.{bits_of, shape_of, given_field, given_prefix, gives, picked, leading_key, key_of, key_cmp}

-- ---- fields

same_number : (x y : ℕ) → is_eq (nat_cmp x y) ≡ (y == x)
same_number x y = let swapped : (x == y) ≡ (y == x) = grind arith in unsigned_tied x y ∙ swapped

same_bools : (a b : Bool) → (a ≡ true → b ≡ true) → (b ≡ true → a ≡ true) → a ≡ b
same_bools true b to from = sym (to refl)
same_bools false true to from = from refl
same_bools false false to from = refl

same_multiple : (n x y : ℕ) → 0 < n → (x * n == y * n) ≡ (x == y)
same_multiple n x y above =
    same_bools (x * n == y * n) (x == y)
    (λ e. eq-eqb _ _ (sym (mul-div_cancel x above) ∙ ap (λ k. k / n) (eqb-true (x * n) (y * n) e) ∙ mul-div_cancel y above))
    (λ e. eq-eqb _ _ (ap (λ k. k * n) (eqb-true x y e)))

field_tied : (c d : Option ℕ) → (given_field (is_some c) (is_some d) && is_eq (nat_cmp (picked (is_some c) c) (picked (is_some c) d))) ≡ covers c d
field_tied None d = refl
field_tied (Some v) None = refl
field_tied (Some v) (Some w) = same_number v w

prefix_tied : (c d : Option Prefix) → (given_prefix (bits_of c) d && is_eq (nat_cmp (leading_key (bits_of c) c) (leading_key (bits_of c) d))) ≡ covers_prefix c d
prefix_tied None None = refl
prefix_tied None (Some q) = refl
prefix_tied (Some p) None = refl
prefix_tied (Some p) (Some q) =
    let unit = 2 ^ (32 - p.bits) in
    ap (λ b. leb p.bits q.bits && b) (same_number (p.value / unit * unit) (q.value / unit * unit) ∙ same_multiple unit (q.value / unit) (p.value / unit) (pow_pos (32 - p.bits)))

-- ---- keys

paired : (g gs e es c cs : Bool) → (g && e) ≡ c → (gs && es) ≡ cs → ((g && gs) && (e && es)) ≡ (c && cs)
paired g gs e es c cs own others = let swapped : ((g && gs) && (e && es)) ≡ ((g && e) && (gs && es)) = grind arith in swapped ∙ ap (λ b. b && (gs && es)) own ∙ ap (λ b. c && b) others

-- a field and those behind it
then_tied : (g gs : Bool) (a o : Ordering) (c cs : Bool) → (g && is_eq a) ≡ c → (gs && is_eq o) ≡ cs → ((g && gs) && is_eq (ordering_then a o)) ≡ (c && cs)
then_tied g gs a o c cs own others = ap (λ b. (g && gs) && b) (sym (tied_then a o)) ∙ paired g gs (is_eq a) (is_eq o) c cs own others

-- the same tests in another order
reordered : (a b c d e f g h i j k l : Bool) → (j && (i && (l && (k && (a && (d && (c && (b && (f && (e && (h && g))))))))))) ≡ (a && b && c && d && e && f && g && h && i && j && k && l)
reordered a b c d e f g h i j k l = grind arith

pub key_tied : (r m : Pattern) → (gives (shape_of r) m && is_eq (key_cmp (key_of (shape_of r) r) (key_of (shape_of r) m))) ≡ includes_of r m
unfolding includes_of gives key_of shape_of
key_tied r m =
    (then_tied _ _ _ _ _ _ (prefix_tied r.nw_dst m.nw_dst)
    (then_tied _ _ _ _ _ _ (prefix_tied r.nw_src m.nw_src)
    (then_tied _ _ _ _ _ _ (field_tied r.tp_dst m.tp_dst)
    (then_tied _ _ _ _ _ _ (field_tied r.tp_src m.tp_src)
    (then_tied _ _ _ _ _ _ (field_tied r.in_port m.in_port)
    (then_tied _ _ _ _ _ _ (field_tied r.dl_vlan m.dl_vlan)
    (then_tied _ _ _ _ _ _ (field_tied r.dl_dst m.dl_dst)
    (then_tied _ _ _ _ _ _ (field_tied r.dl_src m.dl_src)
    (then_tied _ _ _ _ _ _ (field_tied r.dl_type m.dl_type)
    (then_tied _ _ _ _ _ _ (field_tied r.dl_vlan_pcp m.dl_vlan_pcp)
    (then_tied _ _ _ _ _ _ (field_tied r.nw_proto m.nw_proto)
    (field_tied r.nw_tos m.nw_tos))))))))))))
    ∙ reordered (covers r.in_port m.in_port) (covers r.dl_src m.dl_src) (covers r.dl_dst m.dl_dst) (covers r.dl_vlan m.dl_vlan) (covers r.dl_vlan_pcp m.dl_vlan_pcp) (covers r.dl_type m.dl_type) (covers r.nw_tos m.nw_tos) (covers r.nw_proto m.nw_proto) (covers_prefix r.nw_src m.nw_src) (covers_prefix r.nw_dst m.nw_dst) (covers r.tp_src m.tp_src) (covers r.tp_dst m.tp_dst)

-- ---- headers

exact_field : (c : Option ℕ) (x : ℕ) → covers c (Some x) ≡ meets c x
exact_field None x = refl
exact_field (Some v) x = refl

exact_prefix : (c : Option Prefix) (x : ℕ) → IsPrefix c → covers_prefix c (Some (record { bits = 32; value = x })) ≡ meets_prefix c x
exact_prefix None x range = refl
exact_prefix (Some p) x range = ap (λ b. b && begins_as p x) (le-leb p.bits 32 range.1)

-- a rule includes the match of one header alone exactly where it has the header
pub includes_exact : (r : Pattern) (h : Header) → IsInRange r → includes_of r (exact_of h) ≡ has r h
unfolding includes_of has
includes_exact r h range =
    rw (
      exact_field r.in_port h.in_port,
      exact_field r.dl_src h.dl_src,
      exact_field r.dl_dst h.dl_dst,
      exact_field r.dl_vlan h.dl_vlan,
      exact_field r.dl_vlan_pcp h.dl_vlan_pcp,
      exact_field r.dl_type h.dl_type,
      exact_field r.nw_tos h.nw_tos,
      exact_field r.nw_proto h.nw_proto,
      exact_prefix r.nw_src h.nw_src range.nw_src,
      exact_prefix r.nw_dst h.nw_dst range.nw_dst,
      exact_field r.tp_src h.tp_src,
      exact_field r.tp_dst h.tp_dst,
    )
    refl
