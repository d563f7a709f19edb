-- The meet of two normal matches is normal.
use Rattle.std.proofs.Common.{IsTrue, ℕ, ◌≡◌, ◌==◌, ◌^◌, ◌≤◌, ◌||◌, ◌⊎◌, inl, inr, Bool, true, false, leb, if◌then◌else◌, Option, Some, None, refl, sym, ◌∙◌, arith, eqb-true, eq-eqb}
use Rattle.std.proofs.lemmas.Bool.{true≢false, and_parts, and_from, leb-true, leb-false, false_from_ne_true}
use Rattle.std.proofs.lemmas.Option.{same_Some, cond_some}
use Rattle.of10_model.specs.declared.pattern.Prefix.{Prefix}
use Rattle.of10_model.specs.declared.pattern.Pattern.{Pattern}
use Rattle.of10_model.specs.Normal.{is_value, is_given, is_whole, is_exact, has_vlan, has_network, has_service, has_ports, IsBelow, IsService, IsPrefix, IsInRange, IsNormal}
use Rattle.of10_model.specs.Pattern.{begins_as}
use Rattle.of10_model.specs.Meet.{both, both_prefix, meet_of}
use Rattle.of10_model.proofs.Twelve.{AllTrue, each_true, true_of_each}
use Rattle.of10_model.proofs.Meeting.{meet_fields}
use Rattle.of10_model.proofs.Applied.{kept_or, zero_address}
use Rattle.of10_model.proofs.NormalFields.{normal_fields, applied_same, as_before, kept_set}

-- ---- a constraint of the meet is one of the two

-- a value is one of two
abbrev pub OneOf : {C : Type 0} → C → C → C → Type 0
OneOf x c d = (x ≡ c) ⊎ (x ≡ d)

-- the meet has each of the two constraints that isn't free
keeps : (c d r : Option ℕ) → both c d ≡ Some r → OneOf c None r × OneOf d None r
keeps None d r e = (inl refl, inr (same_Some d r e))
keeps (Some v) None r e = (inr (same_Some (Some v) r e), inl refl)
keeps (Some v) (Some w) r e =
    let parts = cond_some (v == w) (Some v) r e in
    let same = eqb-true v w parts.0 in
    (inr parts.1, inr (rw same at parts.1))

pub from_either : (c d r : Option ℕ) → both c d ≡ Some r → OneOf r c d
from_either None d r e = inr (sym (same_Some d r e))
from_either (Some v) d r e = elim (keeps (Some v) d r e).0 [
  | inl n ↦ absurd cc
  | inr k ↦ inl (sym k)
]

prefix_from_case : (p q : Prefix) (r : Option Prefix) (t : Bool)
    → (if t then (if begins_as p q.value then Some (Some q) else None) else (if begins_as q p.value then Some (Some p) else None)) ≡ Some r
    → OneOf r (Some p) (Some q)
prefix_from_case p q r true e = inr (sym (cond_some (begins_as p q.value) (Some q) r e).1)
prefix_from_case p q r false e = inl (sym (cond_some (begins_as q p.value) (Some p) r e).1)

pub prefix_from_either : (c d r : Option Prefix) → both_prefix c d ≡ Some r → OneOf r c d
prefix_from_either None d r e = inr (sym (same_Some d r e))
prefix_from_either (Some p) None r e = inl (sym (same_Some (Some p) r e))
prefix_from_either (Some p) (Some q) r e = prefix_from_case p q r (leb p.bits q.bits) e

-- what holds of both constraints holds of the meet's
pub holds_too : {C : Type 0} (P : C → Type 0) (c d r : C) → OneOf r c d → P c → P d → P r
holds_too P c d r (inl e) p q = rw e p
holds_too P c d r (inr e) p q = rw e q

-- ---- a test that no free constraint passes is passed by the meet's constraint where one of the two passes it

passes_as : (t : Option ℕ → Bool) (c r : Option ℕ) → t None ≡ false → OneOf c None r → IsTrue (t c) → IsTrue (t r)
passes_as t c r n (inl e) h = absurd (true≢false (sym (rw e at h) ∙ n))
passes_as t c r n (inr e) h = rw e at h

-- of a field of the match that is one of the two
pub passes : (t : Option ℕ → Bool) (f : Pattern → Option ℕ) (a b r x : Pattern) → t None ≡ false → both (f a) (f b) ≡ Some (f r) → OneOf x a b → IsTrue (t (f x)) → IsTrue (t (f r))
passes t f a b r x n e (inl s) h = passes_as t (f a) (f r) n (keeps (f a) (f b) (f r) e).0 (rw s at h)
passes t f a b r x n e (inr s) h = passes_as t (f b) (f r) n (keeps (f a) (f b) (f r) e).1 (rw s at h)

-- how many leading bits count
abbrev length_of : Option Prefix → ℕ
length_of None = 0
length_of (Some p) = p.bits

longer_case : (p q : Prefix) (r : Option Prefix) (t : Bool) → leb p.bits q.bits ≡ t
    → (if t then (if begins_as p q.value then Some (Some q) else None) else (if begins_as q p.value then Some (Some p) else None)) ≡ Some r
    → (p.bits ≤ length_of r) × (q.bits ≤ length_of r)
longer_case p q r true l e =
    let le = leb-true p.bits q.bits l in
    rw (← (cond_some (begins_as p q.value) (Some q) r e).1) (le, omega arith)
longer_case p q r false l e =
    let lt = leb-false p.bits q.bits l in
    rw (← (cond_some (begins_as q p.value) (Some p) r e).1) (omega arith, omega arith)

-- the meet's prefix is no shorter than either
longer : (c d r : Option Prefix) → both_prefix c d ≡ Some r → (length_of c ≤ length_of r) × (length_of d ≤ length_of r)
longer None d r e = rw (← same_Some d r e) (omega arith, omega arith)
longer (Some p) None r e = rw (← same_Some (Some p) r e) (omega arith, omega arith)
longer (Some p) (Some q) r e = longer_case p q r (leb p.bits q.bits) refl e

whole_as : (c r : Option Prefix) → IsPrefix r → length_of c ≤ length_of r → IsTrue (is_whole c) → IsTrue (is_whole r)
whole_as None r i le h = absurd (true≢false (sym h))
whole_as (Some p) None i le h =
    let all = eqb-true p.bits 32 h in
    absurd (omega arith)
whole_as (Some p) (Some q) i le h =
    let all = eqb-true p.bits 32 h in
    let most = i.1 in
    eq-eqb q.bits 32 (omega arith)

is_whole_too : (f : Pattern → Option Prefix) (a b r x : Pattern) → IsPrefix (f r) → both_prefix (f a) (f b) ≡ Some (f r) → OneOf x a b → IsTrue (is_whole (f x)) → IsTrue (is_whole (f r))
is_whole_too f a b r x i e (inl s) h = whole_as (f a) (f r) i (longer (f a) (f b) (f r) e).0 (rw s at h)
is_whole_too f a b r x i e (inr s) h = whole_as (f b) (f r) i (longer (f a) (f b) (f r) e).1 (rw s at h)

-- ---- all fields

exact_too : (a b r x : Pattern) → IsInRange r → meet_of a b ≡ Some r → OneOf x a b → IsTrue (is_exact x) → IsTrue (is_exact r)
exact_too a b r x i e s h =
    let fields = meet_fields a b r e in
    let each = each_true (is_given x.in_port) (is_given x.dl_src) (is_given x.dl_dst) (is_given x.dl_vlan) (is_given x.dl_vlan_pcp) (is_given x.dl_type) (is_given x.nw_tos) (is_given x.nw_proto) (is_whole x.nw_src) (is_whole x.nw_dst) (is_given x.tp_src) (is_given x.tp_dst) h in
    true_of_each (is_given r.in_port) (is_given r.dl_src) (is_given r.dl_dst) (is_given r.dl_vlan) (is_given r.dl_vlan_pcp) (is_given r.dl_type) (is_given r.nw_tos) (is_given r.nw_proto) (is_whole r.nw_src) (is_whole r.nw_dst) (is_given r.tp_src) (is_given r.tp_dst)
    (record {
      is_in_port = passes is_given (λ m. m.in_port) a b r x refl fields.is_in_port s each.is_in_port;
      is_dl_src = passes is_given (λ m. m.dl_src) a b r x refl fields.is_dl_src s each.is_dl_src;
      is_dl_dst = passes is_given (λ m. m.dl_dst) a b r x refl fields.is_dl_dst s each.is_dl_dst;
      is_dl_vlan = passes is_given (λ m. m.dl_vlan) a b r x refl fields.is_dl_vlan s each.is_dl_vlan;
      is_dl_vlan_pcp = passes is_given (λ m. m.dl_vlan_pcp) a b r x refl fields.is_dl_vlan_pcp s each.is_dl_vlan_pcp;
      is_dl_type = passes is_given (λ m. m.dl_type) a b r x refl fields.is_dl_type s each.is_dl_type;
      is_nw_tos = passes is_given (λ m. m.nw_tos) a b r x refl fields.is_nw_tos s each.is_nw_tos;
      is_nw_proto = passes is_given (λ m. m.nw_proto) a b r x refl fields.is_nw_proto s each.is_nw_proto;
      is_nw_src = is_whole_too (λ m. m.nw_src) a b r x i.nw_src fields.is_nw_src s each.is_nw_src;
      is_nw_dst = is_whole_too (λ m. m.nw_dst) a b r x i.nw_dst fields.is_nw_dst s each.is_nw_dst;
      is_tp_src = passes is_given (λ m. m.tp_src) a b r x refl fields.is_tp_src s each.is_tp_src;
      is_tp_dst = passes is_given (λ m. m.tp_dst) a b r x refl fields.is_tp_dst s each.is_tp_dst;
    })

pub ports_too : (a b r x : Pattern) → meet_of a b ≡ Some r → OneOf x a b → IsTrue (has_ports x.dl_type x.nw_proto) → IsTrue (has_ports r.dl_type r.nw_proto)
ports_too a b r x e s h =
    let fields = meet_fields a b r e in
    let parts = and_parts (is_value 0x0800 x.dl_type) (is_value 1 x.nw_proto || is_value 6 x.nw_proto || is_value 17 x.nw_proto) h in
    and_from (is_value 0x0800 r.dl_type) (is_value 1 r.nw_proto || is_value 6 r.nw_proto || is_value 17 r.nw_proto)
    (passes (is_value 0x0800) (λ m. m.dl_type) a b r x refl fields.is_dl_type s parts.0)
    (passes (λ c. is_value 1 c || is_value 6 c || is_value 17 c) (λ m. m.nw_proto) a b r x refl fields.is_nw_proto s parts.1)

-- a field that is meaningless in the match that it comes from is so in the meet
kept_as : {C : Type 0} (given : Option C → Bool) (zero : C) (needed : Pattern → Bool) (f : Pattern → Option C) (r x : Pattern) → given None ≡ false
    → (IsTrue (needed x) → IsTrue (needed r)) → (IsTrue (is_exact x) → IsTrue (is_exact r)) → (IsTrue (is_exact r) → IsTrue (given (f r)))
    → kept_or zero (is_exact x) (needed x) (f x) ≡ f x → f r ≡ f x → kept_or zero (is_exact r) (needed r) (f r) ≡ f r
kept_as given zero needed f r x none there exact g kept e =
    kept_set given zero (is_exact x) (is_exact r) (needed r) (f r) none
    (λ off. e ∙ as_before zero (is_exact x) (needed x) (f x) kept (false_from_ne_true (needed x) (λ t. true≢false (sym (there t) ∙ off))))
    exact g

kept_too : {C : Type 0} (given : Option C → Bool) (zero : C) (needed : Pattern → Bool) (f : Pattern → Option C) (a b r : Pattern) → given None ≡ false
    → ((x : Pattern) → OneOf x a b → IsTrue (needed x) → IsTrue (needed r)) → ((x : Pattern) → OneOf x a b → IsTrue (is_exact x) → IsTrue (is_exact r))
    → (IsTrue (is_exact r) → IsTrue (given (f r))) → kept_or zero (is_exact a) (needed a) (f a) ≡ f a → kept_or zero (is_exact b) (needed b) (f b) ≡ f b
    → OneOf (f r) (f a) (f b) → kept_or zero (is_exact r) (needed r) (f r) ≡ f r
kept_too given zero needed f a b r none there exact g ka kb (inl e) = kept_as given zero needed f r a none (there a (inl refl)) (exact a (inl refl)) g ka e
kept_too given zero needed f a b r none there exact g ka kb (inr e) = kept_as given zero needed f r b none (there b (inr refl)) (exact b (inr refl)) g kb e

pub IsInRange-meet : (a b r : Pattern) → IsInRange a → IsInRange b → meet_of a b ≡ Some r → IsInRange r
IsInRange-meet a b r i j e =
    let fields = meet_fields a b r e in
    record {
      in_port = holds_too (IsBelow (2 ^ 16)) a.in_port b.in_port r.in_port (from_either a.in_port b.in_port r.in_port fields.is_in_port) i.in_port j.in_port;
      dl_src = holds_too (IsBelow (2 ^ 48)) a.dl_src b.dl_src r.dl_src (from_either a.dl_src b.dl_src r.dl_src fields.is_dl_src) i.dl_src j.dl_src;
      dl_dst = holds_too (IsBelow (2 ^ 48)) a.dl_dst b.dl_dst r.dl_dst (from_either a.dl_dst b.dl_dst r.dl_dst fields.is_dl_dst) i.dl_dst j.dl_dst;
      dl_vlan = holds_too (IsBelow (2 ^ 16)) a.dl_vlan b.dl_vlan r.dl_vlan (from_either a.dl_vlan b.dl_vlan r.dl_vlan fields.is_dl_vlan) i.dl_vlan j.dl_vlan;
      dl_vlan_pcp = holds_too (IsBelow 8) a.dl_vlan_pcp b.dl_vlan_pcp r.dl_vlan_pcp (from_either a.dl_vlan_pcp b.dl_vlan_pcp r.dl_vlan_pcp fields.is_dl_vlan_pcp) i.dl_vlan_pcp j.dl_vlan_pcp;
      dl_type = holds_too (IsBelow (2 ^ 16)) a.dl_type b.dl_type r.dl_type (from_either a.dl_type b.dl_type r.dl_type fields.is_dl_type) i.dl_type j.dl_type;
      nw_tos = holds_too IsService a.nw_tos b.nw_tos r.nw_tos (from_either a.nw_tos b.nw_tos r.nw_tos fields.is_nw_tos) i.nw_tos j.nw_tos;
      nw_proto = holds_too (IsBelow 256) a.nw_proto b.nw_proto r.nw_proto (from_either a.nw_proto b.nw_proto r.nw_proto fields.is_nw_proto) i.nw_proto j.nw_proto;
      nw_src = holds_too IsPrefix a.nw_src b.nw_src r.nw_src (prefix_from_either a.nw_src b.nw_src r.nw_src fields.is_nw_src) i.nw_src j.nw_src;
      nw_dst = holds_too IsPrefix a.nw_dst b.nw_dst r.nw_dst (prefix_from_either a.nw_dst b.nw_dst r.nw_dst fields.is_nw_dst) i.nw_dst j.nw_dst;
      tp_src = holds_too (IsBelow (2 ^ 16)) a.tp_src b.tp_src r.tp_src (from_either a.tp_src b.tp_src r.tp_src fields.is_tp_src) i.tp_src j.tp_src;
      tp_dst = holds_too (IsBelow (2 ^ 16)) a.tp_dst b.tp_dst r.tp_dst (from_either a.tp_dst b.tp_dst r.tp_dst fields.is_tp_dst) i.tp_dst j.tp_dst;
    }

pub IsNormal-meet : (a b r : Pattern) → IsNormal a → IsNormal b → meet_of a b ≡ Some r → IsNormal r
IsNormal-meet a b r na nb e =
    let fields = meet_fields a b r e in
    let fa = normal_fields a na.1 in
    let fb = normal_fields b nb.1 in
    let range = IsInRange-meet a b r na.0 nb.0 e in
    let exact : (x : Pattern) → OneOf x a b → IsTrue (is_exact x) → IsTrue (is_exact r) = λ x s. exact_too a b r x range e s in
    let network : (x : Pattern) → OneOf x a b → IsTrue (has_network x.dl_type) → IsTrue (has_network r.dl_type) = λ x s. passes has_network (λ m. m.dl_type) a b r x refl fields.is_dl_type s in
    let ports : (x : Pattern) → OneOf x a b → IsTrue (has_ports x.dl_type x.nw_proto) → IsTrue (has_ports r.dl_type r.nw_proto) = λ x s. ports_too a b r x e s in
    let each : IsTrue (is_exact r) → AllTrue (is_given r.in_port) (is_given r.dl_src) (is_given r.dl_dst) (is_given r.dl_vlan) (is_given r.dl_vlan_pcp) (is_given r.dl_type) (is_given r.nw_tos) (is_given r.nw_proto) (is_whole r.nw_src) (is_whole r.nw_dst) (is_given r.tp_src) (is_given r.tp_dst) =
    each_true (is_given r.in_port) (is_given r.dl_src) (is_given r.dl_dst) (is_given r.dl_vlan) (is_given r.dl_vlan_pcp) (is_given r.dl_type) (is_given r.nw_tos) (is_given r.nw_proto) (is_whole r.nw_src) (is_whole r.nw_dst) (is_given r.tp_src) (is_given r.tp_dst) in (
      range,
      applied_same r (record {
        on_dl_vlan_pcp = kept_too is_given 0 (λ m. has_vlan m.dl_vlan) (λ m. m.dl_vlan_pcp) a b r refl (λ x s. passes has_vlan (λ m. m.dl_vlan) a b r x refl fields.is_dl_vlan s)
            exact (λ x. (each x).is_dl_vlan_pcp) fa.on_dl_vlan_pcp fb.on_dl_vlan_pcp (from_either a.dl_vlan_pcp b.dl_vlan_pcp r.dl_vlan_pcp fields.is_dl_vlan_pcp);
        on_nw_tos = kept_too is_given 0 (λ m. has_service m.dl_type) (λ m. m.nw_tos) a b r refl (λ x s. passes has_service (λ m. m.dl_type) a b r x refl fields.is_dl_type s)
            exact (λ x. (each x).is_nw_tos) fa.on_nw_tos fb.on_nw_tos (from_either a.nw_tos b.nw_tos r.nw_tos fields.is_nw_tos);
        on_nw_proto = kept_too is_given 0 (λ m. has_network m.dl_type) (λ m. m.nw_proto) a b r refl network
            exact (λ x. (each x).is_nw_proto) fa.on_nw_proto fb.on_nw_proto (from_either a.nw_proto b.nw_proto r.nw_proto fields.is_nw_proto);
        on_nw_src = kept_too is_whole zero_address (λ m. has_network m.dl_type) (λ m. m.nw_src) a b r refl network
            exact (λ x. (each x).is_nw_src) fa.on_nw_src fb.on_nw_src (prefix_from_either a.nw_src b.nw_src r.nw_src fields.is_nw_src);
        on_nw_dst = kept_too is_whole zero_address (λ m. has_network m.dl_type) (λ m. m.nw_dst) a b r refl network
            exact (λ x. (each x).is_nw_dst) fa.on_nw_dst fb.on_nw_dst (prefix_from_either a.nw_dst b.nw_dst r.nw_dst fields.is_nw_dst);
        on_tp_src = kept_too is_given 0 (λ m. has_ports m.dl_type m.nw_proto) (λ m. m.tp_src) a b r refl ports
            exact (λ x. (each x).is_tp_src) fa.on_tp_src fb.on_tp_src (from_either a.tp_src b.tp_src r.tp_src fields.is_tp_src);
        on_tp_dst = kept_too is_given 0 (λ m. has_ports m.dl_type m.nw_proto) (λ m. m.tp_dst) a b r refl ports
            exact (λ x. (each x).is_tp_dst) fa.on_tp_dst fb.on_tp_dst (from_either a.tp_dst b.tp_dst r.tp_dst fields.is_tp_dst);
      }),
    )
