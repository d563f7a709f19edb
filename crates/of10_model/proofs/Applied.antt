-- Making fields without their prerequisite meaningless twice is making them so once.
use Rattle.std.proofs.Common.{ℕ, ◌≡◌, Bool, true, false, IsTrue, if◌then◌else◌, Option, Some, None, refl, sym, inl, inr, ◌∙◌, List, slice_index, ◌<◌}
use Rattle.std.proofs.lemmas.Bool.{cases_Bool, false_from_ne_true, true≢false}
use Rattle.of10_model.specs.declared.pattern.Prefix.{Prefix}
use Rattle.of10_model.specs.declared.pattern.Pattern.{Pattern}
use Rattle.of10_model.specs.Normal.{is_given, is_whole, is_exact, has_vlan, has_network, has_service, has_ports, kept, kept_prefix, spelled, applied, Norm, IsNormal}
use Rattle.of10_model.proofs.Twelve.{each_true, true_of_each}
use Rattle.of10_model.proofs.Ranges.{IsInRange-spelled, IsInRange-applied}

-- a constraint where it is needed, and otherwise what an all-exact match or another one has in its place
abbrev pub kept_or : {C : Type 0} → C → Bool → Bool → Option C → Option C
kept_or zero exact needed c = if needed then c else (if exact then Some zero else None)

abbrev pub zero_address : Prefix
zero_address = record { bits = 32; value = 0 }

-- ---- whether a match is all-exact stays

given_kept : {C : Type 0} (given : Option C → Bool) (zero : C) (exact needed : Bool) (c : Option C) → IsTrue (given (Some zero)) → exact ≡ true → IsTrue (given c) → IsTrue (given (kept_or zero exact needed c))
given_kept given zero exact true c z e h = h
given_kept given zero true false c z e h = z
given_kept given zero false false c z e h = absurd (true≢false (sym e))

kept_given : {C : Type 0} (given : Option C → Bool) (zero : C) (exact needed : Bool) (c : Option C) → given None ≡ false → exact ≡ false → IsTrue (given (kept_or zero exact needed c)) → IsTrue (given c)
kept_given given zero exact true c n e h = h
kept_given given zero true false c n e h = absurd (true≢false e)
kept_given given zero false false c n e h = absurd (true≢false (sym h ∙ n))

exact_stays : (m : Pattern) → is_exact m ≡ true → IsTrue (is_exact (applied m))
unfolding applied
exact_stays m e =
    let proto = kept (is_exact m) (has_network m.dl_type) m.nw_proto in
    let each = each_true (is_given m.in_port) (is_given m.dl_src) (is_given m.dl_dst) (is_given m.dl_vlan) (is_given m.dl_vlan_pcp) (is_given m.dl_type) (is_given m.nw_tos) (is_given m.nw_proto) (is_whole m.nw_src) (is_whole m.nw_dst) (is_given m.tp_src) (is_given m.tp_dst) e in
    true_of_each (is_given m.in_port) (is_given m.dl_src) (is_given m.dl_dst) (is_given m.dl_vlan) (is_given (kept (is_exact m) (has_vlan m.dl_vlan) m.dl_vlan_pcp)) (is_given m.dl_type) (is_given (kept (is_exact m) (has_service m.dl_type) m.nw_tos)) (is_given (kept (is_exact m) (has_network m.dl_type) m.nw_proto)) (is_whole (kept_prefix (is_exact m) (has_network m.dl_type) m.nw_src)) (is_whole (kept_prefix (is_exact m) (has_network m.dl_type) m.nw_dst)) (is_given (kept (is_exact m) (has_ports m.dl_type proto) m.tp_src)) (is_given (kept (is_exact m) (has_ports m.dl_type proto) m.tp_dst))
    (record {
      is_in_port = each.is_in_port;
      is_dl_src = each.is_dl_src;
      is_dl_dst = each.is_dl_dst;
      is_dl_vlan = each.is_dl_vlan;
      is_dl_vlan_pcp = given_kept is_given 0 (is_exact m) (has_vlan m.dl_vlan) m.dl_vlan_pcp refl e each.is_dl_vlan_pcp;
      is_dl_type = each.is_dl_type;
      is_nw_tos = given_kept is_given 0 (is_exact m) (has_service m.dl_type) m.nw_tos refl e each.is_nw_tos;
      is_nw_proto = given_kept is_given 0 (is_exact m) (has_network m.dl_type) m.nw_proto refl e each.is_nw_proto;
      is_nw_src = given_kept is_whole zero_address (is_exact m) (has_network m.dl_type) m.nw_src refl e each.is_nw_src;
      is_nw_dst = given_kept is_whole zero_address (is_exact m) (has_network m.dl_type) m.nw_dst refl e each.is_nw_dst;
      is_tp_src = given_kept is_given 0 (is_exact m) (has_ports m.dl_type proto) m.tp_src refl e each.is_tp_src;
      is_tp_dst = given_kept is_given 0 (is_exact m) (has_ports m.dl_type proto) m.tp_dst refl e each.is_tp_dst;
    })

exact_before : (m : Pattern) → is_exact m ≡ false → IsTrue (is_exact (applied m)) → IsTrue (is_exact m)
unfolding applied
exact_before m e h =
    let proto = kept (is_exact m) (has_network m.dl_type) m.nw_proto in
    let each = each_true (is_given m.in_port) (is_given m.dl_src) (is_given m.dl_dst) (is_given m.dl_vlan) (is_given (kept (is_exact m) (has_vlan m.dl_vlan) m.dl_vlan_pcp)) (is_given m.dl_type) (is_given (kept (is_exact m) (has_service m.dl_type) m.nw_tos)) (is_given (kept (is_exact m) (has_network m.dl_type) m.nw_proto)) (is_whole (kept_prefix (is_exact m) (has_network m.dl_type) m.nw_src)) (is_whole (kept_prefix (is_exact m) (has_network m.dl_type) m.nw_dst)) (is_given (kept (is_exact m) (has_ports m.dl_type proto) m.tp_src)) (is_given (kept (is_exact m) (has_ports m.dl_type proto) m.tp_dst)) h in
    true_of_each (is_given m.in_port) (is_given m.dl_src) (is_given m.dl_dst) (is_given m.dl_vlan) (is_given m.dl_vlan_pcp) (is_given m.dl_type) (is_given m.nw_tos) (is_given m.nw_proto) (is_whole m.nw_src) (is_whole m.nw_dst) (is_given m.tp_src) (is_given m.tp_dst)
    (record {
      is_in_port = each.is_in_port;
      is_dl_src = each.is_dl_src;
      is_dl_dst = each.is_dl_dst;
      is_dl_vlan = each.is_dl_vlan;
      is_dl_vlan_pcp = kept_given is_given 0 (is_exact m) (has_vlan m.dl_vlan) m.dl_vlan_pcp refl e each.is_dl_vlan_pcp;
      is_dl_type = each.is_dl_type;
      is_nw_tos = kept_given is_given 0 (is_exact m) (has_service m.dl_type) m.nw_tos refl e each.is_nw_tos;
      is_nw_proto = kept_given is_given 0 (is_exact m) (has_network m.dl_type) m.nw_proto refl e each.is_nw_proto;
      is_nw_src = kept_given is_whole zero_address (is_exact m) (has_network m.dl_type) m.nw_src refl e each.is_nw_src;
      is_nw_dst = kept_given is_whole zero_address (is_exact m) (has_network m.dl_type) m.nw_dst refl e each.is_nw_dst;
      is_tp_src = kept_given is_given 0 (is_exact m) (has_ports m.dl_type proto) m.tp_src refl e each.is_tp_src;
      is_tp_dst = kept_given is_given 0 (is_exact m) (has_ports m.dl_type proto) m.tp_dst refl e each.is_tp_dst;
    })

pub is_exact-applied : (m : Pattern) → is_exact (applied m) ≡ is_exact m
is_exact-applied m =
    elim (cases_Bool (is_exact m)) [
      | inl e ↦ exact_stays m e ∙ sym e
      | inr e ↦ false_from_ne_true (is_exact (applied m)) (λ h. true≢false (sym (exact_before m e h) ∙ e)) ∙ sym e
    ]

-- ---- a field that is kept or meaningless stays so

kept_twice : {C : Type 0} (zero : C) (exact needed : Bool) (c : Option C) → kept_or zero exact needed (kept_or zero exact needed c) ≡ kept_or zero exact needed c
kept_twice zero exact true c = refl
kept_twice zero exact false c = refl

kept_again : {C : Type 0} (zero : C) (e f n o : Bool) (c : Option C) → f ≡ e → o ≡ n → kept_or zero f o (kept_or zero e n c) ≡ kept_or zero e n c
kept_again zero e f n o c p q = rw (p, q) (kept_twice zero e n c)

-- two prefixes with the same parts are one
pub same_parts : (p q : Prefix) → p.bits ≡ q.bits → p.value ≡ q.value → p ≡ q
same_parts p q bits value = rw (bits, value) refl

pub record SameFields (a b : Pattern) : Type 0 where
  pub in_port : a.in_port ≡ b.in_port
  pub dl_src : a.dl_src ≡ b.dl_src
  pub dl_dst : a.dl_dst ≡ b.dl_dst
  pub dl_vlan : a.dl_vlan ≡ b.dl_vlan
  pub dl_vlan_pcp : a.dl_vlan_pcp ≡ b.dl_vlan_pcp
  pub dl_type : a.dl_type ≡ b.dl_type
  pub nw_tos : a.nw_tos ≡ b.nw_tos
  pub nw_proto : a.nw_proto ≡ b.nw_proto
  pub nw_src : a.nw_src ≡ b.nw_src
  pub nw_dst : a.nw_dst ≡ b.nw_dst
  pub tp_src : a.tp_src ≡ b.tp_src
  pub tp_dst : a.tp_dst ≡ b.tp_dst

-- two matches with the same constraints are one
pub same_fields : (a b : Pattern) → SameFields a b → a ≡ b
same_fields a b e = rw (e.in_port, e.dl_src, e.dl_dst, e.dl_vlan, e.dl_vlan_pcp, e.dl_type, e.nw_tos, e.nw_proto, e.nw_src, e.nw_dst, e.tp_src, e.tp_dst) refl

pub applied-applied : (m : Pattern) → applied (applied m) ≡ applied m
unfolding applied
applied-applied m =
    let same = is_exact-applied m in
    let proto = kept (is_exact m) (has_network m.dl_type) m.nw_proto in
    let again : kept (is_exact (applied m)) (has_network m.dl_type) proto ≡ proto =
    kept_again 0 (is_exact m) (is_exact (applied m)) (has_network m.dl_type) (has_network m.dl_type) m.nw_proto same refl in
    let ports : has_ports m.dl_type (kept (is_exact (applied m)) (has_network m.dl_type) proto) ≡ has_ports m.dl_type proto = rw again refl in
    same_fields (applied (applied m)) (applied m) (record {
      in_port = refl;
      dl_src = refl;
      dl_dst = refl;
      dl_vlan = refl;
      dl_vlan_pcp = kept_again 0 (is_exact m) (is_exact (applied m)) (has_vlan m.dl_vlan) (has_vlan m.dl_vlan) m.dl_vlan_pcp same refl;
      dl_type = refl;
      nw_tos = kept_again 0 (is_exact m) (is_exact (applied m)) (has_service m.dl_type) (has_service m.dl_type) m.nw_tos same refl;
      nw_proto = again;
      nw_src = kept_again zero_address (is_exact m) (is_exact (applied m)) (has_network m.dl_type) (has_network m.dl_type) m.nw_src same refl;
      nw_dst = kept_again zero_address (is_exact m) (is_exact (applied m)) (has_network m.dl_type) (has_network m.dl_type) m.nw_dst same refl;
      tp_src = kept_again 0 (is_exact m) (is_exact (applied m)) (has_ports m.dl_type proto) (has_ports m.dl_type (kept (is_exact (applied m)) (has_network m.dl_type) proto)) m.tp_src same ports;
      tp_dst = kept_again 0 (is_exact m) (is_exact (applied m)) (has_ports m.dl_type proto) (has_ports m.dl_type (kept (is_exact (applied m)) (has_network m.dl_type) proto)) m.tp_dst same ports;
    })

-- the normal form of any 40 bytes is normal
pub IsNormal-Norm : (bytes : List ℕ) → ((k : ℕ) → slice_index bytes k < 256) → IsNormal (Norm bytes)
IsNormal-Norm bytes h = (IsInRange-applied (spelled bytes) (IsInRange-spelled bytes h), applied-applied (spelled bytes))
