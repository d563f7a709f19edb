-- What it is for a match to be normal, field by field.
use Rattle.std.proofs.Common.{ℕ, ◌≡◌, Bool, true, false, IsTrue, if◌then◌else◌, Option, Some, None, refl, sym, ◌∙◌, ap}
use Rattle.std.proofs.lemmas.Bool.{true≢false}
use Rattle.of10_model.specs.declared.pattern.Pattern.{Pattern}
use Rattle.of10_model.specs.Normal.{is_exact, has_vlan, has_network, has_service, has_ports, kept, kept_prefix, applied}
use Rattle.of10_model.proofs.Applied.{kept_or, same_fields}

-- each field without its prerequisite is meaningless already
pub record NormalFields (m : Pattern) : Type 0 where
  pub on_dl_vlan_pcp : kept (is_exact m) (has_vlan m.dl_vlan) m.dl_vlan_pcp ≡ m.dl_vlan_pcp
  pub on_nw_tos : kept (is_exact m) (has_service m.dl_type) m.nw_tos ≡ m.nw_tos
  pub on_nw_proto : kept (is_exact m) (has_network m.dl_type) m.nw_proto ≡ m.nw_proto
  pub on_nw_src : kept_prefix (is_exact m) (has_network m.dl_type) m.nw_src ≡ m.nw_src
  pub on_nw_dst : kept_prefix (is_exact m) (has_network m.dl_type) m.nw_dst ≡ m.nw_dst
  pub on_tp_src : kept (is_exact m) (has_ports m.dl_type m.nw_proto) m.tp_src ≡ m.tp_src
  pub on_tp_dst : kept (is_exact m) (has_ports m.dl_type m.nw_proto) m.tp_dst ≡ m.tp_dst

kept_as : (exact : Bool) (kind proto proto' c : Option ℕ) → proto' ≡ proto → kept exact (has_ports kind proto') c ≡ c → kept exact (has_ports kind proto) c ≡ c
kept_as exact kind proto proto' c e h = rw e at h

pub normal_fields : (m : Pattern) → applied m ≡ m → NormalFields m
unfolding applied
normal_fields m e =
    let proto' = kept (is_exact m) (has_network m.dl_type) m.nw_proto in
    let proto : proto' ≡ m.nw_proto = ap (λ (p : Pattern). p.nw_proto) e in
    record {
      on_dl_vlan_pcp = ap (λ (p : Pattern). p.dl_vlan_pcp) e;
      on_nw_tos = ap (λ (p : Pattern). p.nw_tos) e;
      on_nw_proto = ap (λ (p : Pattern). p.nw_proto) e;
      on_nw_src = ap (λ (p : Pattern). p.nw_src) e;
      on_nw_dst = ap (λ (p : Pattern). p.nw_dst) e;
      on_tp_src = kept_as (is_exact m) m.dl_type m.nw_proto proto' m.tp_src proto (ap (λ (p : Pattern). p.tp_src) e);
      on_tp_dst = kept_as (is_exact m) m.dl_type m.nw_proto proto' m.tp_dst proto (ap (λ (p : Pattern). p.tp_dst) e);
    }

pub applied_same : (m : Pattern) → NormalFields m → applied m ≡ m
unfolding applied
applied_same m n =
    let proto' = kept (is_exact m) (has_network m.dl_type) m.nw_proto in
    same_fields (applied m) m (record {
      in_port = refl;
      dl_src = refl;
      dl_dst = refl;
      dl_vlan = refl;
      dl_vlan_pcp = n.on_dl_vlan_pcp;
      dl_type = refl;
      nw_tos = n.on_nw_tos;
      nw_proto = n.on_nw_proto;
      nw_src = n.on_nw_src;
      nw_dst = n.on_nw_dst;
      tp_src = kept_as (is_exact m) m.dl_type proto' m.nw_proto m.tp_src (sym n.on_nw_proto) n.on_tp_src;
      tp_dst = kept_as (is_exact m) m.dl_type proto' m.nw_proto m.tp_dst (sym n.on_nw_proto) n.on_tp_dst;
    })

-- ---- a field without its prerequisite

-- is meaningless where it is kept as it is
pub as_before : {C : Type 0} (zero : C) (exact needed : Bool) (c : Option C) → kept_or zero exact needed c ≡ c → needed ≡ false → c ≡ (if exact then Some zero else None)
as_before zero exact needed c k f = sym (rw f at k)

-- is kept as it is where it is meaningless in another match, which is all-exact at most where this one is
pub kept_set : {C : Type 0} (given : Option C → Bool) (zero : C) (other exact needed : Bool) (c : Option C) → given None ≡ false
    → (needed ≡ false → c ≡ (if other then Some zero else None)) → (IsTrue other → IsTrue exact) → (IsTrue exact → IsTrue (given c)) → kept_or zero exact needed c ≡ c
kept_set given zero other exact true c n s x g = refl
kept_set given zero true true false c n s x g = sym (s refl)
kept_set given zero true false false c n s x g = absurd (true≢false (sym (x refl)))
kept_set given zero false true false c n s x g = absurd (true≢false (sym (rw (s refl) at (g refl)) ∙ n))
kept_set given zero false false false c n s x g = sym (s refl)
