-- The flat rules are plain and normal.
use Rattle.std.proofs.Common.{◌≡◌, inl, inr, IsTrue, IsSome, IfSome, Bool, Option, Some, refl, sym, subst}
use Rattle.of10_model.specs.declared.pattern.Pattern.{Pattern}
use Rattle.of10_model.specs.Normal.{has_vlan, has_network, has_service, has_ports}
use Rattle.of10_model.specs.Meet.{meet_of}
use Rattle.of10_model.proofs.Meeting.{meet_fields}
use Rattle.of10_model.proofs.MeetNormal.{OneOf, from_either, prefix_from_either, holds_too, passes, ports_too}
use Rattle.flowspace.specs.declared.rules.Rule.{Rule}
use Rattle.flowspace.specs.Rules.{IsInPort, IsVlan, IsPlainRule}

-- what a field needs
abbrev Needs : {C : Type 0} → (Pattern → Option C) → (Pattern → Bool) → Pattern → Type 0
Needs f needed m = IsSome (f m) → IsTrue (needed m)

given_as : {C : Type 0} (f : Pattern → Option C) (needed : Pattern → Bool) (r x : Pattern) → f r ≡ f x → (IsTrue (needed x) → IsTrue (needed r)) → Needs f needed x → Needs f needed r
given_as f needed r x e there needs = λ given. there (needs (rw e at given))

-- where each of the two has what it needs, so has the meet
needs_too : {C : Type 0} (f : Pattern → Option C) (needed : Pattern → Bool) (a b r : Pattern) → OneOf (f r) (f a) (f b) → ((x : Pattern) → OneOf x a b → IsTrue (needed x) → IsTrue (needed r))
    → Needs f needed a → Needs f needed b → Needs f needed r
needs_too f needed a b r (inl e) there na nb = given_as f needed r a e (there a (inl refl)) na
needs_too f needed a b r (inr e) there na nb = given_as f needed r b e (there b (inr refl)) nb

-- a rule of the meet of two plain rules' matches is plain
pub plain_meet : (r q p : Rule) → meet_of r.pattern q.pattern ≡ Some p.pattern → IsPlainRule r → IsPlainRule q → IsPlainRule p
plain_meet r q p e x y =
    let a = r.pattern in
    let b = q.pattern in
    let m = p.pattern in
    let fields = meet_fields a b m e in
    let network : (z : Pattern) → OneOf z a b → IsTrue (has_network z.dl_type) → IsTrue (has_network m.dl_type) = λ z s. passes has_network (λ k. k.dl_type) a b m z refl fields.is_dl_type s in
    let ports : (z : Pattern) → OneOf z a b → IsTrue (has_ports z.dl_type z.nw_proto) → IsTrue (has_ports m.dl_type m.nw_proto) = λ z s. ports_too a b m z e s in
    record {
      in_port = holds_too (λ c. IfSome c IsInPort) a.in_port b.in_port m.in_port (from_either a.in_port b.in_port m.in_port fields.is_in_port) x.in_port y.in_port;
      dl_vlan = holds_too (λ c. IfSome c IsVlan) a.dl_vlan b.dl_vlan m.dl_vlan (from_either a.dl_vlan b.dl_vlan m.dl_vlan fields.is_dl_vlan) x.dl_vlan y.dl_vlan;
      dl_vlan_pcp = needs_too (λ k. k.dl_vlan_pcp) (λ k. has_vlan k.dl_vlan) a b m (from_either a.dl_vlan_pcp b.dl_vlan_pcp m.dl_vlan_pcp fields.is_dl_vlan_pcp)
          (λ z s. passes has_vlan (λ k. k.dl_vlan) a b m z refl fields.is_dl_vlan s) x.dl_vlan_pcp y.dl_vlan_pcp;
      nw_tos = needs_too (λ k. k.nw_tos) (λ k. has_service k.dl_type) a b m (from_either a.nw_tos b.nw_tos m.nw_tos fields.is_nw_tos)
          (λ z s. passes has_service (λ k. k.dl_type) a b m z refl fields.is_dl_type s) x.nw_tos y.nw_tos;
      nw_proto = needs_too (λ k. k.nw_proto) (λ k. has_network k.dl_type) a b m (from_either a.nw_proto b.nw_proto m.nw_proto fields.is_nw_proto) network x.nw_proto y.nw_proto;
      nw_src = needs_too (λ k. k.nw_src) (λ k. has_network k.dl_type) a b m (prefix_from_either a.nw_src b.nw_src m.nw_src fields.is_nw_src) network x.nw_src y.nw_src;
      nw_dst = needs_too (λ k. k.nw_dst) (λ k. has_network k.dl_type) a b m (prefix_from_either a.nw_dst b.nw_dst m.nw_dst fields.is_nw_dst) network x.nw_dst y.nw_dst;
      tp_src = needs_too (λ k. k.tp_src) (λ k. has_ports k.dl_type k.nw_proto) a b m (from_either a.tp_src b.tp_src m.tp_src fields.is_tp_src) ports x.tp_src y.tp_src;
      tp_dst = needs_too (λ k. k.tp_dst) (λ k. has_ports k.dl_type k.nw_proto) a b m (from_either a.tp_dst b.tp_dst m.tp_dst fields.is_tp_dst) ports x.tp_dst y.tp_dst;
    }

-- and so is one of a plain rule's match
pub plain_as : (r p : Rule) → p.pattern ≡ r.pattern → IsPlainRule r → IsPlainRule p
plain_as r p e x = record {
  in_port = subst (λ (m : Pattern). IfSome m.in_port IsInPort) (sym e) x.in_port;
  dl_vlan = subst (λ (m : Pattern). IfSome m.dl_vlan IsVlan) (sym e) x.dl_vlan;
  dl_vlan_pcp = subst (Needs (λ k. k.dl_vlan_pcp) (λ k. has_vlan k.dl_vlan)) (sym e) x.dl_vlan_pcp;
  nw_tos = subst (Needs (λ k. k.nw_tos) (λ k. has_service k.dl_type)) (sym e) x.nw_tos;
  nw_proto = subst (Needs (λ k. k.nw_proto) (λ k. has_network k.dl_type)) (sym e) x.nw_proto;
  nw_src = subst (Needs (λ k. k.nw_src) (λ k. has_network k.dl_type)) (sym e) x.nw_src;
  nw_dst = subst (Needs (λ k. k.nw_dst) (λ k. has_network k.dl_type)) (sym e) x.nw_dst;
  tp_src = subst (Needs (λ k. k.tp_src) (λ k. has_ports k.dl_type k.nw_proto)) (sym e) x.tp_src;
  tp_dst = subst (Needs (λ k. k.tp_dst) (λ k. has_ports k.dl_type k.nw_proto)) (sym e) x.tp_dst;
}
