-- The cover of a normal match is normal.
use Rattle.std.proofs.Common.{IsTrue, ℕ, ◌≡◌, ◌==◌, ◌&&◌, ◌||◌, ◌*◌, ◌/◌, ◌%◌, inl, inr, eqb-true, Bool, true, false, if◌then◌else◌, Option, Some, refl, sym, ◌∙◌, arith, rules}
use Rattle.std.proofs.lemmas.Bool.{true≢false, and_parts, and_from, cases_Bool}
use Rattle.of10_model.specs.declared.pattern.Pattern.{Pattern}
use Rattle.of10_model.specs.Normal.{is_value, is_given, is_whole, is_exact, has_vlan, has_network, has_service, has_ports, meaningless, meaningless_prefix, applied}
use Rattle.of10_model.proofs.Twelve.{AllTrue, each_true}
use Rattle.of10_model.proofs.Applied.{zero_address}
use Rattle.of10_model.proofs.NormalFields.{normal_fields, applied_same, as_before, kept_set}
use Rattle.of10_action.specs.declared.action.Action.{Action}
use Rattle.of10_action.specs.declared.action.Action.TheVariants.{Output, SetVlanVid, SetVlanPcp, StripVlan, SetDlSrc, SetDlDst, SetNwSrc, SetNwDst, SetNwTos, SetTpSrc, SetTpDst, Enqueue}
use Rattle.match_meet.specs.Rewriting.{whole, names_tcp_or_udp, cover_of}

needed : {A : Type 0} (n : Bool) → IsTrue n → n ≡ false → A
needed n t f = absurd (true≢false (sym t ∙ f))

-- ---- all fields

-- a match whose fields that lack their prerequisites are meaningless as another match's are
normal_set : (m r : Pattern) → (IsTrue (is_exact m) → IsTrue (is_exact r))
    → ((has_vlan r.dl_vlan) ≡ false → r.dl_vlan_pcp ≡ meaningless (is_exact m))
    → ((has_service r.dl_type) ≡ false → r.nw_tos ≡ meaningless (is_exact m))
    → ((has_network r.dl_type) ≡ false → r.nw_proto ≡ meaningless (is_exact m))
    → ((has_network r.dl_type) ≡ false → r.nw_src ≡ meaningless_prefix (is_exact m))
    → ((has_network r.dl_type) ≡ false → r.nw_dst ≡ meaningless_prefix (is_exact m))
    → ((has_ports r.dl_type r.nw_proto) ≡ false → r.tp_src ≡ meaningless (is_exact m))
    → ((has_ports r.dl_type r.nw_proto) ≡ false → r.tp_dst ≡ meaningless (is_exact m))
    → applied r ≡ r
normal_set m r x pcp tos proto source destination tp_source tp_destination =
    let each : IsTrue (is_exact r) → AllTrue (is_given r.in_port) (is_given r.dl_src) (is_given r.dl_dst) (is_given r.dl_vlan) (is_given r.dl_vlan_pcp) (is_given r.dl_type) (is_given r.nw_tos) (is_given r.nw_proto) (is_whole r.nw_src) (is_whole r.nw_dst) (is_given r.tp_src) (is_given r.tp_dst) =
    each_true (is_given r.in_port) (is_given r.dl_src) (is_given r.dl_dst) (is_given r.dl_vlan) (is_given r.dl_vlan_pcp) (is_given r.dl_type) (is_given r.nw_tos) (is_given r.nw_proto) (is_whole r.nw_src) (is_whole r.nw_dst) (is_given r.tp_src) (is_given r.tp_dst) in
    applied_same r (record {
      on_dl_vlan_pcp = kept_set is_given 0 (is_exact m) (is_exact r) (has_vlan r.dl_vlan) r.dl_vlan_pcp refl pcp x (λ e. (each e).is_dl_vlan_pcp);
      on_nw_tos = kept_set is_given 0 (is_exact m) (is_exact r) (has_service r.dl_type) r.nw_tos refl tos x (λ e. (each e).is_nw_tos);
      on_nw_proto = kept_set is_given 0 (is_exact m) (is_exact r) (has_network r.dl_type) r.nw_proto refl proto x (λ e. (each e).is_nw_proto);
      on_nw_src = kept_set is_whole zero_address (is_exact m) (is_exact r) (has_network r.dl_type) r.nw_src refl source x (λ e. (each e).is_nw_src);
      on_nw_dst = kept_set is_whole zero_address (is_exact m) (is_exact r) (has_network r.dl_type) r.nw_dst refl destination x (λ e. (each e).is_nw_dst);
      on_tp_src = kept_set is_given 0 (is_exact m) (is_exact r) (has_ports r.dl_type r.nw_proto) r.tp_src refl tp_source x (λ e. (each e).is_tp_src);
      on_tp_dst = kept_set is_given 0 (is_exact m) (is_exact r) (has_ports r.dl_type r.nw_proto) r.tp_dst refl tp_destination x (λ e. (each e).is_tp_dst);
    })

network : (kind : Option ℕ) → IsTrue (is_value 0x0800 kind) → IsTrue (has_network kind)
network kind t = rw t refl

among : (a b c : Bool) → IsTrue (b || c) → IsTrue (a || b || c)
among true b c h = refl
among false b c h = h

ports : (kind proto : Option ℕ) → IsTrue (is_value 0x0800 kind && (is_value 6 proto || is_value 17 proto)) → IsTrue (has_ports kind proto)
ports kind proto t =
    let parts = and_parts (is_value 0x0800 kind) (is_value 6 proto || is_value 17 proto) t in
    and_from (is_value 0x0800 kind) (is_value 1 proto || is_value 6 proto || is_value 17 proto) parts.0
    (among (is_value 1 proto) (is_value 6 proto) (is_value 17 proto) parts.1)

-- a match's own seven fields that have a prerequisite
record Own (m : Pattern) : Type 0 where
  pcp : has_vlan m.dl_vlan ≡ false → m.dl_vlan_pcp ≡ meaningless (is_exact m)
  tos : has_service m.dl_type ≡ false → m.nw_tos ≡ meaningless (is_exact m)
  proto : has_network m.dl_type ≡ false → m.nw_proto ≡ meaningless (is_exact m)
  source : has_network m.dl_type ≡ false → m.nw_src ≡ meaningless_prefix (is_exact m)
  destination : has_network m.dl_type ≡ false → m.nw_dst ≡ meaningless_prefix (is_exact m)
  tp_source : has_ports m.dl_type m.nw_proto ≡ false → m.tp_src ≡ meaningless (is_exact m)
  tp_destination : has_ports m.dl_type m.nw_proto ≡ false → m.tp_dst ≡ meaningless (is_exact m)

own : (m : Pattern) → applied m ≡ m → Own m
own m e =
    let n = normal_fields m e in
    record {
      pcp = as_before 0 (is_exact m) (has_vlan m.dl_vlan) m.dl_vlan_pcp n.on_dl_vlan_pcp;
      tos = as_before 0 (is_exact m) (has_service m.dl_type) m.nw_tos n.on_nw_tos;
      proto = as_before 0 (is_exact m) (has_network m.dl_type) m.nw_proto n.on_nw_proto;
      source = as_before zero_address (is_exact m) (has_network m.dl_type) m.nw_src n.on_nw_src;
      destination = as_before zero_address (is_exact m) (has_network m.dl_type) m.nw_dst n.on_nw_dst;
      tp_source = as_before 0 (is_exact m) (has_ports m.dl_type m.nw_proto) m.tp_src n.on_tp_src;
      tp_destination = as_before 0 (is_exact m) (has_ports m.dl_type m.nw_proto) m.tp_dst n.on_tp_dst;
    }

-- a VLAN number of twelve bits is not the number for untagged packets
short_vlan : (vlan : ℕ) → IsTrue (has_vlan (Some (vlan % 4096)))
short_vlan vlan = elim (cases_Bool (vlan % 4096 == 0xffff)) [
  | inl e ↦ (let same = eqb-true (vlan % 4096) 0xffff e in absurd (omega arith))
  | inr e ↦ rw e refl
]

pcp_given : (t : Bool) (c : Option ℕ) → IsTrue (is_given c) → IsTrue (is_given (if t then Some 0 else c))
pcp_given true c h = refl
pcp_given false c h = h

meaningless_given : (e : Bool) → IsTrue e → IsTrue (is_given (meaningless e))
meaningless_given true h = refl
meaningless_given false h = absurd (true≢false (sym h))

-- ---- each change, by the fields that it sets

-- a match in normal form
abbrev IsFixed : Pattern → Type 0
IsFixed m = applied m ≡ m

normal_vlan : (m : Pattern) (vlan : ℕ) → Own m → IsFixed (record m { dl_vlan = Some (vlan % 4096); dl_vlan_pcp = if is_value 0xffff m.dl_vlan then Some 0 else m.dl_vlan_pcp })
normal_vlan m vlan o =
    normal_set m (record m { dl_vlan = Some (vlan % 4096); dl_vlan_pcp = if is_value 0xffff m.dl_vlan then Some 0 else m.dl_vlan_pcp }) (λ x. let each = each_true (is_given m.in_port) (is_given m.dl_src) (is_given m.dl_dst) (is_given m.dl_vlan) (is_given m.dl_vlan_pcp) (is_given m.dl_type) (is_given m.nw_tos) (is_given m.nw_proto) (is_whole m.nw_src) (is_whole m.nw_dst) (is_given m.tp_src) (is_given m.tp_dst) x in let given = pcp_given (is_value 0xffff m.dl_vlan) m.dl_vlan_pcp each.is_dl_vlan_pcp in search rules)
    (needed (has_vlan (Some (vlan % 4096))) (short_vlan vlan)) o.tos o.proto o.source o.destination o.tp_source o.tp_destination

normal_tagged : (m : Pattern) (priority : ℕ) → Own m → IsFixed (record m { dl_vlan = Some 0; dl_vlan_pcp = Some priority })
normal_tagged m priority o =
    normal_set m (record m { dl_vlan = Some 0; dl_vlan_pcp = Some priority }) (λ x. search rules)
    (needed (has_vlan (Some 0)) refl) o.tos o.proto o.source o.destination o.tp_source o.tp_destination

normal_priority : (m : Pattern) (priority : ℕ) → Own m → IsTrue (has_vlan m.dl_vlan) → IsFixed (record m { dl_vlan_pcp = Some priority })
normal_priority m priority o t =
    normal_set m (record m { dl_vlan_pcp = Some priority }) (λ x. search rules)
    (needed (has_vlan m.dl_vlan) t) o.tos o.proto o.source o.destination o.tp_source o.tp_destination

normal_strip : (m : Pattern) → Own m → IsFixed (record m { dl_vlan = Some 0xffff; dl_vlan_pcp = meaningless (is_exact m) })
normal_strip m o =
    normal_set m (record m { dl_vlan = Some 0xffff; dl_vlan_pcp = meaningless (is_exact m) }) (λ x. let given = meaningless_given (is_exact m) x in search rules)
    (λ f. refl) o.tos o.proto o.source o.destination o.tp_source o.tp_destination

normal_dl_src : (m : Pattern) (address : ℕ) → Own m → IsFixed (record m { dl_src = Some address })
normal_dl_src m address o =
    normal_set m (record m { dl_src = Some address }) (λ x. search rules)
    o.pcp o.tos o.proto o.source o.destination o.tp_source o.tp_destination

normal_dl_dst : (m : Pattern) (address : ℕ) → Own m → IsFixed (record m { dl_dst = Some address })
normal_dl_dst m address o =
    normal_set m (record m { dl_dst = Some address }) (λ x. search rules)
    o.pcp o.tos o.proto o.source o.destination o.tp_source o.tp_destination

normal_nw_src : (m : Pattern) (address : ℕ) → Own m → IsTrue (is_value 0x0800 m.dl_type) → IsFixed (record m { nw_src = whole address })
normal_nw_src m address o t =
    normal_set m (record m { nw_src = whole address }) (λ x. search rules)
    o.pcp o.tos o.proto (needed (has_network m.dl_type) (network m.dl_type t)) o.destination o.tp_source o.tp_destination

normal_nw_dst : (m : Pattern) (address : ℕ) → Own m → IsTrue (is_value 0x0800 m.dl_type) → IsFixed (record m { nw_dst = whole address })
normal_nw_dst m address o t =
    normal_set m (record m { nw_dst = whole address }) (λ x. search rules)
    o.pcp o.tos o.proto o.source (needed (has_network m.dl_type) (network m.dl_type t)) o.tp_source o.tp_destination

normal_nw_tos : (m : Pattern) (service : ℕ) → Own m → IsTrue (is_value 0x0800 m.dl_type) → IsFixed (record m { nw_tos = Some service })
normal_nw_tos m service o t =
    normal_set m (record m { nw_tos = Some service }) (λ x. search rules)
    o.pcp (needed (has_service m.dl_type) t) o.proto o.source o.destination o.tp_source o.tp_destination

normal_tp_src : (m : Pattern) (port : ℕ) → Own m → IsTrue (names_tcp_or_udp m) → IsFixed (record m { tp_src = Some port })
normal_tp_src m port o t =
    normal_set m (record m { tp_src = Some port }) (λ x. search rules)
    o.pcp o.tos o.proto o.source o.destination (needed (has_ports m.dl_type m.nw_proto) (ports m.dl_type m.nw_proto t)) o.tp_destination

normal_tp_dst : (m : Pattern) (port : ℕ) → Own m → IsTrue (names_tcp_or_udp m) → IsFixed (record m { tp_dst = Some port })
normal_tp_dst m port o t =
    normal_set m (record m { tp_dst = Some port }) (λ x. search rules)
    o.pcp o.tos o.proto o.source o.destination o.tp_source (needed (has_ports m.dl_type m.nw_proto) (ports m.dl_type m.nw_proto t))

-- ---- all actions

either : (t : Bool) (r m : Pattern) → (IsTrue t → IsFixed r) → IsFixed m → IsFixed (if t then r else m)
either true r m p q = p refl
either false r m p q = q

pub applied-cover_of : (m : Pattern) (action : Action) → applied m ≡ m → applied (cover_of m action) ≡ cover_of m action
applied-cover_of m (Output port max_len) e = e
applied-cover_of m (SetVlanVid vlan) e = normal_vlan m vlan (own m e)
applied-cover_of m (SetVlanPcp priority) e =
    let changed : Pattern = record m { dl_vlan_pcp = Some (priority % 8) } in
    either (is_value 0xffff m.dl_vlan) (record m { dl_vlan = Some 0; dl_vlan_pcp = Some (priority % 8) }) (if has_vlan m.dl_vlan then changed else m)
    (λ t. normal_tagged m (priority % 8) (own m e))
    (either (has_vlan m.dl_vlan) changed m (λ t. normal_priority m (priority % 8) (own m e) t) e)
applied-cover_of m StripVlan e = normal_strip m (own m e)
applied-cover_of m (SetDlSrc address) e = normal_dl_src m address (own m e)
applied-cover_of m (SetDlDst address) e = normal_dl_dst m address (own m e)
applied-cover_of m (SetNwSrc address) e =
    either (is_value 0x0800 m.dl_type) (record m { nw_src = whole address }) m (λ t. normal_nw_src m address (own m e) t) e
applied-cover_of m (SetNwDst address) e =
    either (is_value 0x0800 m.dl_type) (record m { nw_dst = whole address }) m (λ t. normal_nw_dst m address (own m e) t) e
applied-cover_of m (SetNwTos service) e =
    either (is_value 0x0800 m.dl_type) (record m { nw_tos = Some (service / 4 * 4) }) m (λ t. normal_nw_tos m (service / 4 * 4) (own m e) t) e
applied-cover_of m (SetTpSrc port) e =
    either (names_tcp_or_udp m) (record m { tp_src = Some port }) m (λ t. normal_tp_src m port (own m e) t) e
applied-cover_of m (SetTpDst port) e =
    either (names_tcp_or_udp m) (record m { tp_dst = Some port }) m (λ t. normal_tp_dst m port (own m e) t) e
applied-cover_of m (Enqueue port queue) e = e
