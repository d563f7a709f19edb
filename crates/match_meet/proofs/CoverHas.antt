-- The cover of a normal match has each of its headers, rewritten.
use Rattle.std.proofs.Common.{IsTrue, ℕ, ◌≡◌, ◌==◌, ◌&&◌, ◌||◌, ◌*◌, ◌/◌, ◌%◌, ◌⊎◌, inl, inr, Bool, true, false, if◌then◌else◌, Option, Some, None, refl, sym, ◌∙◌, rules}
use Rattle.std.proofs.lemmas.Bool.{true≢false, and_parts, and_from, cases_Bool, false_from_ne_true}
use Rattle.of10_model.specs.declared.pattern.Prefix.{Prefix}
use Rattle.of10_model.specs.declared.pattern.Pattern.{Pattern}
use Rattle.of10_model.specs.Header.{Header}
use Rattle.of10_model.specs.Pattern.{Meets, MeetsPrefix, Has}
use Rattle.of10_model.specs.Normal.{is_value, is_given, is_whole, is_exact, has_vlan, has_network, has_service, has_ports, meaningless, applied}
use Rattle.of10_model.proofs.Twelve.{each_true}
use Rattle.of10_model.proofs.Applied.{kept_or, zero_address}
use Rattle.of10_model.proofs.NormalFields.{NormalFields, normal_fields}
use Rattle.of10_action.specs.declared.action.Action.{Action}
use Rattle.of10_action.specs.declared.action.Action.TheVariants.{Output, SetVlanVid, SetVlanPcp, StripVlan, SetDlSrc, SetDlDst, SetNwSrc, SetNwDst, SetNwTos, SetTpSrc, SetTpDst, Enqueue}
use Rattle.match_meet.specs.Rewriting.{is_untagged, is_ipv4, is_tcp_or_udp, rewritten, whole, names_tcp_or_udp, cover_of}

-- ---- tests of a constraint and of a field

-- a field of a header in a match that names a value has that value
named : (v : ℕ) (c : Option ℕ) (x : ℕ) → Meets c x → IsTrue (is_value v c) → IsTrue (x == v)
named v None x k t = absurd (true≢false (sym t))
named v (Some w) x k t = rw k t

-- a match with a header whose field has a value that the match doesn't name leaves the field free
unnamed : (v : ℕ) (c : Option ℕ) (x : ℕ) → Meets c x → IsTrue (x == v) → is_value v c ≡ false → c ≡ None
unnamed v None x k t f = refl
unnamed v (Some w) x k t f = absurd (true≢false (sym t ∙ rw k f))

port_named : (c : Option ℕ) (x : ℕ) → Meets c x → IsTrue (is_value 6 c || is_value 17 c) → IsTrue (x == 6 || x == 17)
port_named None x k t = absurd (true≢false (sym t))
port_named (Some w) x k t = rw k t

ports_named : (kind proto : Option ℕ) (x y : ℕ) → Meets kind x → Meets proto y
    → IsTrue (is_value 0x0800 kind && (is_value 6 proto || is_value 17 proto)) → IsTrue (x == 0x0800 && (y == 6 || y == 17))
ports_named kind proto x y k l t =
    let parts = and_parts (is_value 0x0800 kind) (is_value 6 proto || is_value 17 proto) t in
    and_from (x == 0x0800) (y == 6 || y == 17) (named 0x0800 kind x k parts.0) (port_named proto y l parts.1)

ports_unnamed : (kind proto : Option ℕ) (x y : ℕ) → Meets kind x → Meets proto y → IsTrue (x == 0x0800 && (y == 6 || y == 17))
    → (is_value 0x0800 kind && (is_value 6 proto || is_value 17 proto)) ≡ false → (kind ≡ None) ⊎ (proto ≡ None)
ports_unnamed None proto x y k l t f = inl refl
ports_unnamed (Some v) None x y k l t f = inr refl
ports_unnamed (Some v) (Some w) x y k l t f = absurd (true≢false (sym t ∙ rw (k, l) f))

tagged : (c : Option ℕ) (x : ℕ) → Meets c x → IsTrue (has_vlan c) → (x == 0xffff) ≡ false
tagged None x k t = absurd (true≢false (sym t))
tagged (Some v) x k t = elim (cases_Bool (v == 0xffff)) [
  | inl e ↦ absurd (true≢false (sym (rw e at t)))
  | inr e ↦ rw (k, e) refl
]

no_vlan : (c : Option ℕ) → is_value 0xffff c ≡ false → has_vlan c ≡ false → c ≡ None
no_vlan None f g = refl
no_vlan (Some v) f g = absurd (true≢false (rw f at g))

-- ---- a match that leaves a field free leaves those free that need it

free_without : {C : Type 0} (zero : C) (e n : Bool) (c : Option C) → e ≡ false → n ≡ false → kept_or zero e n c ≡ c → c ≡ None
free_without zero e n c f g k = sym (rw (f, g) at k)

given_not_free : (c : Option ℕ) → c ≡ None → IsTrue (is_given c) → ⊥
given_not_free c e h = true≢false (sym (rw e at h))

exact_given : (m : Pattern) → IsTrue (is_exact m) → IsTrue (is_given m.dl_vlan) × IsTrue (is_given m.dl_type) × IsTrue (is_given m.nw_proto)
exact_given m h =
    let each = each_true (is_given m.in_port) (is_given m.dl_src) (is_given m.dl_dst) (is_given m.dl_vlan) (is_given m.dl_vlan_pcp) (is_given m.dl_type) (is_given m.nw_tos) (is_given m.nw_proto) (is_whole m.nw_src) (is_whole m.nw_dst) (is_given m.tp_src) (is_given m.tp_dst) h in
    (each.is_dl_vlan, each.is_dl_type, each.is_nw_proto)

free_pcp : (m : Pattern) → NormalFields m → m.dl_vlan ≡ None → m.dl_vlan_pcp ≡ None
free_pcp m n e =
    free_without 0 (is_exact m) (has_vlan m.dl_vlan) m.dl_vlan_pcp
    (false_from_ne_true (is_exact m) (λ x. given_not_free m.dl_vlan e (exact_given m x).0)) (rw e refl) n.on_dl_vlan_pcp

without_type : (m : Pattern) → m.dl_type ≡ None → is_exact m ≡ false
without_type m e = false_from_ne_true (is_exact m) (λ x. given_not_free m.dl_type e (exact_given m x).1)

free_nw_src : (m : Pattern) → NormalFields m → m.dl_type ≡ None → m.nw_src ≡ None
free_nw_src m n e = free_without zero_address (is_exact m) (has_network m.dl_type) m.nw_src (without_type m e) (rw e refl) n.on_nw_src

free_nw_dst : (m : Pattern) → NormalFields m → m.dl_type ≡ None → m.nw_dst ≡ None
free_nw_dst m n e = free_without zero_address (is_exact m) (has_network m.dl_type) m.nw_dst (without_type m e) (rw e refl) n.on_nw_dst

free_nw_tos : (m : Pattern) → NormalFields m → m.dl_type ≡ None → m.nw_tos ≡ None
free_nw_tos m n e = free_without 0 (is_exact m) (has_service m.dl_type) m.nw_tos (without_type m e) (rw e refl) n.on_nw_tos

without_ports : (m : Pattern) → (m.dl_type ≡ None) ⊎ (m.nw_proto ≡ None) → (is_exact m ≡ false) × (has_ports m.dl_type m.nw_proto ≡ false)
without_ports m (inl e) = (without_type m e, rw e refl)
without_ports m (inr e) = (false_from_ne_true (is_exact m) (λ x. given_not_free m.nw_proto e (exact_given m x).2), rw e (false_from_ne_true (is_value 0x0800 m.dl_type && false) (λ t. true≢false (sym (and_parts (is_value 0x0800 m.dl_type) false t).1))))

free_tp_src : (m : Pattern) → NormalFields m → (m.dl_type ≡ None) ⊎ (m.nw_proto ≡ None) → m.tp_src ≡ None
free_tp_src m n e =
    let none = without_ports m e in
    free_without 0 (is_exact m) (has_ports m.dl_type m.nw_proto) m.tp_src none.0 none.1 n.on_tp_src

free_tp_dst : (m : Pattern) → NormalFields m → (m.dl_type ≡ None) ⊎ (m.nw_proto ≡ None) → m.tp_dst ≡ None
free_tp_dst m n e =
    let none = without_ports m e in
    free_without 0 (is_exact m) (has_ports m.dl_type m.nw_proto) m.tp_dst none.0 none.1 n.on_tp_dst

any_value : (c : Option ℕ) (x : ℕ) → c ≡ None → Meets c x
any_value c x e = rw e tt

any_address : (c : Option Prefix) (x : ℕ) → c ≡ None → MeetsPrefix c x
any_address c x e = rw e tt

-- ---- each action

-- the match changes only where the header does, and where the header alone changes it stays in
where_both : (t u : Bool) (m n : Pattern) (h k : Header) → (IsTrue t → IsTrue u) → Has m h → Has n k → (IsTrue u → t ≡ false → Has m k)
    → Has (if t then n else m) (if u then k else h)
where_both true true m n h k i p q r = q
where_both true false m n h k i p q r = absurd (true≢false (sym (i refl)))
where_both false true m n h k i p q r = r refl refl
where_both false false m n h k i p q r = p

has_nw_src : (m : Pattern) (h : Header) (address : ℕ) → NormalFields m → Has m h → Has (cover_of m (SetNwSrc address)) (rewritten h (SetNwSrc address))
has_nw_src m h address n p =
    where_both (is_value 0x0800 m.dl_type) (is_ipv4 h) m (record m { nw_src = whole address }) h (record h { nw_src = address })
    (named 0x0800 m.dl_type h.dl_type p.dl_type) p (search rules)
    (λ u t. let any = any_address m.nw_src address (free_nw_src m n (unnamed 0x0800 m.dl_type h.dl_type p.dl_type u t)) in search rules)

has_nw_dst : (m : Pattern) (h : Header) (address : ℕ) → NormalFields m → Has m h → Has (cover_of m (SetNwDst address)) (rewritten h (SetNwDst address))
has_nw_dst m h address n p =
    where_both (is_value 0x0800 m.dl_type) (is_ipv4 h) m (record m { nw_dst = whole address }) h (record h { nw_dst = address })
    (named 0x0800 m.dl_type h.dl_type p.dl_type) p (search rules)
    (λ u t. let any = any_address m.nw_dst address (free_nw_dst m n (unnamed 0x0800 m.dl_type h.dl_type p.dl_type u t)) in search rules)

has_nw_tos : (m : Pattern) (h : Header) (service : ℕ) → NormalFields m → Has m h → Has (cover_of m (SetNwTos service)) (rewritten h (SetNwTos service))
has_nw_tos m h service n p =
    where_both (is_value 0x0800 m.dl_type) (is_ipv4 h) m (record m { nw_tos = Some (service / 4 * 4) }) h (record h { nw_tos = service / 4 * 4 })
    (named 0x0800 m.dl_type h.dl_type p.dl_type) p (search rules)
    (λ u t. let any = any_value m.nw_tos (service / 4 * 4) (free_nw_tos m n (unnamed 0x0800 m.dl_type h.dl_type p.dl_type u t)) in search rules)

has_tp_src : (m : Pattern) (h : Header) (port : ℕ) → NormalFields m → Has m h → Has (cover_of m (SetTpSrc port)) (rewritten h (SetTpSrc port))
has_tp_src m h port n p =
    where_both (names_tcp_or_udp m) (is_tcp_or_udp h) m (record m { tp_src = Some port }) h (record h { tp_src = port })
    (ports_named m.dl_type m.nw_proto h.dl_type h.nw_proto p.dl_type p.nw_proto) p (search rules)
    (λ u t. let any = any_value m.tp_src port (free_tp_src m n (ports_unnamed m.dl_type m.nw_proto h.dl_type h.nw_proto p.dl_type p.nw_proto u t)) in search rules)

has_tp_dst : (m : Pattern) (h : Header) (port : ℕ) → NormalFields m → Has m h → Has (cover_of m (SetTpDst port)) (rewritten h (SetTpDst port))
has_tp_dst m h port n p =
    where_both (names_tcp_or_udp m) (is_tcp_or_udp h) m (record m { tp_dst = Some port }) h (record h { tp_dst = port })
    (ports_named m.dl_type m.nw_proto h.dl_type h.nw_proto p.dl_type p.nw_proto) p (search rules)
    (λ u t. let any = any_value m.tp_dst port (free_tp_dst m n (ports_unnamed m.dl_type m.nw_proto h.dl_type h.nw_proto p.dl_type p.nw_proto u t)) in search rules)

-- the priority behind a VLAN that is set
behind : (t u : Bool) (c : Option ℕ) (x : ℕ) → (IsTrue t → IsTrue u) → Meets c x → (IsTrue u → t ≡ false → c ≡ None)
    → Meets (if t then Some 0 else c) (if u then 0 else x)
behind true true c x i p q = refl
behind true false c x i p q = absurd (true≢false (sym (i refl)))
behind false true c x i p q = any_value c 0 (q refl refl)
behind false false c x i p q = p

has_vlan_vid : (m : Pattern) (h : Header) (vlan : ℕ) → NormalFields m → Has m h → Has (cover_of m (SetVlanVid vlan)) (rewritten h (SetVlanVid vlan))
has_vlan_vid m h vlan n p =
    let pcp = behind (is_value 0xffff m.dl_vlan) (is_untagged h) m.dl_vlan_pcp h.dl_vlan_pcp
    (named 0xffff m.dl_vlan h.dl_vlan p.dl_vlan) p.dl_vlan_pcp
    (λ u t. free_pcp m n (unnamed 0xffff m.dl_vlan h.dl_vlan p.dl_vlan u t)) in
    search rules

by_tag : (t v u : Bool) (m : Pattern) (h : Header) (priority : ℕ) → (IsTrue t → IsTrue u) → (IsTrue v → u ≡ false) → (t ≡ false → v ≡ false → (m.dl_vlan ≡ None) × (m.dl_vlan_pcp ≡ None))
    → Has m h
    → Has (if t then record m { dl_vlan = Some 0; dl_vlan_pcp = Some priority } else (if v then record m { dl_vlan_pcp = Some priority } else m))
    (record h { dl_vlan = if u then 0 else h.dl_vlan; dl_vlan_pcp = priority })
by_tag true v true m h priority i j q p = search rules
by_tag true v false m h priority i j q p = absurd (true≢false (sym (i refl)))
by_tag false true true m h priority i j q p = absurd (true≢false (j refl))
by_tag false true false m h priority i j q p = search rules
by_tag false false u m h priority i j q p =
    let free = q refl refl in
    let any = any_value m.dl_vlan (if u then 0 else h.dl_vlan) free.0 in
    let any_priority = any_value m.dl_vlan_pcp priority free.1 in
    search rules

has_vlan_pcp : (m : Pattern) (h : Header) (priority : ℕ) → NormalFields m → Has m h → Has (cover_of m (SetVlanPcp priority)) (rewritten h (SetVlanPcp priority))
has_vlan_pcp m h priority n p =
    by_tag (is_value 0xffff m.dl_vlan) (has_vlan m.dl_vlan) (is_untagged h) m h (priority % 8)
    (named 0xffff m.dl_vlan h.dl_vlan p.dl_vlan) (tagged m.dl_vlan h.dl_vlan p.dl_vlan)
    (λ t v. let free = no_vlan m.dl_vlan t v in (free, free_pcp m n free)) p

no_priority : (e : Bool) → Meets (meaningless e) 0
no_priority true = refl
no_priority false = tt

has_strip : (m : Pattern) (h : Header) → Has m h → Has (cover_of m StripVlan) (rewritten h StripVlan)
has_strip m h p = let priority = no_priority (is_exact m) in search rules

-- ---- all actions

pub Has-cover_of : (m : Pattern) (h : Header) (action : Action) → applied m ≡ m → Has m h → Has (cover_of m action) (rewritten h action)
Has-cover_of m h (Output port max_len) e p = p
Has-cover_of m h (SetVlanVid vlan) e p = has_vlan_vid m h vlan (normal_fields m e) p
Has-cover_of m h (SetVlanPcp priority) e p = has_vlan_pcp m h priority (normal_fields m e) p
Has-cover_of m h StripVlan e p = has_strip m h p
Has-cover_of m h (SetDlSrc address) e p = search rules
Has-cover_of m h (SetDlDst address) e p = search rules
Has-cover_of m h (SetNwSrc address) e p = has_nw_src m h address (normal_fields m e) p
Has-cover_of m h (SetNwDst address) e p = has_nw_dst m h address (normal_fields m e) p
Has-cover_of m h (SetNwTos service) e p = has_nw_tos m h service (normal_fields m e) p
Has-cover_of m h (SetTpSrc port) e p = has_tp_src m h port (normal_fields m e) p
Has-cover_of m h (SetTpDst port) e p = has_tp_dst m h port (normal_fields m e) p
Has-cover_of m h (Enqueue port queue) e p = p
