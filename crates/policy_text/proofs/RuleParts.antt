-- What a rule's table is read as, part by part.
use Rattle.std.proofs.Common.{◌≡◌, Ok, codes, subst}
use Rattle.of10_model.specs.declared.pattern.Pattern.{Pattern}
use Rattle.of10_model.proofs.Results.{bind_ok, ok_is}
use Rattle.policy_text.specs.declared.known_keys.Keys.TheVariants as keys
use Rattle.policy_text.specs.declared.values.Numbers.TheVariants.{UpTo, InPort, Vlan, Service}
use Rattle.policy_text.specs.declared.values.Numerals.TheVariants.{Datapath, Hardware}
use Rattle.policy_text.specs.declared.values.Texts.TheVariants.{Any}
use Rattle.policy_text.specs.Reading.{SectionView, known_keys, required, optional, number, numeral, addresses, text}
use Rattle.policy_text.specs.Rules.{LinkView, link_in, joined_pattern, pattern_in, RuleText, names_under, rule_text_in}

-- ---- the match

-- each constraint on the link is what stands under its key
record LinkRead (this : SectionView) (l : LinkView) : Type 0 where
  pub in_port : optional (number InPort) this (codes "in_port") ≡ Ok l.in_port
  pub dl_src : optional (numeral Hardware) this (codes "dl_src") ≡ Ok l.dl_src
  pub dl_dst : optional (numeral Hardware) this (codes "dl_dst") ≡ Ok l.dl_dst
  pub dl_vlan : optional (number Vlan) this (codes "dl_vlan") ≡ Ok l.dl_vlan
  pub dl_vlan_pcp : optional (number (UpTo 7)) this (codes "dl_vlan_pcp") ≡ Ok l.dl_vlan_pcp
  pub dl_type : optional (number (UpTo 0xffff)) this (codes "dl_type") ≡ Ok l.dl_type

link_read : (this : SectionView) (l : LinkView) → link_in this ≡ Ok l → LinkRead this l
unfolding link_in
link_read this l e =
    let a = bind_ok (optional (number InPort) this (codes "in_port")) _ l e in
    let b = bind_ok (optional (numeral Hardware) this (codes "dl_src")) _ l a.2 in
    let c = bind_ok (optional (numeral Hardware) this (codes "dl_dst")) _ l b.2 in
    let d = bind_ok (optional (number Vlan) this (codes "dl_vlan")) _ l c.2 in
    let f = bind_ok (optional (number (UpTo 7)) this (codes "dl_vlan_pcp")) _ l d.2 in
    let g = bind_ok (optional (number (UpTo 0xffff)) this (codes "dl_type")) _ l f.2 in
    let made : LinkView = record { in_port = a.0; dl_src = b.0; dl_dst = c.0; dl_vlan = d.0; dl_vlan_pcp = f.0; dl_type = g.0 } in
    subst (LinkRead this) (ok_is made l g.2) (record { in_port = a.1; dl_src = b.1; dl_dst = c.1; dl_vlan = d.1; dl_vlan_pcp = f.1; dl_type = g.1 })

-- each field of the match is what stands under its key
pub record PatternRead (this : SectionView) (m : Pattern) : Type 0 where
  pub in_port : optional (number InPort) this (codes "in_port") ≡ Ok m.in_port
  pub dl_src : optional (numeral Hardware) this (codes "dl_src") ≡ Ok m.dl_src
  pub dl_dst : optional (numeral Hardware) this (codes "dl_dst") ≡ Ok m.dl_dst
  pub dl_vlan : optional (number Vlan) this (codes "dl_vlan") ≡ Ok m.dl_vlan
  pub dl_vlan_pcp : optional (number (UpTo 7)) this (codes "dl_vlan_pcp") ≡ Ok m.dl_vlan_pcp
  pub dl_type : optional (number (UpTo 0xffff)) this (codes "dl_type") ≡ Ok m.dl_type
  pub nw_tos : optional (number Service) this (codes "nw_tos") ≡ Ok m.nw_tos
  pub nw_proto : optional (number (UpTo 255)) this (codes "nw_proto") ≡ Ok m.nw_proto
  pub nw_src : optional addresses this (codes "nw_src") ≡ Ok m.nw_src
  pub nw_dst : optional addresses this (codes "nw_dst") ≡ Ok m.nw_dst
  pub tp_src : optional (number (UpTo 0xffff)) this (codes "tp_src") ≡ Ok m.tp_src
  pub tp_dst : optional (number (UpTo 0xffff)) this (codes "tp_dst") ≡ Ok m.tp_dst

pub pattern_read : (this : SectionView) (m : Pattern) → pattern_in this ≡ Ok m → PatternRead this m
unfolding pattern_in
pattern_read this m e =
    let link = bind_ok (link_in this) _ m e in
    let a = bind_ok (optional (number Service) this (codes "nw_tos")) _ m link.2 in
    let b = bind_ok (optional (number (UpTo 255)) this (codes "nw_proto")) _ m a.2 in
    let c = bind_ok (optional addresses this (codes "nw_src")) _ m b.2 in
    let d = bind_ok (optional addresses this (codes "nw_dst")) _ m c.2 in
    let f = bind_ok (optional (number (UpTo 0xffff)) this (codes "tp_src")) _ m d.2 in
    let g = bind_ok (optional (number (UpTo 0xffff)) this (codes "tp_dst")) _ m f.2 in
    let made : Pattern = joined_pattern link.0 a.0 b.0 c.0 d.0 f.0 g.0 in
    let read = link_read this link.0 link.1 in
    subst (PatternRead this) (ok_is made m g.2) (record {
      in_port = read.in_port;
      dl_src = read.dl_src;
      dl_dst = read.dl_dst;
      dl_vlan = read.dl_vlan;
      dl_vlan_pcp = read.dl_vlan_pcp;
      dl_type = read.dl_type;
      nw_tos = a.1;
      nw_proto = b.1;
      nw_src = c.1;
      nw_dst = d.1;
      tp_src = f.1;
      tp_dst = g.1;
    })

-- ---- the table

-- each part of a rule is what stands under its key, and the match what stands under those of its fields
pub record RuleRead (this : SectionView) (t : RuleText) : Type 0 where
  pub switch : optional (numeral Datapath) this (codes "switch") ≡ Ok t.switch
  pub priority : required (number (UpTo 0xffffffff)) this (codes "priority") ≡ Ok t.priority
  pub write : optional (text Any) this (codes "write") ≡ Ok t.write
  pub read : names_under this (codes "read") ≡ Ok t.read
  pub pattern : pattern_in this ≡ Ok t.pattern

pub rule_read : (this : SectionView) (t : RuleText) → rule_text_in this ≡ Ok t → RuleRead this t
unfolding rule_text_in
rule_read this t e =
    let k = bind_ok (known_keys keys.Rule this) _ t e in
    let a = bind_ok (optional (numeral Datapath) this (codes "switch")) _ t k.2 in
    let b = bind_ok (required (number (UpTo 0xffffffff)) this (codes "priority")) _ t a.2 in
    let c = bind_ok (optional (text Any) this (codes "write")) _ t b.2 in
    let d = bind_ok (names_under this (codes "read")) _ t c.2 in
    let f = bind_ok (pattern_in this) _ t d.2 in
    let made : RuleText = record { switch = a.0; priority = b.0; write = c.0; read = d.0; pattern = f.0 } in
    subst (RuleRead this) (ok_is made t f.2) (record { switch = a.1; priority = b.1; write = c.1; read = d.1; pattern = f.1 })
