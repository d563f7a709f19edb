-- Rules: where they hold, which values they may have, and when two of them have a header in common. This is the proxy's own rule; the numbers of ports and VLANs are the standard's.
use Rattle.std.specs.Prelude.{ℕ, ◌≡◌, ◌≤◌, ◌⊎◌, ◌==◌, ◌&&◌, ◌||◌, leb, nat_lt, not, Bool, true, false, IsTrue, is_some, IsSome, IfSome, Option, Some, None, if◌then◌else◌}
use Rattle.of10_model.specs.Header.{Header, IsHeader}
use Rattle.of10_model.specs.declared.pattern.Pattern.{Pattern}
use Rattle.of10_model.specs.Pattern.{Has}
use Rattle.of10_model.specs.Normal.{is_value, bit, has_vlan, has_network, has_service, has_ports}
use Rattle.of10_model.specs.Meet.{is_disjoint}
use Rattle.flowspace.specs.declared.fault.Field.{Field}
use Rattle.flowspace.specs.declared.fault.Field.TheVariants.{DlVlanPcp, NwTos, NwProto, NwSrc, NwDst, TpSrc, TpDst}
use Rattle.flowspace.specs.declared.rules.Rule.{Rule}

-- no switch named stands for each
abbrev pub names_switch : Option ℕ → ℕ → Bool
names_switch None datapath = true
names_switch (Some switch) datapath = switch == datapath

-- a rule holds on a switch where its own switch is missing or is that one
abbrev pub holds : ℕ → Rule → Bool
holds datapath rule = names_switch rule.switch datapath

-- a rule is written by the slice at a slot
abbrev pub is_written_by : ℕ → Rule → Bool
is_written_by slot rule = is_value slot rule.writer

-- a physical port or the switch's own (OpenFlow 1.0.0, section 5.2.1: OFPP_MAX and OFPP_LOCAL)
abbrev pub IsInPort : ℕ → Type 0
IsInPort port = (port ≤ 0xff00) ⊎ (port ≡ 0xfffe)

-- a VLAN number of 12 bits, or the mark of an untagged packet (OpenFlow 1.0.0, section 5.2.3)
abbrev pub IsVlan : ℕ → Type 0
IsVlan vlan = (vlan ≤ 4095) ⊎ (vlan ≡ 0xffff)

-- the same as a test
abbrev pub is_vlan : ℕ → Bool
is_vlan vlan = leb vlan 4095 || vlan == 0xffff

-- a rule is plain where its in_port and dl_vlan are such, and its match constrains a field only where that field means something
pub record IsPlainRule (r : Rule) : Type 0 where
  pub in_port : IfSome r.pattern.in_port IsInPort
  pub dl_vlan : IfSome r.pattern.dl_vlan IsVlan
  pub dl_vlan_pcp : IsSome r.pattern.dl_vlan_pcp → IsTrue (has_vlan r.pattern.dl_vlan)
  pub nw_tos : IsSome r.pattern.nw_tos → IsTrue (has_service r.pattern.dl_type)
  pub nw_proto : IsSome r.pattern.nw_proto → IsTrue (has_network r.pattern.dl_type)
  pub nw_src : IsSome r.pattern.nw_src → IsTrue (has_network r.pattern.dl_type)
  pub nw_dst : IsSome r.pattern.nw_dst → IsTrue (has_network r.pattern.dl_type)
  pub tp_src : IsSome r.pattern.tp_src → IsTrue (has_ports r.pattern.dl_type r.pattern.nw_proto)
  pub tp_dst : IsSome r.pattern.tp_dst → IsTrue (has_ports r.pattern.dl_type r.pattern.nw_proto)

-- ---- fields without what they need

-- the first field that is given without what it needs. Which field needs which is this proxy's own rule, after OpenFlow 1.0.0,
-- section 3.4.
unfoldable pub first_improper : Pattern → Option Field
first_improper m =
    if is_some m.dl_vlan_pcp && not (has_vlan m.dl_vlan) then Some DlVlanPcp
    else if is_some m.nw_tos && not (has_service m.dl_type) then Some NwTos
    else if is_some m.nw_proto && not (has_network m.dl_type) then Some NwProto
    else if is_some m.nw_src && not (has_network m.dl_type) then Some NwSrc
    else if is_some m.nw_dst && not (has_network m.dl_type) then Some NwDst
    else if is_some m.tp_src && not (has_ports m.dl_type m.nw_proto) then Some TpSrc
    else if is_some m.tp_dst && not (has_ports m.dl_type m.nw_proto) then Some TpDst
    else None

-- ---- headers in two rules

-- two rules share a header where both hold on a switch and the header is in both matches
pub record ShareHeader (a b : Rule) : Type 0 where
  pub datapath : ℕ
  pub on_first : IsTrue (holds datapath a)
  pub on_second : IsTrue (holds datapath b)
  pub header : Header
  pub in_range : IsHeader header
  pub in_first : Has a.pattern header
  pub in_second : Has b.pattern header

-- where a header of the later rule is one of the earlier too, the later one is written by nobody or by the writer of the earlier
abbrev pub Yields : Rule → Rule → Type 0
Yields earlier later = ShareHeader earlier later → (slot : ℕ) → later.writer ≡ Some slot → earlier.writer ≡ Some slot

-- ---- the same as a test that computes

-- two rules hold on a common switch: one of them names none, or both name the same
abbrev pub have_switch : Option ℕ → Option ℕ → Bool
have_switch None other = true
have_switch (Some switch) other = names_switch other switch

-- the later of two rules is written by a slice that doesn't write the earlier one
abbrev pub is_usurped : Option ℕ → Option ℕ → Bool
is_usurped earlier None = false
is_usurped earlier (Some slot) = not (is_value slot earlier)

-- a later rule is refused beside an earlier one where a slice that doesn't write the earlier one writes it, both hold on a common switch, and they share a header
unfoldable pub is_refused : Rule → Rule → Bool
is_refused earlier later = is_usurped earlier.writer later.writer && have_switch earlier.switch later.switch && not (is_disjoint earlier.pattern later.pattern)

-- ---- what a rule says of slots

-- a slot that may be missing is one of the first so many
abbrev pub is_slot_or_none : ℕ → Option ℕ → Bool
is_slot_or_none count None = true
is_slot_or_none count (Some slot) = nat_lt slot count

-- the writer of a rule is among its readers
abbrev pub is_own_reader : Rule → Bool
is_own_reader rule = elim rule.writer [ None ↦ false | Some slot ↦ bit rule.readers slot ]
