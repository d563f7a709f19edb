-- The places of a policy text, as they are printed. The form is this proxy's own rule.
use Rattle.std.specs.Prelude.{ℕ, List, [], ◌++◌, codes, decimal}
use Rattle.flowspace.specs.declared.fault.Field.{Field}
use Rattle.flowspace.specs.declared.fault.Field.TheVariants.{Read, InPort, DlSrc, DlDst, DlVlan, DlVlanPcp, DlType, NwTos, NwProto, NwSrc, NwDst, TpSrc, TpDst}
use Rattle.policy_text.specs.declared.fault.Part.{Part}
use Rattle.policy_text.specs.declared.fault.Part.TheVariants.{Top, Slice, Rule, Port}
use Rattle.policy_text.specs.declared.fault.Place.{Place}

-- which slice, rule or port table: `slice.0.`, `rule.3.`, `port.1.`, and nothing for the whole text
abbrev pub part_text : Part → ℕ → List ℕ
part_text Top index = []
part_text Slice index = (codes "slice." ++ decimal index) ++ codes "."
part_text Rule index = (codes "rule." ++ decimal index) ++ codes "."
part_text Port index = (codes "port." ++ decimal index) ++ codes "."

-- the key behind it
abbrev pub key_path_text : Place → List ℕ
key_path_text place = part_text place.part place.index ++ place.key

-- the key under which a rule's field stands
abbrev pub field_key : Field → List ℕ
field_key Read = codes "read"
field_key InPort = codes "in_port"
field_key DlSrc = codes "dl_src"
field_key DlDst = codes "dl_dst"
field_key DlVlan = codes "dl_vlan"
field_key DlVlanPcp = codes "dl_vlan_pcp"
field_key DlType = codes "dl_type"
field_key NwTos = codes "nw_tos"
field_key NwProto = codes "nw_proto"
field_key NwSrc = codes "nw_src"
field_key NwDst = codes "nw_dst"
field_key TpSrc = codes "tp_src"
field_key TpDst = codes "tp_dst"
