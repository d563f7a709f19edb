-- The tables of the code, as the definitions see them.
use Rattle.std.specs.Prelude.{map, option_map}
use Rattle.toml.specs.View.{table_view}
use Rattle.flowspace.specs.Policies.{PolicyView}
use Rattle.policy_text.specs.Reading.{SectionView}
use Rattle.policy_text.specs.Ports.{PortText as PortTextView}
use Rattle.policy_text.specs.Rules.{LinkView, RuleText as RuleTextView}
use Rattle.policy_text.specs.declared.document.Parts.{Parts}
use Rattle.policy_text.specs.declared.pattern.Link.{Link}
use Rattle.policy_text.specs.declared.ports.PortText.{PortText}
use Rattle.policy_text.specs.declared.rules.RuleText.{RuleText}
use Rattle.policy_text.specs.declared.section.Section.{Section}

-- a table, and which one it is
abbrev pub section : Section → SectionView
section s = record { part = s.part; index = s.index; members = table_view s.table.now }

-- the constraints on the link
abbrev pub link_view : Link → LinkView
link_view l = record { in_port = l.in_port; dl_src = l.dl_src; dl_dst = l.dl_dst; dl_vlan = l.dl_vlan; dl_vlan_pcp = l.dl_vlan_pcp; dl_type = l.dl_type }

-- the slices, the rules and the swaps
abbrev pub parts_view : Parts → PolicyView
parts_view p = record { slices = p.slices.items; rules = p.rules.items; swaps = p.swaps.items }

-- a rule with its names as bytes
abbrev pub rule_text_view : RuleText → RuleTextView
rule_text_view t = record { switch = t.switch; priority = t.priority; write = option_map (λ s. s.now) t.write; read = map (λ s. s.now) t.read.items; pattern = t.pattern }

-- a port table with its name as bytes
abbrev pub port_text_view : PortText → PortTextView
port_text_view t = record { slice = t.slice.now; switch = t.switch; shown = t.shown; physical = t.physical }
