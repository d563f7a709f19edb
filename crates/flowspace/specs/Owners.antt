-- Who may write headers and matches, and which ports a slice has. All of this is the proxy's own rule; the numbers of ports are the standard's.
use Rattle.std.specs.Prelude.{ℕ, ◌≡◌, ◌==◌, ◌||◌, ◌&&◌, leb, Bool, is_some, IsTrue, List, Any, find, Option, Some, option_and_then}
use Rattle.std.specs.List.{list_any}
use Rattle.of10_model.specs.declared.pattern.Pattern.{Pattern}
use Rattle.of10_model.specs.Header.{Header}
use Rattle.of10_model.specs.Pattern.{Has, Meets, meets}
use Rattle.of10_model.specs.Inclusion.{Includes, includes_of}
use Rattle.flowspace.specs.declared.rules.Rule.{Rule}
use Rattle.flowspace.specs.Rules.{IsInPort, is_written_by}
use Rattle.flowspace.specs.Order.{writer_of}

-- of these rules, in rule order, the first that has a header is written by a slice
abbrev pub Writes : List Rule → ℕ → Header → Type 0
Writes rules slot h = writer_of rules h ≡ Some slot

-- some rule that a slice writes has a header
abbrev pub HasWriteRule : List Rule → ℕ → Header → Type 0
HasWriteRule rules slot h = Any (λ rule. (rule.writer ≡ Some slot) × Has rule.pattern h) rules

-- a rule is written, and has each header of a match
abbrev pub is_owned_by : Pattern → Rule → Bool
is_owned_by m rule = is_some rule.writer && includes_of rule.pattern m

-- the slot that writes the first such rule
abbrev pub owner_of_match : List Rule → Pattern → Option ℕ
owner_of_match rules m = option_and_then (λ rule. rule.writer) (find (is_owned_by m) rules)

-- the test finds that some rule that a slice writes has each header of a match
abbrev pub IsOwner : List Rule → ℕ → Pattern → Type 0
IsOwner rules slot m = Any (λ rule. (rule.writer ≡ Some slot) × IsTrue (includes_of rule.pattern m)) rules

-- some rule that a slice writes has each header of a match
abbrev pub Owns : List Rule → ℕ → Pattern → Type 0
Owns rules slot m = Any (λ rule. (rule.writer ≡ Some slot) × Includes rule.pattern m) rules

-- a physical port or the switch's own (OpenFlow 1.0.0, section 5.2.1: OFPP_MAX and OFPP_LOCAL)
abbrev pub is_in_port : ℕ → Bool
is_in_port port = leb port 0xff00 || port == 0xfffe

-- a rule that a slice writes leaves in_port free or names a port
abbrev pub is_rule_at : ℕ → ℕ → Rule → Bool
is_rule_at slot port rule = is_written_by slot rule && meets rule.pattern.in_port port

-- a slice has a port where it is physical or the switch's own, and some rule that the slice writes leaves in_port free or names it
abbrev pub has_port : List Rule → ℕ → ℕ → Bool
has_port rules slot port = is_in_port port && list_any (is_rule_at slot port) rules

-- the same as a relation
abbrev pub HasPort : List Rule → ℕ → ℕ → Type 0
HasPort rules slot port = IsInPort port × Any (λ rule. (rule.writer ≡ Some slot) × Meets rule.pattern.in_port port) rules
