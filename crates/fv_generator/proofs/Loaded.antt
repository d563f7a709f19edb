-- The policy is accepted.
use Rattle.std.proofs.Common.{ℕ, ◌≡◌, ◌≤◌, List, length, Ok, All, refl, arith}
use Rattle.std.specs.Prelude.{IsTrue, codes}
use Rattle.std.proofs.lemmas.List.Elements.{All-from_recursion}
use Rattle.of10_model.specs.Meet.{meet_of}
use Rattle.of10_model.specs.Normal.{IsNormal}
use Rattle.flowspace.specs.declared.rules.Rule.{Rule}
use Rattle.flowspace.specs.Slices.{IsPlainSlice, is_name_byte}
use Rattle.flowspace.specs.Rules.{IsPlainRule, first_improper, is_refused}
use Rattle.flowspace.specs.Policies.{AreNormal, IsPolicy}
use Rattle.flowspace.specs.Loading.{fault_of, load_of}
use Rattle.flowspace.proofs.Accepting.{load_of-iff}
use Rattle.flowspace.proofs.Improper.{plain_rule}
use Rattle.fv_generator.specs.Policies.{slice_with, rule_to, the_policy}
use Rattle.fv_generator.proofs.Normal.{to_is_normal}

abbrev HasNameBytes : List ℕ → Type 0
HasNameBytes name = All (λ b. IsTrue (is_name_byte b)) name

-- a slice whose name and controller are within their limits is plain
plain_slice : (name controller : List ℕ) → 1 ≤ length name → length name ≤ 32 → HasNameBytes name → 1 ≤ length controller → length controller ≤ 255 → IsPlainSlice (slice_with name controller)
plain_slice name controller some short bytes reached within =
    record {
      name_some = some;
      name_short = short;
      name_bytes = bytes;
      controller_some = reached;
      controller_short = within;
      rate_some = omega arith;
      rate_limit = omega arith;
      burst_some = omega arith;
      burst_limit = omega arith;
      quota_limit = omega arith;
    }

alice_is_name : HasNameBytes (codes "alice")
alice_is_name = All-from_recursion (λ b. IsTrue (is_name_byte b)) (codes "alice") (refl, (refl, (refl, (refl, (refl, tt)))))

bob_is_name : HasNameBytes (codes "bob")
bob_is_name = All-from_recursion (λ b. IsTrue (is_name_byte b)) (codes "bob") (refl, (refl, (refl, tt)))

slices_are_plain : All IsPlainSlice the_policy.slices
unfolding the_policy
slices_are_plain =
    All-from_recursion IsPlainSlice the_policy.slices (
      plain_slice (codes "alice") (codes "127.0.0.1:6633") (omega arith) (omega arith) alice_is_name (omega arith) (omega arith),
      (plain_slice (codes "bob") (codes "127.0.0.1:6634") (omega arith) (omega arith) bob_is_name (omega arith) (omega arith), tt),
    )

plain : (priority slot port : ℕ) → IsPlainRule (rule_to priority slot port)
unfolding first_improper
plain priority slot port = plain_rule (rule_to priority slot port) tt tt refl

rules_are_plain : All IsPlainRule the_policy.rules
unfolding the_policy
rules_are_plain = All-from_recursion IsPlainRule the_policy.rules (plain 100 0 80, (plain 50 1 22, tt))

rules_are_normal : AreNormal the_policy.rules
unfolding the_policy
rules_are_normal = All-from_recursion (λ (r : Rule). IsNormal r.pattern) the_policy.rules (to_is_normal 80 (omega arith), (to_is_normal 22 (omega arith), tt))

pub policy_is_loaded : load_of the_policy.slices the_policy.rules ≡ Ok the_policy
unfolding the_policy fault_of is_refused meet_of
policy_is_loaded = refl

pub policy_is_one : IsPolicy the_policy.slices the_policy.rules
unfolding the_policy
policy_is_one = (load_of-iff the_policy.slices the_policy.rules (omega arith) slices_are_plain rules_are_plain rules_are_normal).0 policy_is_loaded
