-- The rules of a switch in indexes. All of this is the proxy's own rule.
use Rattle.std.specs.Prelude.{List}
use Rattle.of10_model.specs.declared.pattern.Pattern.{Pattern}
use Rattle.of10_model.specs.Pattern.{has}
use Rattle.of10_model.specs.Exact.{exact_of}
use Rattle.pattern_index.specs.declared.index.PatternIndex.{PatternIndex}
use Rattle.pattern_index.specs.Places.{FindsFirst}
use Rattle.flowspace.specs.declared.rules.Rule.{Rule}
use Rattle.flowspace.specs.Owners.{is_owned_by}

-- one index finds the first rule that has a header, and another the first that is written and includes a match
pub record IsIndex (rules : List Rule) (all written : PatternIndex) : Type 0 where
  pub in_all : FindsFirst exact_of (λ (rule : Rule) h. has rule.pattern h) rules all
  pub in_written : FindsFirst (λ (m : Pattern). m) (λ rule m. is_owned_by m rule) rules written
