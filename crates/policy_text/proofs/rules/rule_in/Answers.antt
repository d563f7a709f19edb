use Rattle.policy_text.specs.Views.{rule_text_view, section}
use Rattle.policy_text.proofs.Sound.{text_sound}
use Rattle.policy_text.proofs.rules.rule_in.Goals as goal

pub rule_from-requires : goal.rule_from-requires
rule_from-requires c = (text_sound (section c.args.table.now) (rule_text_view c.in_ok-text.text) c.in_ok-text.ensures).range
