use Rattle.std.proofs.Common.{codes, string_bytes}
use Rattle.policy_text.specs.Printing.{entries_text, entries_beside, link_entries, network_entries, rule_text}
use Rattle.policy_text.proofs.Appending.{four_parts}
use Rattle.policy_text.proofs.printing.put_rule.Goals as goal

pub returns-clause-text : goal.returns-clause-text
unfolding rule_text
returns-clause-text c =
    let m = c.args.rule.now.pattern in
    rw (c.in_ok-put_network.ensures, c.in_ok-put_link.ensures, c.in_ok-put_own.ensures.text, c.in_ok-push_str.ensures.bytes, c.pattern.ensures.value, c.pattern-2.ensures.value)
    (four_parts (string_bytes c.args.out.now) (codes "\n[[rule]]\n") (entries_text (entries_beside c.args.slices.now c.args.rule.now)) (entries_text (link_entries m)) (entries_text (network_entries m)))

pub returns-clause-held : goal.returns-clause-held
returns-clause-held c = record { normal = c.pattern.ensures.normal; switch = c.in_ok-put_own.ensures.switch; priority = c.in_ok-put_own.ensures.priority }
