use Rattle.std.proofs.Common.{◌≡◌, Ok, map}
use Rattle.policy_text.specs.Rules.{proper, slots_of}
use Rattle.policy_text.specs.Views.{rule_text_view}
use Rattle.policy_text.proofs.Sound.{proper_is, rule_from_is}
use Rattle.policy_text.proofs.SoundPatterns.{normal}
use Rattle.policy_text.proofs.rules.rule_from.Goals as goal

pub of-requires : goal.of-requires
of-requires c = normal c.args.text.now.pattern c.requires (proper_is c.args.index c.deref-2.result.now c.args.text.now.pattern c.in_ok-proper.field-0 c.in_ok-proper.ensures)

pub returns : goal.returns
returns c =
    let slots : slots_of c.args.names.now c.args.index (map (λ s. s.now) c.args.text.now.read.items) ≡ Ok c.in_ok-slots.slots.items = rw c.deref.ensures.value at c.in_ok-slots.ensures in
    let fits : proper c.args.index c.in_ok-slots.slots.items c.args.text.now.pattern ≡ Ok c.in_ok-proper.field-0 = rw c.deref-2.ensures.value at c.in_ok-proper.ensures in
    rw (c.of.ensures, c.bits.ensures, c.deref-3.ensures.value) (rule_from_is c.args.names.now c.args.index (rule_text_view c.args.text.now) c.in_ok-writer.writer c.in_ok-slots.slots.items c.in_ok-proper.field-0 c.in_ok-writer.ensures slots fits)
