use Rattle.std.proofs.Common.{string_bytes}
use Rattle.policy_text.specs.Printing.{entries_beside}
use Rattle.policy_text.proofs.Appending.{after_all}
use Rattle.policy_text.proofs.printing.put_own.Goals as goal

pub returns-clause-text : goal.returns-clause-text
returns-clause-text c =
    rw (c.in_ok-put_names.ensures, c.in_ok-put_text.ensures, c.in_ok-put_number.ensures.text, c.in_ok-put_datapath.ensures.text, c.name_at.ensures, c.deref.ensures.value, c.in_ok-readers.ensures)
    (after_all (string_bytes c.args.out.now) (entries_beside c.args.slices.now c.args.rule.now))
