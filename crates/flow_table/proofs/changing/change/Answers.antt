use Rattle.std.proofs.Common.{sym, ap, ◌∙◌}
use Rattle.std.specs.Prelude.{count_by}
use Rattle.std.proofs.lemmas.Bool.{lt-leb}
use Rattle.of10_flow.specs.declared.protocol.TheConstants.{DELETE}
use Rattle.of10_flow.specs.Tables.{touches}
use Rattle.flow_table.proofs.Setting.{apply_added, apply_changed}
use Rattle.flow_table.proofs.changing.change.Goals as goal

pub returns-then-count-eq0-clause-value : goal.returns-then-count-eq0-clause-value
returns-then-count-eq0-clause-value c =
    let m = c.args.m.now in
    let counted = sym (ap (count_by (touches m)) c.deref.ensures.value) ∙ sym c.touched-count.ensures in
    rw (apply_added c.args.entries.now.items m c.requires.taken (lt-leb DELETE m.command c.requires.command) (counted ∙ c.if-count-eq0.true)) c.add_entry.ensures.added

pub returns-else-count-eq0-clause-value : goal.returns-else-count-eq0-clause-value
returns-else-count-eq0-clause-value c =
    let m = c.args.m.now in
    let counted = sym (ap (count_by (touches m)) c.deref.ensures.value) ∙ sym c.touched-count.ensures in
    rw (apply_changed c.args.entries.now.items m c.requires.taken (lt-leb DELETE m.command c.requires.command) (λ none. c.if-count-eq0.false (sym counted ∙ none))) c.set_touched.ensures.set
