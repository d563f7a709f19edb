use Rattle.std.proofs.Common.{sym, arith, ◌∙◌}
use Rattle.recording.proofs.Forms.{is_read, one_of_16}
use Rattle.recording.proofs.reading.record.Goals as goal

pub admits-requires : goal.admits-requires
admits-requires c = one_of_16 c.args.layout c.args.slices _ c.item_at-item.result (sym c.has_form.ensures ∙ c.if-not-has_form.false)

pub returns-clause-item : goal.returns-clause-item
returns-clause-item c =
    let long = c.if-left-lt-RECORD_HEAD.false in
    let whole = c.if-left-item.false in
    is_read c.args.layout c.args.slices _ c.args.bytes.now _ (sym c.has_form.ensures ∙ c.if-not-has_form.false) (sym c.is_whole.ensures ∙ c.if-not-is_whole.false) (omega (arith, long, whole, c.item_at-item.ensures.from))
