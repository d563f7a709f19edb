use Rattle.std.proofs.Common.{sym, ap, ◌∙◌, is_some}
use Rattle.switch_side.proofs.Gathering.{is_some-map, collects_by}
use Rattle.switch_side.proofs.statistics.collects.Goals as goal

pub returns-then-eq-clause-value : goal.returns-then-eq-clause-value
returns-then-eq-clause-value c calls stands =
    collects_by c.args.request.now c.args.kind calls c.is_some.result c.type_sent.result c.type_sent.ensures (sym c.eq.ensures ∙ c.if-eq.true)
    (c.is_some.ensures ∙ sym (is_some-map (λ e. e.now) c.entries.result) ∙ ap is_some (c.entries.ensures calls stands))
