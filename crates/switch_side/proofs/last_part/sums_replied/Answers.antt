use Rattle.std.proofs.Common.{◌≡◌, ◌∷◌, [], IfOk, unwrap_or, ap, ◌∙◌, subst}
use Rattle.of10_stats.specs.declared.protocol.TheConstants.{FLOW}
use Rattle.stats_filter.specs.Keeping.{entries_in}
use Rattle.switch_side.specs.Collecting.{with_flows, sums_told}
use Rattle.switch_side.proofs.Gathering.{sums_there}
use Rattle.switch_side.proofs.last_part.sums_replied.Goals as goal

pub returns : goal.returns
returns c calls stands among =
    let sums = c.unwrap_or-sums.ensures ∙ ap (λ found. unwrap_or found (0, 0, 0)) (c.sums.ensures calls stands ∙ sums_there c.args.request.now.number calls among) in
    subst (λ told. IfOk c.one.result (λ v. v.items ≡ told))
    (ap (λ reply. reply ∷ []) c.in_ok-reply.ensures ∙ ap (λ all. sums_told all c.args.request.now.asked.xid) (c.with_flows-packets.ensures ∙ ap (with_flows (entries_in FLOW c.args.last.now)) sums)) c.one.ensures
