use Rattle.std.proofs.Common.{◌≡◌, IfOk, sym, subst}
use Rattle.xid_map.specs.Collections.{gathered}
use Rattle.slice_words.specs.Statistics.{collected_replies}
use Rattle.switch_side.specs.Collecting.{calls_with}
use Rattle.switch_side.proofs.Gathering.{sums_are, kept_told, not_sum}
use Rattle.switch_side.proofs.last_part.all_replied.Goals as goal

pub returns-in-Aggregate : goal.returns-in-Aggregate
returns-in-Aggregate c calls stands among =
    let request = c.args.request.now in
    subst (λ kind. IfOk c.sums_replied.result (λ v. v.items ≡ collected_replies kind (gathered request.number (calls_with kind request.number c.args.last.now calls)) request.asked.xid)) (sym c.in-Aggregate.is)
    (subst (λ told. IfOk c.sums_replied.result (λ v. v.items ≡ told)) (sums_are request.number request.asked.xid c.args.last.now calls) (c.sums_replied.ensures calls stands among))

pub returns-in_default : goal.returns-in_default
returns-in_default c calls stands among =
    let request = c.args.request.now in
    subst (λ told. IfOk c.entries_replied.result (λ v. v.items ≡ told))
    (kept_told request.asked.kind request.number c.args.kind request.asked.xid c.args.last.now calls (not_sum request.asked.kind c.in_default.not-Aggregate) c.requires) (c.entries_replied.ensures calls stands among)
