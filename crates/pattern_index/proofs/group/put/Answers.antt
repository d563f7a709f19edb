use Rattle.std.proofs.Common.{◌<◌, length, sym, subst}
use Rattle.pattern_index.proofs.Least.{least_kept}
use Rattle.pattern_index.proofs.Outcomes.{on_err}
use Rattle.pattern_index.proofs.group.put.Goals as goal

pub returns-in-Some-clause-kept : goal.returns-in-Some-clause-kept
returns-in-Some-clause-kept c =
    let within = subst (λ groups. c.in-Some.at < length groups) c.deref.ensures.value c.in-Some.ensures.within in
    on_err c.put.result (least_kept c.args.groups.now.items c.in-Some.at c.index_mut.result.now c.put.new.self within (sym c.index_mut.ensures.value)) c.put.ensures.kept
