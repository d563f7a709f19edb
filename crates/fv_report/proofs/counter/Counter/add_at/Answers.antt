use Rattle.std.proofs.Common.{ℕ, Ok, sym, subst}
use Rattle.std.specs.Vec.{with_item}
use Rattle.fv_report.specs.declared.counter.Counter.{Counter}
use Rattle.desk_words.specs.Reports.{To}
use Rattle.fv_report.specs.Counting.{CountsLine}
use Rattle.fv_report.proofs.Counting.{slice_counted, none_counted, ok_so}
use Rattle.event_player.proofs.Recorded.{found}
use Rattle.fv_report.proofs.counter.Counter.add_at.Goals as goal

pub returns-in-Some-clause-added : goal.returns-in-Some-clause-added
returns-in-Some-clause-added c =
    let old = c.args.self.now in
    let at = c.from.result in
    let count = c.in-Some.count.now in
    let message = c.args.message.now in
    let new : Counter = record { lane = old.lane; slices = with_item old.slices at c.add.new.self } in
    let there = found old.slices.items at count (sym c.in-Some.ensures.item.0) c.in-Some.ensures.value in
    ok_so c.add.result c.add.ensures.added (λ added name. subst (λ (slot : ℕ). CountsLine (To slot name message) (Ok tt) old new) c.from.ensures (slice_counted at name message old count c.add.new.self there added))

pub returns-in-None-clause-added : goal.returns-in-None-clause-added
returns-in-None-clause-added c = λ name.
    let old = c.args.self.now in
    subst (λ (slot : ℕ). CountsLine (To slot name c.args.message.now) (Ok tt) old old) c.from.ensures (none_counted c.from.result name c.args.message.now old c.in-None.ensures.item.3)
