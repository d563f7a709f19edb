use Rattle.std.proofs.Common.{sym, subst}
use Rattle.fv_report.specs.declared.counter.Counter.{Counter}
use Rattle.event_player.specs.declared.teller.Said.{Said}
use Rattle.desk_words.specs.Reports.{Lane, To}
use Rattle.event_player.specs.Lines.{saying_of}
use Rattle.fv_report.specs.Counting.{CountsLine}
use Rattle.fv_report.proofs.Counting.{lane_counted, ok_so, told_as}
use Rattle.fv_report.proofs.counter.CounterTeller.tell.Goals as goal

pub returns-in-Lane : goal.returns-in-Lane
returns-in-Lane c =
    let old = c.args.self.now in
    let message = c.in-Lane.message.now in
    let new : Counter = record { lane = c.add.new.self; slices = old.slices } in
    subst (λ (said : Said). CountsLine (saying_of said) c.add.result old new) (sym c.in-Lane.is)
    (told_as c.add.result (Lane message) old new (ok_so c.add.result c.add.ensures.added (λ added. lane_counted message old c.add.new.self added)) c.add.ensures.memory)

pub returns-in-To : goal.returns-in-To
returns-in-To c =
    let old = c.args.self.now in
    let new = c.add_at.new.self in
    let name = c.in-To.field-1.now in
    subst (λ (said : Said). CountsLine (saying_of said) c.add_at.result old new) (sym c.in-To.is)
    (told_as c.add_at.result (To c.in-To.slot name c.in-To.message.now) old new (ok_so c.add_at.result c.add_at.ensures.added (λ added. added name)) c.add_at.ensures.memory)
