use Rattle.stats_filter.proofs.Paging.{size_from, filled_more, filled_up, filled_last}
use Rattle.stats_filter.proofs.slice_replies.page_end.Goals as goal

pub loop-size-preserved : goal.loop-size-preserved
loop-size-preserved c = filled_more c.args.kind c.in-Some.size c.args.entries.now c.loop-size.end c.loop-size.invariant (size_from c.args.kind c.args.entries.now c.loop-size.end _ c.in-Some.ensures.value) c.if-end-size-gt-PAGE.false

pub returns-then-end-size-gt-PAGE-clause-page : goal.returns-then-end-size-gt-PAGE-clause-page
returns-then-end-size-gt-PAGE-clause-page c =
    (filled_up c.args.kind c.in-Some.size c.args.entries.now c.loop-size.end c.loop-size.invariant (size_from c.args.kind c.args.entries.now c.loop-size.end _ c.in-Some.ensures.value) c.if-end-size-gt-PAGE.true).page

pub returns-then-end-size-gt-PAGE-clause-goes_on : goal.returns-then-end-size-gt-PAGE-clause-goes_on
returns-then-end-size-gt-PAGE-clause-goes_on c =
    (filled_up c.args.kind c.in-Some.size c.args.entries.now c.loop-size.end c.loop-size.invariant (size_from c.args.kind c.args.entries.now c.loop-size.end _ c.in-Some.ensures.value) c.if-end-size-gt-PAGE.true).goes_on

pub returns-in_default-clause-page : goal.returns-in_default-clause-page
returns-in_default-clause-page c = (filled_last c.args.kind c.args.entries.now c.loop-size.end c.loop-size.invariant (size_from c.args.kind c.args.entries.now c.loop-size.end _ c.in_default.ensures.value)).page
