use Rattle.std.proofs.Common.{is_some, sym, ap, ◌∙◌}
use Rattle.stats_filter.proofs.Paging.{IsNext, none_replied, replied_last, replied_more, replies_for-type_sent}
use Rattle.stats_filter.proofs.slice_replies.replies.Goals as goal

pub loop-frames-init : goal.loop-frames-init
loop-frames-init c = rw c.new-frames.ensures.items (none_replied c.in-Some.sent c.args.xid c.args.entries.now (c.requires.small c.in-Some.sent (sym c.in-Some.ensures)))

pub returns-then-not-more : goal.returns-then-not-more
returns-then-not-more c =
    let next : IsNext c.in-Some.sent c.args.xid c.loop-frames.rest.now c.split_at.result.0.now c.split_at.result.1.now c.is_some-more.result c.in_ok-reply.field-0 = record {
      end = c.page_end.result;
      page_is = c.split_at.ensures.front;
      later_is = c.split_at.ensures.back;
      more_is = c.is_some-more.ensures ∙ ap is_some c.entry_size.ensures.value;
      reply_is = c.in_ok-reply.ensures;
      first = c.page_end.ensures.page;
      small = c.page_end.ensures.later;
    } in
    replied_last c.in-Some.sent c.args.xid c.args.entries.now c.loop-frames.rest.now c.split_at.result.0.now c.split_at.result.1.now c.is_some-more.result c.in_ok-reply.field-0
    c.loop-frames.frames.items c.push.new.self.items c.loop-frames.invariant next c.if-not-more.true c.in_ok-push.ensures.items
    ∙ sym (replies_for-type_sent c.args.kind c.in-Some.sent c.args.xid c.args.entries.now c.in-Some.ensures)

pub loop-frames-preserved : goal.loop-frames-preserved
loop-frames-preserved c =
    let next : IsNext c.in-Some.sent c.args.xid c.loop-frames.rest.now c.split_at.result.0.now c.split_at.result.1.now c.is_some-more.result c.in_ok-reply.field-0 = record {
      end = c.page_end.result;
      page_is = c.split_at.ensures.front;
      later_is = c.split_at.ensures.back;
      more_is = c.is_some-more.ensures ∙ ap is_some c.entry_size.ensures.value;
      reply_is = c.in_ok-reply.ensures;
      first = c.page_end.ensures.page;
      small = c.page_end.ensures.later;
    } in
    replied_more c.in-Some.sent c.args.xid c.args.entries.now c.loop-frames.rest.now c.split_at.result.0.now c.split_at.result.1.now c.is_some-more.result c.in_ok-reply.field-0
    c.loop-frames.frames.items c.push.new.self.items c.loop-frames.invariant next c.if-not-more.false c.in_ok-push.ensures.items
