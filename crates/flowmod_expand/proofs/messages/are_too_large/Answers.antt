use Rattle.std.proofs.Common.{◌+◌, [], sym, arith}
use Rattle.flowmod_expand.specs.Messages.{flow_messages}
use Rattle.flowmod_expand.proofs.Walks.{flow_messages_length, too_large, counted_none, counted_more, all_fit, size_at}
use Rattle.flowmod_expand.proofs.messages.are_too_large.Goals as goal

pub loop-list-init : goal.loop-list-init
loop-list-init c = λ xid pieces buffer long. counted_none (flow_messages c.args.m.now xid pieces c.args.actions.now buffer)

pub returns-then-is_too_large : goal.returns-then-is_too_large
returns-then-is_too_large c = λ xid pieces buffer long.
    let m = c.args.m.now in
    let lists = c.args.actions.now in
    let messages = flow_messages m xid pieces lists buffer in
    let count = flow_messages_length m xid pieces lists buffer long in
    let size = size_at m xid pieces lists buffer c.loop-list.list-index c.list-item.result c.sent_actions.result.now c.list_size-size.result c.loop-list-test.true long c.list-item.is c.sent_actions.ensures.value c.list_size-size.ensures in
    sym (too_large messages c.loop-list.room c.loop-list.list-index (72 + c.list_size-size.result) [] (omega (arith, c.loop-list-test.true, count, long)) (c.loop-list.invariant xid pieces buffer long).left size (c.is_too_large.ensures.large c.if-is_too_large.true))

pub loop-list-preserved : goal.loop-list-preserved
loop-list-preserved c = λ xid pieces buffer long.
    let m = c.args.m.now in
    let lists = c.args.actions.now in
    let messages = flow_messages m xid pieces lists buffer in
    let count = flow_messages_length m xid pieces lists buffer long in
    let size = size_at m xid pieces lists buffer c.loop-list.list-index c.list-item.result c.sent_actions.result.now c.list_size-size.result c.loop-list-test.true long c.list-item.is c.sent_actions.ensures.value c.list_size-size.ensures in
    let fit = c.is_too_large.ensures.fits c.if-is_too_large.false in
    counted_more messages c.loop-list.room c.loop-list.list-index (72 + c.list_size-size.result) (c.loop-list.invariant xid pieces buffer long) (omega (arith, c.loop-list-test.true, count, long)) size fit.0 fit.1

pub returns : goal.returns
returns c = λ xid pieces buffer long.
    let messages = flow_messages c.args.m.now xid pieces c.args.actions.now buffer in
    let count = flow_messages_length c.args.m.now xid pieces c.args.actions.now buffer long in
    sym (all_fit messages c.loop-list.room c.loop-list.list-index (c.loop-list.invariant xid pieces buffer long) (omega (arith, c.loop-list-test.false, count, long)))
