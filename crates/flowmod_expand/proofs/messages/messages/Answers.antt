use Rattle.std.proofs.Common.{[], ◌∙◌, arith}
use Rattle.std.proofs.lemmas.List.{take_all}
use Rattle.of10_flow.specs.FlowMods.{shown_flow_mod}
use Rattle.flowmod_expand.specs.Messages.{flow_messages}
use Rattle.flowmod_expand.proofs.Walks.{flow_messages_length, made_more, made_at, fits_at}
use Rattle.flowmod_expand.proofs.messages.messages.Goals as goal

pub encode-requires-clause-fits : goal.encode-requires-clause-fits
encode-requires-clause-fits c =
    let m = c.args.m.now in
    let pieces = c.args.pieces.now in
    let lists = c.args.actions.now in
    let messages = flow_messages m c.args.xid pieces lists c.args.buffer in
    let long = flow_messages_length m c.args.xid pieces lists c.args.buffer c.requires.lists in
    let made = made_at m c.args.xid pieces lists c.args.buffer c.loop-place.place c.index-pieces-place.result c.index-actions-place.result c.buffer_at-number.result (shown_flow_mod c.piece_message-sent.result) []
    c.loop-place-test.true c.requires.lists c.index-pieces-place.is c.index-actions-place.is c.buffer_at-number.ensures c.piece_message-sent.ensures.value in
    fits_at messages c.loop-place.place (shown_flow_mod c.piece_message-sent.result) (omega (arith, c.loop-place-test.true, long)) c.requires.fits made

pub loop-place-preserved : goal.loop-place-preserved
loop-place-preserved c =
    let m = c.args.m.now in
    let pieces = c.args.pieces.now in
    let lists = c.args.actions.now in
    let messages = flow_messages m c.args.xid pieces lists c.args.buffer in
    let long = flow_messages_length m c.args.xid pieces lists c.args.buffer c.requires.lists in
    let frame = c.in_ok-encode.ensures.value ∙ made_at m c.args.xid pieces lists c.args.buffer c.loop-place.place c.index-pieces-place.result c.index-actions-place.result c.buffer_at-number.result (shown_flow_mod c.piece_message-sent.result) c.in_ok-encode.field-0
    c.loop-place-test.true c.requires.lists c.index-pieces-place.is c.index-actions-place.is c.buffer_at-number.ensures c.piece_message-sent.ensures.value in
    rw c.in_ok-push.ensures.items (made_more messages c.loop-place.frames.items c.loop-place.place c.in_ok-encode.field-0 c.loop-place.invariant (omega (arith, c.loop-place-test.true, long)) frame c.in_ok-encode.ensures.kind)

pub returns-clause-value : goal.returns-clause-value
returns-clause-value c =
    let messages = flow_messages c.args.m.now c.args.xid c.args.pieces.now c.args.actions.now c.args.buffer in
    let long = flow_messages_length c.args.m.now c.args.xid c.args.pieces.now c.args.actions.now c.args.buffer c.requires.lists in
    c.loop-place.invariant.so_far ∙ take_all c.loop-place.place messages (omega (arith, c.loop-place-test.false, long))
