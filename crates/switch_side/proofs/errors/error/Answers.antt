use Rattle.std.proofs.Common.{◌≡◌, ap, ◌∙◌, sym}
use Rattle.of10_message.specs.Errors.{error_of_view}
use Rattle.switch_side.specs.Carrying.{turning}
use Rattle.switch_side.proofs.Turns.{request_found, request_none}
use Rattle.switch_side.proofs.errors.error.Goals as goal

pub returns-in-Some : goal.returns-in-Some
returns-in-Some c called all =
    let seen = c.in-Some.seen in
    request_found called c.args.states.now c.args.xid seen.slot seen.state.now (error_of_view c.args.error.now) seen.request c.failed.result
    c.in-Some.ensures.slot c.in-Some.ensures.state (c.in-Some.ensures.request called all) c.failed.ensures

pub returns-in-None : goal.returns-in-None
returns-in-None c called all =
    c.nothing.ensures ∙ ap turning (request_none called c.args.states.now c.args.xid (error_of_view c.args.error.now) (c.in-None.ensures.request called all))
