use Rattle.std.proofs.Common.{sym, subst, ◌∙◌}
use Rattle.slice_words.specs.PacketOuts.{permitted_out}
use Rattle.slice_side.specs.Reactions.{ground_at}
use Rattle.slice_side.specs.Checking.{IsChecked}
use Rattle.slice_side.proofs.Outs.{out_refused_early, out_refused_action, out_refused_long}
use Rattle.slice_side.proofs.packet_outs.packet_outcome.Goals as goal

pub returns-in-Some : goal.returns-in-Some
returns-in-Some c quota = out_refused_early (ground_at c.args.around.now.policy.now.rules c.args.around.now.slot c.args.around.now.ports.now quota c.args.xid c.args.around.now.state.now) c.args.m.now (c.in-Some.class, c.in-Some.code) (sym (c.early_fault.ensures quota c.args.xid) ∙ c.in-Some.is)

pub returns-in-Forbidden : goal.returns-in-Forbidden
returns-in-Forbidden c quota =
    out_refused_action (ground_at c.args.around.now.policy.now.rules c.args.around.now.slot c.args.around.now.ports.now quota c.args.xid c.args.around.now.state.now) c.args.m.now c.in-Forbidden.code (sym (c.early_fault.ensures quota c.args.xid) ∙ c.in-None.is)
    (subst (IsChecked (permitted_out (ground_at c.args.around.now.policy.now.rules c.args.around.now.slot c.args.around.now.ports.now quota c.args.xid c.args.around.now.state.now) c.args.m.now)) c.in-Forbidden.is (c.in_ok-code.ensures quota c.args.xid))

pub returns-in-TooMany : goal.returns-in-TooMany
returns-in-TooMany c quota =
    let told = subst (IsChecked (permitted_out (ground_at c.args.around.now.policy.now.rules c.args.around.now.slot c.args.around.now.ports.now quota c.args.xid c.args.around.now.state.now) c.args.m.now)) c.in-TooMany.is (c.in_ok-code.ensures quota c.args.xid) in
    out_refused_long (ground_at c.args.around.now.policy.now.rules c.args.around.now.slot c.args.around.now.ports.now quota c.args.xid c.args.around.now.state.now) c.args.m.now told.0 (sym (c.early_fault.ensures quota c.args.xid) ∙ c.in-None.is) told.1 told.2

pub returns-in-Given : goal.returns-in-Given
returns-in-Given c quota =
    let told = subst (IsChecked (permitted_out (ground_at c.args.around.now.policy.now.rules c.args.around.now.slot c.args.around.now.ports.now quota c.args.xid c.args.around.now.state.now) c.args.m.now)) c.in-Given.is (c.in_ok-code.ensures quota c.args.xid) in
    c.sent.ensures quota (sym (c.early_fault.ensures quota c.args.xid) ∙ c.in-None.is, told.0, told.1)
