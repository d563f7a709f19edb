use Rattle.std.proofs.Common.{sym, subst, ◌∙◌}
use Rattle.of10_ctl.specs.declared.kind.TheConstants.{FEATURES_REPLY}
use Rattle.of10_ctl.specs.Frames.{IsFrame}
use Rattle.of10_ctl.specs.Kinds.{IsOf}
use Rattle.flowspace.specs.Swaps.{pairs_of}
use Rattle.port_turns.proofs.SentHeads.{out_kind}
use Rattle.port_view.proofs.view.PortView.features_for.Goals as goal

pub returns-clause-kind : goal.returns-clause-kind
returns-clause-kind c = subst (IsOf FEATURES_REPLY) (sym c.in_ok-turn_out.ensures) (out_kind FEATURES_REPLY (pairs_of c.args.policy.now.swaps c.args.slot) _ (subst IsFrame (c.reply.view_is ∙ c.in_ok-turn_out.ensures) c.reply.invariant) c.in_ok-reply.ensures.kind)
