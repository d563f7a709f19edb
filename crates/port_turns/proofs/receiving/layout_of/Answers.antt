use Rattle.std.proofs.Common.{sym, ap, subst, ◌∙◌, Ok}
use Rattle.of10_message.specs.declared.controller.FromController.{FromController}
use Rattle.port_turns.specs.declared.receiving.Layout.{Layout}
use Rattle.port_turns.specs.Received.{AreLaid}
use Rattle.port_turns.proofs.Received.{laid_by}
use Rattle.port_turns.proofs.receiving.layout_of.Goals as goal

pub returns-in-Ok-FlowMod-clause-laid : goal.returns-in-Ok-FlowMod-clause-laid
returns-in-Ok-FlowMod-clause-laid c = laid_by c.args.frame.now _ (sym c.read_controller.ensures ∙ c.in-Ok-FlowMod.is ∙ ap (λ (m : FromController). Ok m) c.in-Ok-FlowMod.field-0-is)

pub returns-in-Ok-PacketOut-clause-laid : goal.returns-in-Ok-PacketOut-clause-laid
returns-in-Ok-PacketOut-clause-laid c = laid_by c.args.frame.now _ (sym c.read_controller.ensures ∙ c.in-Ok-PacketOut.is ∙ ap (λ (m : FromController). Ok m) c.in-Ok-PacketOut.field-0-is)

pub returns-in-Ok-StatsRequest-clause-laid : goal.returns-in-Ok-StatsRequest-clause-laid
returns-in-Ok-StatsRequest-clause-laid c =
    subst (λ (l : Layout). AreLaid c.args.frame.now l) (sym c.layout_of_request.ensures) (laid_by c.args.frame.now _ (sym c.read_controller.ensures ∙ c.in-Ok-StatsRequest.is ∙ ap (λ (m : FromController). Ok m) c.in-Ok-StatsRequest.field-0-is))

pub returns-in-Ok-QueueGetConfigRequest-clause-laid : goal.returns-in-Ok-QueueGetConfigRequest-clause-laid
returns-in-Ok-QueueGetConfigRequest-clause-laid c = laid_by c.args.frame.now _ (sym c.read_controller.ensures ∙ c.in-Ok-QueueGetConfigRequest.is ∙ ap (λ (m : FromController). Ok m) c.in-Ok-QueueGetConfigRequest.field-0-is)
