use Rattle.flowmod_expand.specs.Messages.{flow_messages}
use Rattle.flowmod_expand.proofs.Walks.{Made}
use Rattle.flowmod_expand.proofs.messages.messages.Given as goal

abbrev pub invariant-loop-place : goal.invariant-loop-place
invariant-loop-place l = Made (flow_messages l.m l.xid l.pieces l.actions l.buffer) l.frames.items l.place
