use Rattle.std.proofs.Common.{List, reverse}
use Rattle.outbox.specs.Queues.{OutboxState}
use Rattle.proxy_core.specs.Handing.{HaveRoom, AreHanded}
use Rattle.proxy_core.proofs.slice_queues.hand_out.Given as goal

abbrev pub invariant-loop-slot : goal.invariant-loop-slot
invariant-loop-slot l = record {
  room : HaveRoom (reverse l.messages.items) l.queues.items;
  handed : (later : List OutboxState) → AreHanded (reverse l.messages.items) l.queues.items later → AreHanded l.fn.messages.items l.fn.queues.items later;
}

abbrev pub decreases-loop-slot : goal.decreases-loop-slot
decreases-loop-slot l = goal.left-loop-slot l
