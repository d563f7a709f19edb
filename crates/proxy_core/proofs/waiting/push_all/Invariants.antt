use Rattle.std.proofs.Common.{ℕ, ◌≡◌, ◌≤◌, length}
use Rattle.std.specs.Vec.Iter.{into_iter_items, into_iter_len}
use Rattle.outbox.specs.Queues.{Queue, push_all, QueueStands}
use Rattle.proxy_core.proofs.waiting.push_all.Given as goal

abbrev pub invariant-loop-message : goal.invariant-loop-message
invariant-loop-message l = record {
  whole : into_iter_len l.message-iterator ≡ length (into_iter_items l.message-iterator);
  room : length (into_iter_items l.message-iterator) ≤ l.waiting.room;
  pushed : (limit : ℕ) (q : Queue) → QueueStands limit q l.initial.waiting
      → (now : Queue) × QueueStands limit now l.waiting × (push_all limit now (into_iter_items l.message-iterator) ≡ push_all limit q (into_iter_items l.initial.message-iterator));
}
