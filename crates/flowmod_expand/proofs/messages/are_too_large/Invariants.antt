use Rattle.std.specs.Prelude.{ℕ, ◌≡◌, List, Option, length}
use Rattle.of10_model.specs.declared.pattern.Pattern.{Pattern}
use Rattle.flowmod_expand.specs.Messages.{flow_messages}
use Rattle.flowmod_expand.proofs.Walks.{Counted}
use Rattle.flowmod_expand.proofs.messages.are_too_large.Given as goal

abbrev pub invariant-loop-list : goal.invariant-loop-list
invariant-loop-list l = (xid : ℕ) (pieces : List Pattern) (buffer : Option (ℕ × ℕ)) → length l.actions ≡ length pieces → Counted (flow_messages l.m xid pieces l.actions buffer) l.room l.list-index
