use Rattle.std.proofs.Common.{length, ◌-◌, ◌*◌, ◌≤◌, ◌≡◌, List, Ok}
use Rattle.recording.specs.declared.item.Item.{Item}
use Rattle.recording.specs.Recordings.{read_trace}
use Rattle.trace_audit.proofs.Running.{Auditing}
use Rattle.trace_audit.proofs.auditing.audit_accepted.Given as goal

abbrev pub invariant-loop-at : goal.invariant-loop-at
invariant-loop-at l = record {
  auditing : (all : List Item) → read_trace (length l.fn.policy.slices) l.file ≡ Ok all → Auditing l.fn.policy l.file all l.at l.count l.switches.items;
  few : l.count * 16 ≤ l.at;
  inside : l.at ≤ length l.file;
}

abbrev pub decreases-loop-at : goal.decreases-loop-at
decreases-loop-at l = length l.file - l.at
