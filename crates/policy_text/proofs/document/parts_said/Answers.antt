use Rattle.std.proofs.Common.{sym, true≢false}
use Rattle.toml.specs.View.{table_view}
use Rattle.policy_text.proofs.Documents.{said, unsaid}
use Rattle.policy_text.proofs.document.parts_said.Goals as goal

pub returns-in-Ok-clause-exact : goal.returns-in-Ok-clause-exact
returns-in-Ok-clause-exact c = rw (said c.args.bytes.now (table_view c.in-Ok.table) c.in-Ok.ensures.ok.0 c.in-Ok.ensures.ok.1) c.parts_of.ensures.exact

pub returns-else-is_memory-clause-exact : goal.returns-else-is_memory-clause-exact
returns-else-is_memory-clause-exact c = rw (unsaid c.args.bytes.now (c.in-Err.ensures.refused (λ m. true≢false (sym (c.if-is_memory.ensures.1 m)))))
