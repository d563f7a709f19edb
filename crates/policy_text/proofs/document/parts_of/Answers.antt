use Rattle.toml.specs.View.{table_view}
use Rattle.policy_text.specs.Documents.{top}
use Rattle.policy_text.specs.Views.{parts_view}
use Rattle.policy_text.proofs.Refusals.{refused_own}
use Rattle.policy_text.proofs.document.parts_of.Goals as goal

pub returns-clause-refused : goal.returns-clause-refused
returns-clause-refused c = refused_own parts_view c.parts_in.result c.args.highest (top (table_view c.args.table.now)) c.parts_in.ensures
