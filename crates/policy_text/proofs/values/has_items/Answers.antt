use Rattle.std.proofs.Common.{sym}
use Rattle.toml.proofs.Views.{has_items-view}
use Rattle.policy_text.proofs.values.has_items.Goals as goal

pub returns : goal.returns
returns c = rw c.is_empty.ensures (sym (has_items-view c.args.values.now))
