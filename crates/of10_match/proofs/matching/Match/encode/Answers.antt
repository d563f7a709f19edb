use Rattle.std.proofs.Common.{◌∙◌, ap}
use Rattle.of10_model.specs.Normal.{Norm}
use Rattle.of10_model.proofs.Spelling.{Norm-Spell}
use Rattle.of10_match.proofs.matching.Match.encode.Goals as goal

pub returns-clause-again : goal.returns-clause-again
returns-clause-again c = ap Norm c.spell.ensures ∙ Norm-Spell c.self.inside.pattern c.self.invariant ∙ c.self.view_is
