use Rattle.std.proofs.Common.{subst}
use Rattle.of10_model.specs.Normal.{IsNormal}
use Rattle.flow_book.proofs.finding.place_of.Goals as goal

pub returns-clause-normal : goal.returns-clause-normal
returns-clause-normal c = subst IsNormal c.encode.ensures.again c.search.ensures.normal
