use Rattle.view_laws.proofs.Remembering.{found-remembered, remembered-found}
use Rattle.view_laws.proofs.laws.request_is_remembered_among_the_last.Goals as goal

pub returns : goal.returns
returns c s view x request = (found-remembered s view x request, remembered-found s view x request)
