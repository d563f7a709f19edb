use Rattle.view_laws.proofs.Lasting.{IsCollecting-collects, collects-IsCollecting}
use Rattle.view_laws.proofs.laws.request_collects_until_an_item_ends_it.Goals as goal

pub returns : goal.returns
returns c s view number = (IsCollecting-collects s view number, collects-IsCollecting s view number)
