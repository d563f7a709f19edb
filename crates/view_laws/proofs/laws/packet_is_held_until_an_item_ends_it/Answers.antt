use Rattle.view_laws.proofs.Holding.{contained-IsHeld, IsHeld-contained, found-IsHeld, IsHeld-found}
use Rattle.view_laws.proofs.laws.packet_is_held_until_an_item_ends_it.Goals as goal

pub returns-clause-held : goal.returns-clause-held
returns-clause-held c s view held = (contained-IsHeld s view held, IsHeld-contained s view held)

pub returns-clause-number : goal.returns-clause-number
returns-clause-number c s view number held = (found-IsHeld s view number held, IsHeld-found s view number held)
