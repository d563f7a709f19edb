use Rattle.view_laws.proofs.Telling.{told-replies, told-nothing}
use Rattle.view_laws.proofs.laws.slice_is_told_what_was_gathered.Goals as goal

pub returns-clause-told : goal.returns-clause-told
returns-clause-told c s view x kind request h = told-replies s view x kind request h

pub returns-clause-nothing : goal.returns-clause-nothing
returns-clause-nothing c s view x kind none = told-nothing s view x kind none
