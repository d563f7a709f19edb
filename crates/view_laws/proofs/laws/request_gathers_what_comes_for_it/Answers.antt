use Rattle.view_laws.proofs.Gathering.{collecting-gathered, is_for-IsFor, IsFor-is_for, none_before}
use Rattle.view_laws.proofs.laws.request_gathers_what_comes_for_it.Goals as goal

pub returns-clause-gathered : goal.returns-clause-gathered
returns-clause-gathered c s view number made = collecting-gathered s view number made

pub returns-clause-comes : goal.returns-clause-comes
returns-clause-comes c s x number view = (is_for-IsFor s x number view, IsFor-is_for s x number view)

pub returns-clause-since : goal.returns-clause-since
returns-clause-since c s view number asked early = none_before s view number asked early
