use Rattle.view_laws.proofs.Requesting.{issued-requests, request-place}
use Rattle.view_laws.proofs.Carrying.{sent_under, inquiry_bears, first_bytes}
use Rattle.view_laws.proofs.laws.requests_are_numbered.Goals as goal

pub returns-clause-count : goal.returns-clause-count
returns-clause-count c s view = issued-requests s view

pub returns-clause-place : goal.returns-clause-place
returns-clause-place c s later item earlier asks = request-place s later item earlier asks

pub returns-clause-under : goal.returns-clause-under
returns-clause-under c s view item = sent_under s view item

pub returns-clause-borne : goal.returns-clause-borne
returns-clause-borne c inquiry xid below = inquiry_bears inquiry xid below

pub returns-clause-first : goal.returns-clause-first
returns-clause-first c read message = first_bytes message
