use Rattle.view_laws.proofs.Booking.{booking-last, booking-first}
use Rattle.view_laws.proofs.laws.booked_pair_is_as_its_items_say.Goals as goal

pub returns-clause-asked : goal.returns-clause-asked
returns-clause-asked c s view pattern priority b n is = booking-last s pattern priority n view b is

pub returns-clause-number : goal.returns-clause-number
returns-clause-number c s view pattern priority b n is = booking-first s pattern priority n view b is
