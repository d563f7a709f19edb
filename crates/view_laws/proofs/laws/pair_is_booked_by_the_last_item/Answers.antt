use Rattle.view_laws.proofs.Booking.{booked-last, last-booked}
use Rattle.view_laws.proofs.laws.pair_is_booked_by_the_last_item.Goals as goal

pub returns : goal.returns
returns c s view pattern priority n = (booked-last s pattern priority n view, λ h. last-booked s pattern priority h.0 view h.1)
