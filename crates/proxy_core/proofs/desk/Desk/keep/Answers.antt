use Rattle.std.proofs.Common.{refl}
use Rattle.proxy_core.proofs.Sliced.{stays_on, spare_stands}
use Rattle.proxy_core.proofs.desk.Desk.keep.Goals as goal

pub returns-in-Some-clause-stays : goal.returns-in-Some-clause-stays
returns-in-Some-clause-stays c = stays_on c.args.self.now _ c.in-Some.session _ c.in-Some.is refl refl (λ limit q h. h) refl (spare_stands c.in-Some.session _)
