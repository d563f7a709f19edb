use Rattle.port_view.proofs.Knowing.{changed-not_kept}
use Rattle.port_view.proofs.Following.{own-changed, own-changed_other}
use Rattle.port_view.proofs.laws.part_of_the_ports_follows_its_own_statuses.Goals as goal

pub returns : goal.returns
returns c = record { own = own-changed; others = own-changed_other; not_kept = changed-not_kept }
