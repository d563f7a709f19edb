use Rattle.of10_port.proofs.Again.{IsOf-features}
use Rattle.of10_port.proofs.features.Features.encode.Goals as goal

pub of-requires : goal.of-requires
of-requires c = rw c.in_ok-spelled.ensures.value (IsOf-features c.args.self.now c.args.xid c.in_ok-spelled.ensures.size c.requires).0

pub returns-clause-kind : goal.returns-clause-kind
returns-clause-kind c = rw (c.of.ensures, c.in_ok-spelled.ensures.value) (IsOf-features c.args.self.now c.args.xid c.in_ok-spelled.ensures.size c.requires)
