use Rattle.of10_stats.proofs.Again.{IsOf-request}
use Rattle.of10_stats.proofs.request.StatsRequest.encode.Goals as goal

pub of-requires : goal.of-requires
of-requires c = rw c.in_ok-spelled.ensures (IsOf-request c.args.self.now c.args.xid).0

pub returns-clause-kind : goal.returns-clause-kind
returns-clause-kind c = rw (c.of.ensures, c.in_ok-spelled.ensures) (IsOf-request c.args.self.now c.args.xid)
