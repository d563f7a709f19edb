use Rattle.proxy_core.proofs.Taking.{took_slice, took_none}
use Rattle.proxy_core.proofs.desk.Desk.next_of_slice.Goals as goal

pub returns-in-Some-clause-next : goal.returns-in-Some-clause-next
returns-in-Some-clause-next c = took_slice c.args.self.now c.in-Some.session c.next.new.self c.args.slot c.next.result c.in-Some.is c.next.ensures.there c.next.ensures.nowhere

pub returns-in-None-clause-next : goal.returns-in-None-clause-next
returns-in-None-clause-next c = took_none c.args.self.now c.args.slot c.in-None.is
