use Rattle.proxy_core.proofs.Questions.{datapath_told, no_datapath}
use Rattle.proxy_core.proofs.desk.Desk.datapath.Goals as goal

pub returns-in-Some : goal.returns-in-Some
returns-in-Some c = datapath_told c.args.self.now c.in-Some.session c.in-Some.is

pub returns-in-None : goal.returns-in-None
returns-in-None c = no_datapath c.args.self.now c.in-None.is
