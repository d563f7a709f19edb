use Rattle.std.proofs.Common.{sym, subst}
use Rattle.fv_base.specs.Words.{form_of}
use Rattle.live_serve.specs.Running.{outside}
use Rattle.live_serve.specs.Serving.{ServeReads, Places, ServeCompletes}
use Rattle.live_serve.proofs.Moving.{cause_kept, complete}
use Rattle.live_serve.proofs.program.serve.Goals as goal

pub returns-clause-ended : goal.returns-clause-ended
returns-clause-ended g c =
    let w : ServeReads = record { files = g.F.Files.contents c.args.files.now; before = g.F.Files.faults c.args.files.now; after = g.F.Files.faults c.decide-finish.new.files } in
    let a : Places = λ at. outside (g.N.Wires.accepted c.args.wires.now) (g.P.Spawner.roles c.args.spawner.now) (g.N.Wires.faults c.args.wires.now at) (g.P.Spawner.faults c.args.spawner.now) in
    record {
      finish = c.decide-finish.result;
      answer = c.status.ensures;
      cause = cause_kept w a (g.N.Wires.accepted c.decide-finish.new.wires) (g.P.Spawner.roles c.decide-finish.new.spawner) (g.P.Spawner.roles c.finish.new.self) (g.N.Wires.faults c.decide-finish.new.wires) (g.P.Spawner.faults c.decide-finish.new.spawner) (g.P.Spawner.faults c.finish.new.self) (form_of c.args.words.now) c.decide-finish.result c.finish.ensures.same c.finish.ensures.calm c.decide-finish.ensures.cause;
      reads = c.decide-finish.ensures.reads;
      line = c.say.ensures;
    }

pub returns-clause-complete : goal.returns-clause-complete
returns-clause-complete g c =
    let w : ServeReads = record { files = g.F.Files.contents c.args.files.now; before = g.F.Files.faults c.args.files.now; after = g.F.Files.faults c.decide-finish.new.files } in
    let a : Places = λ at. outside (g.N.Wires.accepted c.args.wires.now) (g.P.Spawner.roles c.args.spawner.now) (g.N.Wires.faults c.args.wires.now at) (g.P.Spawner.faults c.args.spawner.now) in
    let b : Places = λ at. outside (g.N.Wires.accepted c.decide-finish.new.wires) (g.P.Spawner.roles c.finish.new.self) (g.N.Wires.faults c.decide-finish.new.wires at) (g.P.Spawner.faults c.finish.new.self) in
    let cause = cause_kept w a (g.N.Wires.accepted c.decide-finish.new.wires) (g.P.Spawner.roles c.decide-finish.new.spawner) (g.P.Spawner.roles c.finish.new.self) (g.N.Wires.faults c.decide-finish.new.wires) (g.P.Spawner.faults c.decide-finish.new.spawner) (g.P.Spawner.faults c.finish.new.self) (form_of c.args.words.now) c.decide-finish.result c.finish.ensures.same c.finish.ensures.calm c.decide-finish.ensures.cause in
    subst (λ status. ServeCompletes w a b (form_of c.args.words.now) status) (sym c.status.ensures) (complete w a b (form_of c.args.words.now) c.decide-finish.result cause)
