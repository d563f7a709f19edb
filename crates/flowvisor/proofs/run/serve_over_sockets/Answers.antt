use Rattle.std.specs.Prelude.{None}
use Rattle.flowvisor.proofs.run.serve_over_sockets.Goals as goal

pub returns : goal.returns
returns g c = record {
  first = record { accepted = None; faults = λ at. c.new.result.faults };
  last = record { accepted = None; faults = λ at. c.serve.new.wires.faults };
  ended = c.serve.ensures.ended;
}
