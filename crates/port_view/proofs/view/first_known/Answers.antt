use Rattle.std.proofs.Common.{ℕ, List, ◌∙◌, sym, ap}
use Rattle.std.proofs.lemmas.List.{take_all}
use Rattle.port_view.specs.KnownPorts.{first_known, with_told}
use Rattle.port_view.proofs.Knowing.{IsAscending-none, IsAscending-with_told, first_known-none, first_known-more}
use Rattle.port_view.proofs.view.first_known.Goals as goal

pub loop-port-init : goal.loop-port-init
loop-port-init c = record {
  so_far = c.in_ok-known.ensures.items ∙ sym first_known-none;
  order = rw c.in_ok-known.ensures.items IsAscending-none;
}

pub loop-port-preserved : goal.loop-port-preserved
loop-port-preserved c =
    let more = first_known-more c.args.ports.now c.loop-port.port-index c.port-item.result c.loop-port-test.true c.port-item.is in
    record {
      so_far = c.in_ok-tell.ensures ∙ ap (λ (known : List (List ℕ)). with_told known c.port-item.result) c.loop-port.invariant.so_far ∙ sym more;
      order = rw c.in_ok-tell.ensures (IsAscending-with_told c.loop-port.known.items c.port-item.result c.loop-port.invariant.order);
    }

pub returns-clause-value : goal.returns-clause-value
returns-clause-value c =
    c.loop-port.invariant.so_far ∙ ap first_known (take_all c.loop-port.port-index c.args.ports.now c.loop-port-test.false)
