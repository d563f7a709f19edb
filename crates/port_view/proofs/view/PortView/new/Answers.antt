use Rattle.std.proofs.Common.{◌≡◌, length, ap, ◌∙◌, arith}
use Rattle.port_view.specs.KnownPorts.{first_known, known_of}
use Rattle.port_view.proofs.Knowing.{length-first_known}
use Rattle.port_view.proofs.view.PortView.new.Goals as goal

pub invariant_of-result : goal.invariant_of-result
invariant_of-result c =
    let is : c.in_ok-first_known.field-0.items ≡ first_known c.args.features.now.ports = c.in_ok-first_known.ensures.value ∙ ap first_known c.as_slice.ensures in
    let few = length-first_known c.args.features.now.ports in
    let long : length c.in_ok-first_known.field-0.items ≡ length (first_known c.args.features.now.ports) = ap length is in
    (c.in_ok-first_known.ensures.order, omega arith)

pub returns : goal.returns
unfolding known_of
returns c = record { known = c.in_ok-first_known.ensures.value ∙ ap first_known c.as_slice.ensures }
