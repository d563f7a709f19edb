use Rattle.std.proofs.Common.{ap, ◌∙◌}
use Rattle.of10_model.specs.Normal.{bit}
use Rattle.port_view.proofs.Bits.{tests_fifth_bit}
use Rattle.port_view.proofs.slice_ports.has_no_flood.Goals as goal

pub returns : goal.returns
returns c = tests_fifth_bit c.config.result ∙ ap (λ word. bit word 4) c.config.ensures
