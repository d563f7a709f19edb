use Rattle.std.proofs.Common.{rules}
use Rattle.std.proofs.lemmas.List.Sorted.{answers_always}
use Rattle.of10_port.specs.Ports.{port_number}
use Rattle.port_view.proofs.Cutting.{IsPlace-searched}
use Rattle.port_view.proofs.sorted_ports.place_of.Goals as goal

pub returns-clause-place : goal.returns-clause-place
returns-clause-place c =
    let keys = answers_always _ _ _ (λ f a r next called. search rules) in
    (IsPlace-searched c.args.number c.args.ports.now c.binary_search_by_key.result c.requires c.binary_search_by_key.ensures.bound (c.binary_search_by_key.ensures.position port_number keys)).0

pub returns-clause-known : goal.returns-clause-known
returns-clause-known c =
    let keys = answers_always _ _ _ (λ f a r next called. search rules) in
    (IsPlace-searched c.args.number c.args.ports.now c.binary_search_by_key.result c.requires c.binary_search_by_key.ensures.bound (c.binary_search_by_key.ensures.position port_number keys)).1
