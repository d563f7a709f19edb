use Rattle.std.proofs.Common.{◌≡◌, ◌*◌, ℕ, List, [], ◌∷◌, length, Option, Some, None, sym, ap, ◌∙◌}
use Rattle.of10_action.specs.declared.action.Action.TheVariants.{Output}
use Rattle.of10_action.specs.Actions.{spelling}
use Rattle.action_check.specs.Permitted.{outputs, ports_for, spread}
use Rattle.action_check.proofs.Sizes.{length-outputs}
use Rattle.action_check.proofs.flood_expansion.spread_bytes.Goals as goal

of_ports : (flood all ports : List ℕ) (port max_len : ℕ) → Some ports ≡ ports_for port flood all → 8 * length ports ≡ length (spelling (spread flood all (Output port max_len)))
of_ports flood all ports port max_len e =
    sym (length-outputs max_len ports) ∙ ap (λ (o : Option (List ℕ)). length (spelling (elim o [ None ↦ Output port max_len ∷ [] | Some found ↦ outputs max_len found ]))) e

pub returns-in-Some-clause-value : goal.returns-in-Some-clause-value
returns-in-Some-clause-value c =
    rw c.in-Output.is (of_ports c.args.flood.now c.args.all.now c.in-Some.ports.now c.in-Output.port c.in-Output.max_len c.in-Some.ensures)
