use Rattle.std.proofs.Common.{◌≡◌, ◌-◌, ◌/◌, ℕ, List, ap, subst, ◌∙◌, length, take, drop, IfOk, arith}
use Rattle.std.proofs.lemmas.List.{take_all, length-drop}
use Rattle.of10_port.specs.Ports.{ports_in}
use Rattle.port_turns.specs.Sent.{in_number_order}
use Rattle.port_turns.proofs.sorting.sorted_ports.Goals as goal

behind : (bytes : List ℕ) → take (length bytes - 32) (drop 32 bytes) ≡ drop 32 bytes
behind bytes = let size = length-drop 32 bytes in take_all (length bytes - 32) (drop 32 bytes) (omega (arith, size))

pub returns-clause-value : goal.returns-clause-value
returns-clause-value c =
    subst (λ (ports : List (List ℕ)). IfOk c.in_number_order.result (λ v. v.items ≡ in_number_order ports)) (c.in_ok-ports.ensures ∙ c.ports_in-raws.ensures.value ∙ ap ports_in (behind c.args.bytes.now)) c.in_number_order.ensures.value

pub returns-clause-count : goal.returns-clause-count
returns-clause-count c =
    subst (λ (n : ℕ). IfOk c.in_number_order.result (λ v. length v.items ≡ n)) (ap length c.in_ok-ports.ensures ∙ c.ports_in-raws.ensures.count ∙ ap (λ (l : List ℕ). length l / 48) (behind c.args.bytes.now)) c.in_number_order.ensures.count
