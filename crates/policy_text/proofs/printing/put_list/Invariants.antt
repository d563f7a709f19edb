use Rattle.std.proofs.Common.{◌≡◌, ◌++◌, false, length, map, string_bytes}
use Rattle.toml.specs.Data.{string}
use Rattle.toml.specs.View.{items_of}
use Rattle.policy_text.specs.Printing.{items_text}
use Rattle.policy_text.proofs.printing.put_list.Given as goal

abbrev pub invariant-loop-rest : goal.invariant-loop-rest
invariant-loop-rest l = string_bytes l.out ++ items_text false (items_of (map string (map (λ s. s.now) l.rest))) ≡ string_bytes l.initial.out ++ items_text false (items_of (map string (map (λ s. s.now) l.texts)))

abbrev pub decreases-loop-rest : goal.decreases-loop-rest
decreases-loop-rest l = length l.rest
