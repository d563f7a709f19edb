use Rattle.std.proofs.Common.{ap, ◌∙◌, List}
use Rattle.std.specs.List.{list_any}
use Rattle.flowspace.specs.declared.swaps.Swap.{Swap}
use Rattle.flowspace.specs.Swaps.{is_swap_of}
use Rattle.port_turns.proofs.Named.{some_named}
use Rattle.port_turns.proofs.sending.has_swaps.Goals as goal

pub returns-then-has_swaps : goal.returns-then-has_swaps
returns-then-has_swaps c =
    c.has_one_of.ensures ∙ ap (λ (l : List Swap). list_any (is_swap_of c.args.slot) l) c.swaps.ensures.value ∙ some_named c.args.policy.now.swaps c.args.slot
