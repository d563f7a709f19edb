use Rattle.std.proofs.Common.{ℕ, List, sym, ap, ◌∙◌}
use Rattle.switch_side.specs.Carrying.{Carried, carried}
use Rattle.switch_side.proofs.Showing.{none_shown}
use Rattle.switch_side.proofs.dispatch.Dispatch.show.Goals as goal

pub returns-else-has_swaps : goal.returns-else-has_swaps
returns-else-has_swaps c =
    ap (λ (messages : List (ℕ × List ℕ)). record (carried c.args.self.now) { messages = messages })
    (none_shown c.args.policy.now.swaps (sym c.has_swaps.ensures ∙ c.if-has_swaps.false) c.args.self.now.to_slices.items)
