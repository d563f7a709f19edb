use Rattle.switch_side.proofs.Turns.{removed_found}
use Rattle.switch_side.proofs.removals.flow_removed.Goals as goal

pub returns-in-Some : goal.returns-in-Some
returns-in-Some c called all =
    removed_found called c.args.index.now c.args.states.now c.in-Some.slot c.args.entry.now c.owned.result c.in-Some.ensures (c.owned.ensures called all)
