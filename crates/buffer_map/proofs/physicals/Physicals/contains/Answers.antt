use Rattle.std.proofs.Common.{◌∙◌}
use Rattle.buffer_map.proofs.Index.{is_ok-searched}
use Rattle.buffer_map.proofs.physicals.Physicals.contains.Goals as goal

pub returns : goal.returns
returns c =
    rw (← c.self.view_is)
    (c.is_ok.ensures.value ∙ is_ok-searched c.self.inside.all.items c.args.physical c.binary_search.result c.self.invariant.0 (rw c.deref.ensures.value at c.binary_search.ensures.position))
