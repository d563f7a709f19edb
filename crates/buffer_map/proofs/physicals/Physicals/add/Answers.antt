use Rattle.std.proofs.lemmas.List.Sorted.{IsPermutation-insert}
use Rattle.buffer_map.proofs.physicals.Physicals.add.Goals as goal

pub returns : goal.returns
returns c = rw (← c.self.view_is, c.in-Ok.ensures.items) (IsPermutation-insert c.self.inside.all.items c.place_for-place.result c.args.physical)
