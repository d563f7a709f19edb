use Rattle.std.proofs.Common.{◌∙◌, ◌==◌, ap, find, option_map}
use Rattle.xid_map.proofs.Standing.{collection_of-find}
use Rattle.xid_map.proofs.collections.Collections.collection.Goals as goal

pub returns : goal.returns
returns c calls s =
    ap (option_map (λ x. x.gathered)) (c.collection_for.ensures ∙ ap (find (λ x. x.gathered.number == c.args.number)) c.deref.ensures.value)
    ∙ collection_of-find c.args.number c.self.inside.all.items calls (rw (← c.self.view_is) at s)
