use Rattle.std.proofs.Common.{List, ◌∷◌, ap, subst}
use Rattle.of10_model.specs.declared.pattern.Pattern.{Pattern}
use Rattle.flow_book.specs.Books.{Added, BookStands}
use Rattle.slice_side.proofs.Changing.{modified}
use Rattle.slice_side.proofs.applying.modify.Goals as goal

pub returns : goal.returns
returns c s sight message stands is =
    modified s sight message _ c.args.m.now c.args.state.now c.request.new.state c.added.new.self c.request.ensures (λ slot calls h. ap (λ p. p.0) (c.next-number.ensures.value slot calls h))
    (λ calls h. subst (λ (pieces : List Pattern). BookStands (Added c.args.m.now.command pieces c.args.m.now.priority c.args.m.now.asks c.next-number.result.0 ∷ calls) c.added.new.self) c.deref.ensures.value (c.added.ensures.stands calls h)) stands is
