use Rattle.std.proofs.Common.{◌≡◌, ℕ, set, slice_get, Some, sym, subst, arith}
use Rattle.std.proofs.lemmas.Option.{slice_get_read}
use Rattle.switch_side.specs.Changes.{IsMadeAt}
use Rattle.switch_side.proofs.Making.{made_at, none_made}
use Rattle.switch_side.proofs.applying.apply_at.Goals as goal

pub returns-then-place-len : goal.returns-then-place-len
returns-then-place-len c =
    let states = c.args.states.now in
    let ok = states.ok.0 in
    let small = c.if-place-len.true in
    let count = c.len.ensures in
    let there : slice_get states.items c.from-place.result ≡ Some c.index_mut.result.now = slice_get_read states.items _ c.from-place.result c.index_mut.result.now ok (omega arith) c.index_mut.ensures.value in
    let own = subst (λ (k : ℕ). slice_get states.items k ≡ Some c.index_mut.result.now) c.from-place.ensures there in
    subst (λ (k : ℕ). IsMadeAt c.args.slot c.args.change states.items (set states.items k c.apply.new.state)) (sym c.from-place.ensures)
    (made_at states.items c.args.slot c.args.change c.index_mut.result.now c.apply.new.state own c.apply.ensures)

pub returns-else-place-len : goal.returns-else-place-len
returns-else-place-len c =
    let ok = c.args.states.now.ok.0 in
    let out = c.if-place-len.false in
    let count = c.len.ensures in
    let same = c.from-place.ensures in
    none_made c.args.states.now.items c.args.slot c.args.change (omega arith)
