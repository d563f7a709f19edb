use Rattle.std.proofs.Common.{◌≡◌, ℕ, slice_get, Some, refl, sym, subst}
use Rattle.std.proofs.lemmas.Bool.{ltb-true}
use Rattle.std.proofs.lemmas.Option.{slice_get_read}
use Rattle.switch_side.proofs.Turns.{owner_found}
use Rattle.switch_side.proofs.removals.owned.Goals as goal

pub returns : goal.returns
returns c called all =
    let lookup = c.in-Some.ensures.lookup in
    let found : slice_get c.args.states.now c.from.result ≡ Some c.in-Some.state.now = slice_get_read c.args.states.now _ c.from.result c.in-Some.state.now refl (ltb-true c.from.result _ (sym lookup.0)) lookup.1 in
    let there : slice_get c.args.states.now c.args.slot ≡ Some c.in-Some.state.now = subst (λ (k : ℕ). slice_get c.args.states.now k ≡ Some c.in-Some.state.now) c.from.ensures found in
    owner_found called c.args.states.now c.args.slot c.in-Some.state.now c.args.entry.now c.booked-booked.result c.released.result
    there (c.booked-booked.ensures.answer (called c.args.slot).book (all c.args.slot c.in-Some.state.now there).1) c.released.ensures
