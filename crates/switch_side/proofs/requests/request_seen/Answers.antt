use Rattle.std.proofs.Common.{◌≡◌, ℕ, slice_get, Some, None, refl, sym, subst}
use Rattle.std.proofs.lemmas.Bool.{ltb-true}
use Rattle.std.proofs.lemmas.Option.{slice_get_read}
use Rattle.switch_side.proofs.Parts.{seen_at}
use Rattle.switch_side.proofs.requests.request_seen.Goals as goal

pub returns-in-Some-find-clause-request : goal.returns-in-Some-find-clause-request
returns-in-Some-find-clause-request c called all =
    let lookup = c.in-Some.ensures.lookup in
    let read : slice_get c.args.states.now c.from.result ≡ Some c.in-Some.state.now = slice_get_read c.args.states.now _ c.from.result c.in-Some.state.now refl (ltb-true c.from.result _ (sym lookup.0)) lookup.1 in
    let there = subst (λ (k : ℕ). slice_get c.args.states.now k ≡ Some c.in-Some.state.now) c.from.ensures read in
    seen_at called c.args.states.now c.args.xid c.slot_of-slot.result c.in-Some.state.now (Some c.in-Some-find.request) c.slot_of-slot.ensures there (c.in-Some-find.ensures _ _ (all c.slot_of-slot.result c.in-Some.state.now there).0)

pub returns-in-None-clause-request : goal.returns-in-None-clause-request
returns-in-None-clause-request c called all =
    let lookup = c.in-Some.ensures.lookup in
    let read : slice_get c.args.states.now c.from.result ≡ Some c.in-Some.state.now = slice_get_read c.args.states.now _ c.from.result c.in-Some.state.now refl (ltb-true c.from.result _ (sym lookup.0)) lookup.1 in
    let there = subst (λ (k : ℕ). slice_get c.args.states.now k ≡ Some c.in-Some.state.now) c.from.ensures read in
    seen_at called c.args.states.now c.args.xid c.slot_of-slot.result c.in-Some.state.now None c.slot_of-slot.ensures there (c.in-None.ensures _ _ (all c.slot_of-slot.result c.in-Some.state.now there).0)

pub returns-in-Some-find-clause-state : goal.returns-in-Some-find-clause-state
returns-in-Some-find-clause-state c =
    let lookup = c.in-Some.ensures.lookup in
    let read : slice_get c.args.states.now c.from.result ≡ Some c.in-Some.state.now = slice_get_read c.args.states.now _ c.from.result c.in-Some.state.now refl (ltb-true c.from.result _ (sym lookup.0)) lookup.1 in
    subst (λ (k : ℕ). slice_get c.args.states.now k ≡ Some c.in-Some.state.now) c.from.ensures read
