use Rattle.std.proofs.Common.{◌≡◌, ◌≤◌, ◌+◌, ◌^◌, length, sym, ◌∙◌, arith}
use mathlib.Core.Option.{some-injective}
use Rattle.std.specs.declared.option.Option.TheVariants.{Some}
use Rattle.std.specs.Slots.{slots_items}
use Rattle.turn_desk.specs.Histories.{seen_of}
use Rattle.turn_desk.specs.Rule.{lefts}
use Rattle.turn_desk.proofs.Ends.{closes, if_some, if_none}
use Rattle.turn_desk.proofs.Keeps.{idle_view}
use Rattle.turn_desk.proofs.parts.TurnDesk.close.Goals as goal

pub returns-then-saturating_add-clause-some : goal.returns-then-saturating_add-clause-some
returns-then-saturating_add-clause-some g c =
    let me = c.args.seat.seat.me in
    let most : 2 ^ 63 ≤ lefts me.0 + length (seen_of me.0) = (let p = c.args.seat.lefts in let q = c.args.seat.counted in let r = c.saturating_add.ensures in let t = c.if-saturating_add.true in grind (arith, p, q, r, t)) in
    let e = closes g.O.Object.acts c.args.self.table.shared.key.value c.args.seat.seat.id me.0 _ (slots_items c.close_with-closed.result.slots) (idle_view me c.args.seat.idle) most c.close_with-closed.ensures.values.2 in
    let same : c.take-object.result ≡ Some e.0 = some-injective _ _ (sym c.take-object.ensures.value ∙ e.1) in
    if_some _ c.take-object.result e.0 same ((let p = c.args.seat.lefts in let m = most in omega arith), e.2)

pub returns-then-saturating_add-clause-none : goal.returns-then-saturating_add-clause-none
returns-then-saturating_add-clause-none g c =
    let me = c.args.seat.seat.me in
    let most : 2 ^ 63 ≤ lefts me.0 + length (seen_of me.0) = (let p = c.args.seat.lefts in let q = c.args.seat.counted in let r = c.saturating_add.ensures in let t = c.if-saturating_add.true in grind (arith, p, q, r, t)) in
    let e = closes g.O.Object.acts c.args.self.table.shared.key.value c.args.seat.seat.id me.0 _ (slots_items c.close_with-closed.result.slots) (idle_view me c.args.seat.idle) most c.close_with-closed.ensures.values.2 in
    if_none _ c.take-object.result e.0 (some-injective _ _ (sym c.take-object.ensures.value ∙ e.1))
