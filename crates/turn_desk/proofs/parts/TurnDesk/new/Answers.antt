use Rattle.std.proofs.Common.{◌≡◌, [], ◌∷◌, ◌++◌, ap, sym, subst, ◌∙◌}
use Rattle.std.specs.declared.option.Option.TheVariants.{Some}
use Rattle.atomic_table.specs.Table.{opening}
use Rattle.turn_desk.specs.Rule.{IsRuled, newcomer}
use Rattle.turn_desk.proofs.Ends.{begins}
use Rattle.turn_desk.proofs.parts.TurnDesk.new.Goals as goal

pub new-requires : goal.new-requires
new-requires g c =
    let first = c.of-about.result.value in
    let items : c.push.new.self.items ≡ Some first ∷ [] = c.in_ok-push.ensures.items ∙ (ap (λ l. l ++ (Some c.args.object ∷ [])) c.new-slots.ensures.items ∙ ap (λ o. Some o ∷ []) (sym c.of-about.ensures)) in
    subst (λ xs. IsRuled g.O.Object.acts first (opening (0 ∷ 0 ∷ []) xs (newcomer first))) (sym items) (begins g.O.Object.acts first)
