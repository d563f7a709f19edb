use Rattle.std.proofs.Common.{◌≡◌, IfOk, Some, sym, ap, ◌∙◌, subst, List, ℕ}
use Rattle.std.proofs.lemmas.Bool.{and_parts}
use Rattle.of10_model.specs.Normal.{is_value}
use Rattle.xid_map.specs.Collections.{is_among, collecting}
use Rattle.stats_filter.specs.Asking.{type_sent}
use Rattle.switch_side.specs.declared.change.Change.TheVariants.{Finished}
use Rattle.switch_side.specs.Carrying.{carried, Turn, turning}
use Rattle.switch_side.proofs.Parts.{last_turn}
use Rattle.switch_side.proofs.statistics.followed.Goals as goal

pub returns : goal.returns
returns c called stands =
    let request = c.args.seen.now.request in
    let part = c.args.part.now in
    let collects = sym (c.collects.ensures.value called.collections stands) ∙ c.if-not-collects.false in
    let among = (and_parts (is_value part.kind (type_sent request.asked.kind)) (is_among request.number (collecting called.collections)) collects).1 in
    subst (λ turn. IfOk c.turning-2.result (λ d. carried d ≡ turning turn))
    (ap (λ (messages : List (List ℕ)). let turn : Turn = record { slot = c.args.seen.now.slot; messages = messages; change = Finished request.number } in Some turn) (c.in_ok-messages.ensures called.collections stands among)
    ∙ last_turn c.args.policy.now.rules called c.args.seen.now.slot part c.args.body.now request c.deref.result.now collects c.if-part.false (c.collects.ensures.sent c.if-not-collects.false) (c.deref.ensures.value ∙ c.in_ok-kept.ensures))
    c.turning-2.ensures
