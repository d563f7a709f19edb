use Rattle.std.proofs.Common.{get_or, sym, ap, ◌∙◌}
use Rattle.of10_model.specs.Inclusion.{includes_of}
use Rattle.flowspace.specs.declared.rules.Rule.{Rule}
use Rattle.stats_filter.proofs.Own.{StandsAt, found_at, none_more, none_left}
use Rattle.stats_filter.proofs.keeping.lies_within.Goals as goal

pub returns-then-includes : goal.returns-then-includes
returns-then-includes c =
    let rules = c.args.policy.now.rules in
    let rule = c.index-rules-from.result in
    let at : StandsAt rules c.args.slot c.write_places-place-items.result.now c.loop-place.place-index rule = record {
      place = c.from.result;
      at_places = c.write_places-place-items.ensures.value;
      within = c.loop-place-test.true;
      here = c.from.ensures;
      is = c.index-rules-from.is ∙ ap (λ rs. get_or rs c.from.result rule) c.rules-rules.ensures.value;
    } in
    let tested = ap (λ (r : Rule). includes_of r.pattern c.args.m.now) c.index-rules-from.is ∙ sym c.includes.ensures.value in
    sym (found_at rules c.args.slot c.write_places-place-items.result.now c.loop-place.place-index rule c.args.m.now at (tested ∙ c.if-includes.true))

pub loop-place-preserved : goal.loop-place-preserved
loop-place-preserved c =
    let rules = c.args.policy.now.rules in
    let rule = c.index-rules-from.result in
    let at : StandsAt rules c.args.slot c.write_places-place-items.result.now c.loop-place.place-index rule = record {
      place = c.from.result;
      at_places = c.write_places-place-items.ensures.value;
      within = c.loop-place-test.true;
      here = c.from.ensures;
      is = c.index-rules-from.is ∙ ap (λ rs. get_or rs c.from.result rule) c.rules-rules.ensures.value;
    } in
    let tested = ap (λ (r : Rule). includes_of r.pattern c.args.m.now) c.index-rules-from.is ∙ sym c.includes.ensures.value in
    none_more rules c.args.slot c.write_places-place-items.result.now c.loop-place.place-index rule c.args.m.now at (tested ∙ c.if-includes.false) c.loop-place.invariant

pub returns : goal.returns
returns c = sym (none_left c.args.policy.now.rules c.args.slot c.write_places-place-items.result.now c.loop-place.place-index c.args.m.now c.write_places-place-items.ensures.value c.loop-place-test.false c.loop-place.invariant)
