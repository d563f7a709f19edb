use Rattle.std.proofs.Common.{◌-◌, ◌<◌, length, get_or, refl, ap, sym, ◌∙◌, arith}
use Rattle.buffer_map.proofs.Places.{oldest}
use Rattle.buffer_map.proofs.map.is_oldest_past.Goals as goal

pub overflow_sub-result : goal.overflow_sub-result
overflow_sub-result c =
    let q = c.args.packets.now in
    let z = c.in-Some.oldest.now in
    let some : 0 < length q.items = omega (arith, q.ok.0, c.in-Some.ensures.variant.0 refl) in
    omega (arith, (oldest c.args.given q.items z c.requires some (c.in-Some.ensures.lookup ∙ ap (λ k. get_or q.items (k - 1) z) q.ok.0)).0)

pub returns-in-Some : goal.returns-in-Some
returns-in-Some c =
    let q = c.args.packets.now in
    let z = c.in-Some.oldest.now in
    let some : 0 < length q.items = omega (arith, q.ok.0, c.in-Some.ensures.variant.0 refl) in
    sym (oldest c.args.given q.items z c.requires some (c.in-Some.ensures.lookup ∙ ap (λ k. get_or q.items (k - 1) z) q.ok.0)).1
