use Rattle.std.proofs.Common.{rules, not, ◌==◌, arith}
use Rattle.std.proofs.lemmas.Fn.{filter_same}
use Rattle.std.proofs.lemmas.List.Kept.{IsNonDecreasingBy-filter}
use Rattle.buffer_map.proofs.physicals.Physicals.remove_all.Goals as goal

pub invariant_of-self : goal.invariant_of-self
invariant_of-self c =
    let left = filter_same _ (λ other. not (other == c.args.physical)) _ (λ x b f' k. search rules) _ _ c.retain.ensures.filtered in
    (rw left (IsNonDecreasingBy-filter (λ x. x) (λ other. not (other == c.args.physical)) c.self.inside.all.items c.self.invariant.0), omega (arith, c.self.invariant.1, c.retain.ensures.capacity))

pub returns : goal.returns
returns c = rw (← c.self.view_is) (filter_same _ (λ other. not (other == c.args.physical)) _ (λ x b f' k. search rules) _ _ c.retain.ensures.filtered)
