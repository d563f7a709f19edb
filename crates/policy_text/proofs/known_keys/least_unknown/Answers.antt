use Rattle.std.proofs.Common.{◌≡◌, ◌∷◌, ◌∙◌, true, false, refl, sym, ap, arith, string_bytes}
use Rattle.std.proofs.lemmas.Grind.{common_steps}
use Rattle.std.specs.List.Sorted.{IsStrictlySortedBy}
use Rattle.policy_text.specs.Reading.{is_known_key, least_text}
use Rattle.policy_text.proofs.LeastKey.{least_first}
use Rattle.policy_text.proofs.known_keys.least_unknown.Goals as goal

pub loop-key-init : goal.loop-key-init
loop-key-init c =
    let same = c.into_iter-key-iterator.ensures.into_iter_gives ∙ c.iter-key-items.ensures.rest in
    (rw same c.iter-key-items.ensures.ordered, rw same refl)

pub loop-key-preserved : goal.loop-key-preserved
unfolding IsStrictlySortedBy
loop-key-preserved c =
    let left : c.loop-key.key-iterator ≡ (c.in-Some.key.now, c.in-Some._value.now) ∷ c.next.new.self = grind (arith, common_steps) in
    let sorted = rw left at c.loop-key.invariant.0 in
    let known : is_known_key c.args.keys (string_bytes c.in-Some.key.now) ≡ true = grind (arith, common_steps) in
    (sorted.1, rw known at (rw left at c.loop-key.invariant.1))

pub returns-then-not-is_known : goal.returns-then-not-is_known
unfolding IsStrictlySortedBy
returns-then-not-is_known c =
    let left : c.loop-key.key-iterator ≡ (c.in-Some.key.now, c.in-Some._value.now) ∷ c.next.new.self = grind (arith, common_steps) in
    let sorted = rw left at c.loop-key.invariant.0 in
    let unknown : is_known_key c.args.keys (string_bytes c.in-Some.key.now) ≡ false = grind (arith, common_steps) in
    let all = rw unknown at (rw left at c.loop-key.invariant.1) in
    rw c.as_str-then-not-is_known.ensures.value (sym (ap least_text (sym all) ∙ least_first c.args.keys c.in-Some.key.now c.next.new.self sorted.0))

pub returns : goal.returns
returns c =
    let none = c.in-None.ensures.steps.0 in
    ap least_text (rw none at c.loop-key.invariant.1)
