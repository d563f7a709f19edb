use Rattle.std.proofs.Common.{◌≤◌, length, All, ap, sym, subst, inr}
use Rattle.flowspace.specs.Slices.{IsPlainSlice}
use Rattle.flowspace.specs.Rules.{IsPlainRule}
use Rattle.flowspace.specs.Policies.{AreNormal}
use Rattle.flowspace.specs.Loading.{load_of}
use Rattle.nested_slices.specs.Flat.{flat}
use Rattle.nested_slices.specs.Refused.{told_flat, GivesFlat}
use Rattle.nested_slices.proofs.Flattened.{some_flat, divisible, late_few}
use Rattle.nested_slices.proofs.flattening.flat_policy.Goals as goal

pub returns-in-Some-clause-answer : goal.returns-in-Some-clause-answer
returns-in-Some-clause-answer c = inr (ap told_flat c.in-Some.ensures.told)

pub loaded-requires : goal.loaded-requires
loaded-requires c =
    let some = some_flat c.args.outer.now c.args.slot c.args.inner.now c.requires.given c.requires.none_early in
    record {
      some_slice = subst (λ ss. 1 ≤ length ss) (sym c.in-Ok.ensures.slices) some.0;
      plain_slices = subst (All IsPlainSlice) (sym c.in-Ok.ensures.slices) some.1;
      plain_rules = subst (All IsPlainRule) (sym c.in-Ok.ensures.rules) some.2;
    }

pub returns-in-Ok : goal.returns-in-Ok
returns-in-Ok c =
    let o = c.args.outer.now in
    let i = c.args.inner.now in
    let f = flat o c.args.slot i in
    let r = c.loaded.result in
    let of_slices = subst (λ ss. GivesFlat r (told_flat (load_of ss c.in-Ok.parts.rules.items))) c.in-Ok.ensures.slices c.loaded.ensures.answer in
    let answer = subst (λ rs. GivesFlat r (told_flat (load_of f.slices rs))) c.in-Ok.ensures.rules of_slices in
    record {
      answer = answer;
      few = late_few o c.args.slot i r (divisible o c.args.slot i c.requires.given c.requires.none_early) (subst AreNormal c.in-Ok.ensures.rules c.loaded.ensures.normal) answer;
    }
