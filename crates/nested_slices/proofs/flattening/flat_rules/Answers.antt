use Rattle.std.proofs.Common.{◌≡◌, length, IfOk, ap, subst, ◌∙◌, arith}
use Rattle.nested_slices.specs.Space.{Fits}
use Rattle.nested_slices.proofs.Made.{division_fits, divided_length, is_division, all_known, made_flat, list_of}
use Rattle.nested_slices.proofs.flattening.flat_rules.Goals as goal

pub divided-requires : goal.divided-requires
divided-requires c =
    let o = c.args.outer.now in
    let i = c.args.inner.now in
    record {
      fits = subst Fits (is_division o c.args.slot i _ _ c.slice_count.ensures (c.deref.ensures.value ∙ c.in_ok-inner_rules.ensures)) (division_fits o c.args.slot i c.requires.given c.requires.slices);
      known = all_known o c.args.slot i _ _ c.slice_count.ensures (c.deref-2.ensures.value ∙ c.in_ok-outer_rules.ensures) c.requires.given;
    }

pub by_place-requires : goal.by_place-requires
by_place-requires c =
    let o = c.args.outer.now in
    let i = c.args.inner.now in
    let made = list_of o c.args.slot i _ _ _ _ c.slice_count.ensures (c.deref.ensures.value ∙ c.in_ok-inner_rules.ensures) (c.deref-2.ensures.value ∙ c.in_ok-outer_rules.ensures) (c.deref-3.ensures.value ∙ c.in_ok-parts.ensures) in
    let same = ap length made in
    let long = divided_length o c.args.slot i in
    let few = c.requires.rules in
    omega arith

pub returns : goal.returns
returns c =
    let o = c.args.outer.now in
    let i = c.args.inner.now in
    let made = list_of o c.args.slot i _ _ _ _ c.slice_count.ensures (c.deref.ensures.value ∙ c.in_ok-inner_rules.ensures) (c.deref-2.ensures.value ∙ c.in_ok-outer_rules.ensures) (c.deref-3.ensures.value ∙ c.in_ok-parts.ensures) in
    subst (λ rs. IfOk c.by_place.result (λ v. v.items ≡ rs)) (made_flat o c.args.slot i _ made) c.by_place.ensures
