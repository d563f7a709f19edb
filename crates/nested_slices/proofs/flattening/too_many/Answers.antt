use Rattle.std.proofs.Common.{◌≡◌, length, Err, sym, ap, ◌∙◌, arith}
use Rattle.flowspace.specs.declared.fault.What.TheVariants.{Rules}
use Rattle.flowspace.specs.declared.fault.PolicyFault.TheVariants.{TooMany}
use Rattle.nested_slices.specs.Flat.{flat}
use Rattle.nested_slices.specs.Counting.{flat_count}
use Rattle.nested_slices.proofs.Made.{counted_as_filed, flat_long}
use Rattle.nested_slices.proofs.Flattened.{too_many_slices, too_many_rules}
use Rattle.nested_slices.proofs.flattening.too_many.Goals as goal

pub returns-then-slices-gt-SLICES-clause-told : goal.returns-then-slices-gt-SLICES-clause-told
returns-then-slices-gt-SLICES-clause-told c =
    let o = c.args.outer.now in
    let i = c.args.inner.now in
    let f = flat o c.args.slot i in
    let long = flat_long o c.args.slot i c.requires in
    let same = ap length c.slices.ensures.value in
    let same_inner = ap length c.slices-2.ensures.value in
    let told = too_many_slices f.slices f.rules (omega arith) in
    cc

pub returns-then-rules-clause-told : goal.returns-then-rules-clause-told
returns-then-rules-clause-told c =
    let o = c.args.outer.now in
    let i = c.args.inner.now in
    let s = c.args.slot in
    let f = flat o s i in
    let long = flat_long o s i c.requires in
    let same = ap length c.slices.ensures.value in
    let same_inner = ap length c.slices-2.ensures.value in
    let count : c.flat_count-rules.result ≡ length f.rules =
    c.flat_count-rules.ensures ∙ ap (flat_count s c.rules-2.result.now) c.rules.ensures.value ∙ ap (λ qs. flat_count s qs o.rules) c.rules-2.ensures.value ∙ counted_as_filed o s i in
    too_many_rules f.slices f.rules (omega arith) (omega arith) ∙ ap (λ n. Err (TooMany Rules n)) (sym count)

pub returns : goal.returns
returns c =
    let o = c.args.outer.now in
    let i = c.args.inner.now in
    let s = c.args.slot in
    let f = flat o s i in
    let long = flat_long o s i c.requires in
    let same = ap length c.slices.ensures.value in
    let same_inner = ap length c.slices-2.ensures.value in
    let count : c.flat_count-rules.result ≡ length f.rules =
    c.flat_count-rules.ensures ∙ ap (flat_count s c.rules-2.result.now) c.rules.ensures.value ∙ ap (λ qs. flat_count s qs o.rules) c.rules-2.ensures.value ∙ counted_as_filed o s i in
    record { told = tt; few = tt; slices = omega arith; rules = omega arith }
