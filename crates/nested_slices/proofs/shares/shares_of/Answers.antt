use Rattle.std.proofs.Common.{◌≡◌, ℕ, ◌+◌, ◌<◌, List, length, get_or, take, ap, ◌∙◌, arith}
use Rattle.std.specs.List.{sum_by}
use Rattle.std.proofs.lemmas.List.Sums.{fold_more}
use Rattle.flowspace.specs.declared.slices.Slice.{Slice}
use Rattle.nested_slices.proofs.shares.shares_of.Goals as goal

-- a sum with one slice more
sum_on : (f : Slice → ℕ) (xs : List Slice) (i : ℕ) (x : Slice) (total own : ℕ) → i < length xs → x ≡ get_or xs i x → total ≡ sum_by f (take i xs) → own ≡ f x → total + own ≡ sum_by f (take (i + 1) xs)
sum_on f xs i x total own lt at so_far is =
    let more : sum_by f (take (i + 1) xs) ≡ sum_by f (take i xs) + f (get_or xs i x) = fold_more (λ a y. a + f y) 0 xs i x lt in
    let here : own ≡ f (get_or xs i x) = is ∙ ap f at in
    omega arith

pub loop-slice-preserved : goal.loop-slice-preserved
loop-slice-preserved c =
    let xs = c.args.slices.now in
    let i = c.loop-slice.slice-index in
    let slice = c.slice-item.result in
    let lt : i < length xs = omega arith in
    let before = c.loop-slice.invariant in
    record {
      rates = sum_on (λ s. s.rate) xs i slice c.loop-slice.rate c.rate_of-rate.result lt c.slice-item.is before.rates c.rate_of-rate.ensures.value;
      bursts = sum_on (λ s. s.burst) xs i slice c.loop-slice.burst c.burst_of-burst.result lt c.slice-item.is before.bursts c.burst_of-burst.ensures.value;
      quotas = sum_on (λ s. s.quota) xs i slice c.loop-slice.quota c.quota_of-quota.result lt c.slice-item.is before.quotas c.quota_of-quota.ensures.value;
      few_rates = omega arith;
      few_bursts = omega arith;
      few_quotas = omega arith;
    }
