use Rattle.std.proofs.Common.{◌≡◌, ◌≤◌, ◌*◌, take}
use Rattle.std.specs.List.{sum_by}
use Rattle.nested_slices.proofs.shares.shares_of.Given as goal

abbrev pub invariant-loop-slice : goal.invariant-loop-slice
invariant-loop-slice l = record {
  rates : l.rate ≡ sum_by (λ s. s.rate) (take l.slice-index l.slices);
  bursts : l.burst ≡ sum_by (λ s. s.burst) (take l.slice-index l.slices);
  quotas : l.quota ≡ sum_by (λ s. s.quota) (take l.slice-index l.slices);
  few_rates : l.rate ≤ 4294967296 * l.slice-index;
  few_bursts : l.burst ≤ 4294967296 * l.slice-index;
  few_quotas : l.quota ≤ 4294967296 * l.slice-index;
}
