use Rattle.std.proofs.Common.{◌≡◌, false}
use Rattle.stats_filter.proofs.Own.{lies_within_first}
use Rattle.stats_filter.proofs.keeping.lies_within.Given as goal

abbrev pub invariant-loop-place : goal.invariant-loop-place
invariant-loop-place l = lies_within_first l.policy.rules l.slot l.m l.place-index ≡ false
