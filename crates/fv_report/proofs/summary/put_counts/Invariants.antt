use Rattle.std.proofs.Common.{◌≡◌, ◌++◌, ℕ, List, drop}
use Rattle.run_words.specs.Summaries.{count_lines}
use Rattle.fv_report.specs.Counting.{AreCounts}
use Rattle.fv_report.proofs.Counting.{counts_from}
use Rattle.fv_report.proofs.summary.put_counts.Given as goal

abbrev pub invariant-loop-slot : goal.invariant-loop-slot
invariant-loop-slot l =
    (messages : ℕ → List (List ℕ)) → AreCounts messages l.counts
    → l.text.items ++ counts_from messages l.slot (drop l.slot l.policy.slices) ≡ l.fn.text.items ++ count_lines messages l.policy.slices
