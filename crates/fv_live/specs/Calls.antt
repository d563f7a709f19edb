-- Which calls on an object in memory fail. This proxy's own rules.
use Rattle.std.specs.Prelude.{ℕ, List, Bool, ◌≡◌, ◌==◌, ◌+◌, ◌-◌, ◌^◌, if◌then◌else◌, min}
use Rattle.std.specs.List.{list_any}
use Rattle.fv_base.specs.declared.counts.Counts.{Counts}
use Rattle.fv_base.specs.Counts.{count_at, one_more, share_count}
use Rattle.fv_live.specs.declared.calls.FailingCalls.{FailingCalls}

-- a call of this number is to fail
abbrev pub is_listed : List ℕ → ℕ → Bool
is_listed numbers call = list_any (λ number. number == call) numbers

-- the next call is to fail
abbrev pub fails_next : FailingCalls → Bool
fails_next failing = is_listed failing.numbers.items failing.calls

-- after one call more; the number of calls stays at the last value of a u64
abbrev pub one_call_more : FailingCalls → FailingCalls
one_call_more failing = record failing { calls = min (failing.calls + 1) (2 ^ 64 - 1) }

-- the count of a name after one call more failed for another, which may have got a count of its own in it
abbrev pub count_after : Counts → Counts → List ℕ → List ℕ → ℕ
count_after before after name at = if share_count after name at then one_more (count_at before at) else count_at before at

-- no call was made yet, and these are to fail
pub record NoCallYet (failing : FailingCalls) (numbers : List ℕ) : Type 0 where
  pub listed : failing.numbers.items ≡ numbers
  pub calls : failing.calls ≡ 0
