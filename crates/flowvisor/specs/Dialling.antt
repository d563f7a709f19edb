-- How long a dialler over a network waits, and how often it tries. All of this is the program's own rule.
use Rattle.std.specs.Prelude.{ℕ, ◌*◌, ◌-◌, ◌^◌, ◌==◌, Option, None, Some, min, nat_lt, if◌then◌else◌}

-- the milliseconds before the dial behind a link, where so many links in a row ended soon: they double from a second, up to ten
abbrev pub wait_behind : ℕ → ℕ
wait_behind short = if short == 0 then 100 else if nat_lt short 5 then 1000 * 2 ^ (short - 1) else 10000

-- the milliseconds before a first attempt: none, but behind a link
abbrev pub wait_at_first : Option ℕ → ℕ
wait_at_first None = 0
wait_at_first (Some short) = wait_behind short

-- the milliseconds before an attempt, where so many before it failed in a row: as many seconds, ten at most
abbrev pub wait_before : ℕ → Option ℕ → ℕ
wait_before failed links = if failed == 0 then wait_at_first links else 1000 * min failed 10

-- how often an attempt tries, where so many before it failed in a row
abbrev pub tries_within : ℕ → ℕ
tries_within failed = if nat_lt failed 100 then 1 else 60
