-- The rate of a slice's messages: which questions are accepted. All of this is this proxy's own rule.
-- Timestamps are milliseconds, rates are questions a second. Lists of timestamps have the newest first.
use Rattle.std.specs.Prelude.{ℕ, ◌≡◌, ◌+◌, ◌-◌, ◌*◌, ◌≤◌, ◌↔◌, ◌&&◌, max, nat_le, Bool, true, IsTrue, if◌then◌else◌, List, [], ◌∷◌, ◌++◌, length}

-- the greatest timestamp asked so far
abbrev pub latest : List ℕ → ℕ
latest [] = 0
latest (moment ∷ earlier) = max moment (latest earlier)

-- a question at t keeps the rate: for every accepted timestamp a, the questions accepted from that one on and this one are, in thousandths, no more than the burst and the rate times the time since a
abbrev pub Conforms : (rate burst : ℕ) → List ℕ → ℕ → Type 0
Conforms rate burst moments t =
    (later earlier : List ℕ) (a : ℕ) → moments ≡ later ++ (a ∷ earlier)
    → 1000 * (length (a ∷ later) + 1) ≤ 1000 * burst + rate * (t - a)

-- beside each accepted timestamp there is room at t for so many thousandths of a question, and for what was accepted since
unfoldable pub has_room : (rate burst t : ℕ) → ℕ → List ℕ → Bool
has_room rate burst t needed [] = true
has_room rate burst t needed (a ∷ earlier) =
    nat_le (needed + 1000) (1000 * burst + rate * (t - a)) && has_room rate burst t (needed + 1000) earlier

-- `Conforms` as a test: there is room for one question
unfoldable pub is_conforming : (rate burst : ℕ) → List ℕ → ℕ → Bool
is_conforming rate burst moments t = has_room rate burst t 1000 moments

-- the timestamps of the accepted questions: each counts with the greatest timestamp asked up to it
unfoldable pub accepted : (rate burst : ℕ) → List ℕ → List ℕ
accepted rate burst [] = []
accepted rate burst (moment ∷ earlier) =
    if is_conforming rate burst (accepted rate burst earlier) (latest (moment ∷ earlier)) then
    latest (moment ∷ earlier) ∷ accepted rate burst earlier
    else accepted rate burst earlier

-- a question after these is accepted
unfoldable pub is_accepted : (rate burst : ℕ) → List ℕ → ℕ → Bool
is_accepted rate burst questions moment =
    is_conforming rate burst (accepted rate burst questions) (latest (moment ∷ questions))

-- what a bucket keeps: the greatest timestamp asked so far, and the thousandths of a question for which there was room at it
pub record Bucket : Type 0 where
  pub rate : ℕ
  pub burst : ℕ
  pub moment : ℕ
  pub level : ℕ

-- the bucket was asked these questions: its timestamp is the greatest of them, and its level the most for which there is room then, up to the burst
pub record BucketStands (questions : List ℕ) (bucket : Bucket) : Type 0 where
  pub some_burst : 1 ≤ bucket.burst
  pub moment : bucket.moment ≡ latest questions
  pub level : (needed : ℕ) → (needed ≤ bucket.level) ↔ ((needed ≤ 1000 * bucket.burst) × IsTrue (has_room bucket.rate bucket.burst (latest questions) needed (accepted bucket.rate bucket.burst questions)))
