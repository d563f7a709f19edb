-- Drawing numbers one after another, each from the state that the one before left (this proxy's own rule).
use Rattle.std.specs.Prelude.{ℕ, ◌≡◌, ◌+◌, ◌*◌, ◌/◌, ◌%◌, ◌^◌}

-- what is drawn from a state, and the state that is left
abbrev pub Drawing : Type 0 → Type 0
Drawing A = ℕ → A × ℕ

-- the state that is left: a linear congruential step modulo 2^64 (this proxy's own rule)
abbrev pub next_state : ℕ → ℕ
next_state x = (x * 6364136223846793005 + 1442695040888963407) % 2 ^ 64

-- a number below a limit: the state that is left without its low 33 bits, modulo the limit (this proxy's own rule)
abbrev pub draw : ℕ → Drawing ℕ
draw limit x = (next_state x / 2 ^ 33 % limit, next_state x)

-- first one thing is drawn, then what depends on it
infixl 10 ◌>>=◌
abbrev pub ◌>>=◌ : {A B : Type 0} → Drawing A → (A → Drawing B) → Drawing B
(drawing >>= later) x = later (drawing x).0 (drawing x).1

-- nothing is drawn
abbrev pub drawn_none : {A : Type 0} → A → Drawing A
drawn_none value x = (value, x)

-- a value was drawn from a state, and left a state
abbrev pub Drew : {A : Type 0} → Drawing A → ℕ → A → ℕ → Type 0
Drew drawing before value after = (value ≡ (drawing before).0) × (after ≡ (drawing before).1)
