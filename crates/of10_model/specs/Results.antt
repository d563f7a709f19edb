-- Readings, one after the other: what a decoder of any crate is built from.
use Rattle.std.specs.Prelude.{◌≡◌, Result, Ok, Err}

-- the first fault ends a reading
infixl 10 ◌>>=◌
abbrev pub ◌>>=◌ : {A B E : Type 0} → Result A E → (A → Result B E) → Result B E
(Ok x) >>= f = f x
(Err fault) >>= f = Err fault

-- a call answers what a reading gives, its value seen by view, or fails as it may where the reading is this
abbrev pub Answers : {X Y E F : Type 0} → (E → Result Y F → Type 0) → (X → Y) → Result X E → Result Y F → Type 0
Answers Fails view (Ok x) read = read ≡ Ok (view x)
Answers Fails view (Err fault) read = Fails fault read
