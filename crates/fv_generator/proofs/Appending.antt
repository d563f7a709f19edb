-- Rounds that are appended one after another.
use Rattle.std.proofs.Common.{ℕ, suc, ◌≡◌, ◌+◌, ◌-◌, ◌<◌, ◌≤◌, List, ◌++◌, ◌∙◌, arith}
use Rattle.std.proofs.lemmas.List.{append_assoc, append-nil}
use Rattle.std.specs.List.{flat_map}
use Rattle.recording.specs.Recordings.{record_bytes}
use Rattle.fv_generator.specs.Made.{Appends, drawn_round, rounds}

-- one round and then the others
next_round : (left number state : ℕ) (old : List ℕ) → (old ++ record_bytes (drawn_round number state).0) ++ flat_map record_bytes (rounds left (number + 1) (drawn_round number state).1) ≡ old ++ flat_map record_bytes (rounds (suc left) number state)
unfolding rounds
next_round left number state old =
    append_assoc old (record_bytes (drawn_round number state).0) (flat_map record_bytes (rounds left (number + 1) (drawn_round number state).1))

-- the first of the rounds that are left is appended
pub appended : (count number before after : ℕ) (whole old new : List ℕ) → number < count
    → old ++ flat_map record_bytes (rounds (count - number) number before) ≡ whole → Appends (drawn_round number) before after old new
    → new ++ flat_map record_bytes (rounds (count - (number + 1)) (number + 1) after) ≡ whole
appended count number before after whole old new less so_far adds =
    let left : count - number ≡ suc (count - (number + 1)) = omega (arith, less) in
    rw (adds.0, adds.1) (next_round (count - (number + 1)) number before old ∙ rw (← left) so_far)

-- no round is left
pub all_appended : (count number state : ℕ) (whole out : List ℕ) → count ≤ number
    → out ++ flat_map record_bytes (rounds (count - number) number state) ≡ whole → out ≡ whole
unfolding rounds
all_appended count number state whole out enough so_far =
    let none : count - number ≡ 0 = omega (arith, enough) in
    let ended : out ≡ whole = rw (none, rounds, append-nil) at so_far in ended
