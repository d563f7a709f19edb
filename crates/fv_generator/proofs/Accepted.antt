-- A made recording is one.
use Rattle.std.proofs.Common.{ℕ, zero, suc, ◌≡◌, ◌+◌, ◌*◌, ◌<◌, ◌≤◌, ◌^◌, true, leb, List, [], ◌∷◌, ◌++◌, length, Ok, refl, sym, ap, subst, arith}
use Rattle.std.specs.List.{All, AllByRecursion, flat_map}
use Rattle.std.proofs.lemmas.List.{length-append}
use Rattle.std.proofs.lemmas.Grind.{flat_map-append}
use Rattle.std.proofs.lemmas.Bool.{le-leb}
use Rattle.std.proofs.lemmas.List.Elements.{All-from_recursion}
use Rattle.of10_port.specs.Features.{spell_features, features_front}
use Rattle.recording.specs.declared.item.Item.{Item}
use Rattle.recording.specs.declared.layout.Layout.TheVariants.{Recording}
use Rattle.recording.specs.Recordings.{Told, HasMoment, placed_record, all_told, may_be_told, has_form, fits, is_switch_open, is_slice_open, read_items, magic, record_bytes, head_spelling}
use Rattle.recording.proofs.Told.{told_again, spell_length}
use Rattle.fv_generator.specs.Made.{by_switch, by_slice, features_message, opening, drawn_round, rounds, records_of, recording_of}
use Rattle.fv_generator.proofs.Sizes.{features_size}
use Rattle.fv_generator.proofs.Cases.{of_round}

-- the switch and both slices are up
record AllUp (before : List Item) : Type 0 where
  switch : is_switch_open 0 before ≡ true
  alice : is_slice_open 0 0 before ≡ true
  bob : is_slice_open 0 1 before ≡ true

-- a record may come next, and leaves all up
record MayCome (at : ℕ) (before : List Item) (r : Told) : Type 0 where
  formed : has_form Recording 2 0 (placed_record at r) ≡ true
  fitting : fits before (placed_record at r) ≡ true
  up : AllUp (placed_record at r ∷ before)

short : (message : List ℕ) → length message ≤ 80 → leb (length message) 16777216 ≡ true
short message few = le-leb (length message) 16777216 (omega (arith, few))

switch_may : (number at : ℕ) (before : List Item) (message : List ℕ) → AllUp before → length message ≤ 80 → MayCome at before (by_switch number message)
switch_may number at before message up few = record { formed = short message few; fitting = up.switch; up = record { switch = up.switch; alice = up.alice; bob = up.bob } }

slice_may : (number at : ℕ) (before : List Item) (slot : ℕ) (message : List ℕ) → AllUp before → slot < 2 → length message ≤ 80 → MayCome at before (by_slice number slot message)
slice_may number at before zero message up known few = record { formed = short message few; fitting = up.alice; up = record { switch = up.switch; alice = up.alice; bob = up.bob } }
slice_may number at before (suc zero) message up known few = record { formed = short message few; fitting = up.bob; up = record { switch = up.switch; alice = up.alice; bob = up.bob } }
slice_may number at before (suc (suc slot)) message up known few = absurd (omega (arith, known))

round_may : (number state at : ℕ) (before : List Item) → AllUp before → MayCome at before (drawn_round number state).0
round_may number state at before up =
    of_round (MayCome at before) number (λ message few. switch_may number at before message up few) (λ slot message known few. slice_may number at before slot message up known few) state

rounds_may : (n number state at : ℕ) (before : List Item) → AllUp before → may_be_told 2 before (all_told at (rounds n number state)) ≡ true
unfolding may_be_told all_told rounds
rounds_may zero number state at before up = refl
rounds_may (suc n) number state at before up =
    let may = round_may number state at before up in
    rw (may.formed, may.fitting) (rounds_may n (number + 1) (drawn_round number state).1 _ _ may.up)

records_may : (seed count : ℕ) → may_be_told 2 [] (all_told 8 (records_of seed count)) ≡ true
unfolding may_be_told all_told
records_may seed count = rw (features_size) (rounds_may count 0 seed _ _ (record { switch = refl; alice = refl; bob = refl }))

moment_of_round : (number state : ℕ) → number < 2 ^ 64 → HasMoment (drawn_round number state).0
moment_of_round number state early = of_round HasMoment number (λ message few. early) (λ slot message known few. early) state

moments_of_rounds : (n number state : ℕ) → number + n ≤ 2 ^ 64 → AllByRecursion HasMoment (rounds n number state)
unfolding rounds
moments_of_rounds zero number state early = tt
moments_of_rounds (suc n) number state early =
    (moment_of_round number state (omega (arith, early)), moments_of_rounds n (number + 1) (drawn_round number state).1 (omega (arith, early)))

moments : (seed count : ℕ) → count ≤ 1000000 → All HasMoment (records_of seed count)
moments seed count few =
    All-from_recursion HasMoment (records_of seed count) (omega arith, (omega arith, (omega arith, (omega arith, moments_of_rounds count 0 seed (omega (arith, few))))))

pub recording_is_read : (seed count : ℕ) → count ≤ 1000000 → read_items 2 (recording_of seed count) ≡ Ok (all_told 8 (records_of seed count))
recording_is_read seed count few = told_again 2 (records_of seed count) (moments seed count few) (records_may seed count)

round_size : (number state : ℕ) → length (record_bytes (drawn_round number state).0) ≤ 96
round_size number state =
    of_round (λ r. length (record_bytes r) ≤ 96) number (λ message few. rw (spell_length (by_switch number message)) (omega (arith, few))) (λ slot message known few. rw (spell_length (by_slice number slot message)) (omega (arith, few))) state

rounds_size : (n number state : ℕ) → length (flat_map record_bytes (rounds n number state)) ≤ 96 * n
unfolding rounds
rounds_size zero number state = omega arith
rounds_size (suc n) number state =
    let first = round_size number state in
    let others = rounds_size n (number + 1) (drawn_round number state).1 in
    rw (length-append) (omega (arith, first, others))

opening_size : length (flat_map record_bytes opening) ≡ 288
unfolding head_spelling features_message spell_features features_front
opening_size = refl

begun : (seed count : ℕ) → recording_of seed count ≡ magic ++ (flat_map record_bytes opening ++ flat_map record_bytes (rounds count 0 seed))
begun seed count = ap (λ (told : List ℕ). magic ++ told) (flat_map-append record_bytes opening (rounds count 0 seed))

pub recording_size : (seed count : ℕ) → length (recording_of seed count) ≤ 296 + 96 * count
recording_size seed count =
    let left = rounds_size count 0 seed in
    let told : length (flat_map record_bytes opening ++ flat_map record_bytes (rounds count 0 seed)) ≤ 288 + 96 * count =
    rw (length-append (flat_map record_bytes opening) (flat_map record_bytes (rounds count 0 seed)), opening_size) (omega (arith, left)) in
    subst (λ (file : List ℕ). length file ≤ 296 + 96 * count) (sym (begun seed count)) (omega (arith, told))
