-- The frames of a stream are frames.
use Rattle.std.proofs.Common.{◌≡◌, ℕ, zero, suc, ◌^◌, ◌<◌, ◌≤◌, Bool, true, false, cond, ltb, List, [], length, take, drop, slice_index, refl, arith}
use Rattle.std.specs.List.{All}
use Rattle.std.proofs.lemmas.Bool.{lt-ltb, le-ltb, ltb-false, ltb-true}
use Rattle.std.proofs.lemmas.List.{length-take-le}
use Rattle.std.proofs.lemmas.List.Elements.{All-cons, All-nil}
use Rattle.of10_model.proofs.Ranges.{bytes-drop, number_at-lt}
use Rattle.of10_ctl.specs.Heads.{length_field}
use Rattle.of10_ctl.specs.Frames.{IsFrame, is_bad}
use Rattle.of10_ctl.specs.Streams.{frames_at, frames_of}
use Rattle.of10_ctl.proofs.Cutting.{length_field-take}

bad_whole : (bytes : List ℕ) → 8 ≤ length bytes → length_field bytes < 8 → IsFrame (take 8 bytes)
bad_whole bytes header bad =
    let size = length-take-le 8 bytes header in
    record {
      header = omega arith;
      small = omega arith;
      sized = rw (length_field-take 8 bytes (omega arith), lt-ltb (length_field bytes) 8 bad) size;
    }

good_whole : (bytes : List ℕ) → ((k : ℕ) → slice_index bytes k < 256) → 8 ≤ length_field bytes → length_field bytes ≤ length bytes → IsFrame (take (length_field bytes) bytes)
good_whole bytes range good whole =
    let size = length-take-le (length_field bytes) bytes whole in
    let few : length_field bytes < 256 ^ 2 = number_at-lt bytes 2 2 range in
    record {
      header = omega arith;
      small = omega arith;
      sized = rw (length_field-take (length_field bytes) bytes good, le-ltb (length_field bytes) 8 good) size;
    }

All-unless : (P : List ℕ → Type 0) (test : Bool) (xs ys : List (List ℕ)) → (test ≡ true → All P xs) → (test ≡ false → All P ys) → All P (cond test xs ys)
All-unless P true xs ys a b = a refl
All-unless P false xs ys a b = b refl

frames_at-whole : (n : ℕ) (bytes : List ℕ) → ((k : ℕ) → slice_index bytes k < 256) → All IsFrame (frames_at n bytes)
unfolding frames_at
frames_at-whole zero bytes range = All-nil IsFrame
frames_at-whole (suc n) bytes range =
    let size = length_field bytes in
    All-unless IsFrame (ltb (length bytes) 8) _ _ (λ short. All-nil IsFrame) (λ header.
    All-unless IsFrame (is_bad bytes) _ _ (λ bad. All-cons IsFrame (take 8 bytes) [] (bad_whole bytes (ltb-false _ _ header) (ltb-true _ _ bad)) (All-nil IsFrame)) (λ good.
    All-unless IsFrame (ltb (length bytes) size) _ _ (λ few. All-nil IsFrame) (λ whole.
    All-cons IsFrame (take size bytes) (frames_at n (drop size bytes)) (good_whole bytes range (ltb-false _ _ good) (ltb-false _ _ whole)) (frames_at-whole n (drop size bytes) (bytes-drop bytes size range)))))

pub frames-whole_all : (bytes : List ℕ) → ((k : ℕ) → slice_index bytes k < 256) → All IsFrame (frames_of bytes)
unfolding frames_of
frames-whole_all bytes range = frames_at-whole (length bytes) bytes range
