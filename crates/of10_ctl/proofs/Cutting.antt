-- How a stream is cut into frames, and what comes behind does not change the frames in front.
use Rattle.std.proofs.Common.{◌≡◌, ℕ, zero, suc, ◌+◌, ◌-◌, ◌<◌, ◌≤◌, cond, ltb, List, [], ◌∷◌, ◌++◌, length, take, drop, refl, ap, ◌∙◌, inl, inr, arith}
use Rattle.std.proofs.lemmas.Bool.{lt-ltb, le-ltb, ltb-false, cases_lt}
use Rattle.std.proofs.lemmas.List.{length-drop, length-append, take-append-le, drop-append-le, drop-take}
use Rattle.byteorder.specs.Endian.{big_from}
use Rattle.byteorder.specs.Numbers.{big_from-append, big_from-take}
use Rattle.of10_model.proofs.Results.{unless, either_none}
use Rattle.of10_ctl.specs.Heads.{length_field}
use Rattle.of10_ctl.specs.Frames.{is_bad, told_size}
use Rattle.of10_ctl.specs.Streams.{frames_at, frames_of}

-- the count doesn't matter once it reaches the number of bytes
pub same_count : (n m : ℕ) (bytes : List ℕ) → length bytes ≤ n → length bytes ≤ m → frames_at n bytes ≡ frames_at m bytes
unfolding frames_at
same_count zero zero bytes a b = refl
same_count zero (suc m) bytes a b = rw (lt-ltb (length bytes) 8 (omega arith)) refl
same_count (suc n) zero bytes a b = rw (lt-ltb (length bytes) 8 (omega arith)) refl
same_count (suc n) (suc m) bytes a b =
    let size = length_field bytes in
    let cut : List (List ℕ) → List (List ℕ) = λ others. cond (ltb (length bytes) size) [] (take size bytes ∷ others) in
    unless (ltb (length bytes) 8) [] (cond (is_bad bytes) (take 8 bytes ∷ []) (cut (frames_at n (drop size bytes)))) (cond (is_bad bytes) (take 8 bytes ∷ []) (cut (frames_at m (drop size bytes)))) (λ header.
    unless (is_bad bytes) (take 8 bytes ∷ []) (cut (frames_at n (drop size bytes))) (cut (frames_at m (drop size bytes))) (λ good.
    let some = ltb-false (length bytes) 8 header in
    let large = ltb-false size 8 good in
    let shorter = length-drop size bytes in
    ap cut (same_count n m (drop size bytes) (omega arith) (omega arith))))

-- the frames of a stream by those behind the first
pub frames_cut : (bytes : List ℕ) → frames_of bytes ≡
    cond (ltb (length bytes) 8) [] (cond (is_bad bytes) (take 8 bytes ∷ []) (cond (ltb (length bytes) (length_field bytes)) [] (take (length_field bytes) bytes ∷ frames_of (drop (length_field bytes) bytes))))
unfolding frames_at frames_of
frames_cut bytes =
    let size = length_field bytes in
    let shorter = length-drop size bytes in
    same_count (length bytes) (suc (length bytes)) bytes (omega arith) (omega arith)
    ∙ ap (λ (others : List (List ℕ)). cond (ltb (length bytes) 8) [] (cond (is_bad bytes) (take 8 bytes ∷ []) (cond (ltb (length bytes) size) [] (take size bytes ∷ others))))
    (same_count (length bytes) (length (drop size bytes)) (drop size bytes) (omega arith) (omega arith))

-- fewer bytes than a header hold no frame
pub frames-short : (bytes : List ℕ) → length bytes < 8 → frames_of bytes ≡ []
frames-short bytes short = frames_cut bytes ∙ rw (lt-ltb (length bytes) 8 short) refl

-- a bad length ends the stream behind its header
pub frames-bad : (bytes : List ℕ) → 8 ≤ length bytes → length_field bytes < 8 → frames_of bytes ≡ take 8 bytes ∷ []
frames-bad bytes header bad = frames_cut bytes ∙ rw (le-ltb (length bytes) 8 header, lt-ltb (length_field bytes) 8 bad) refl

-- fewer bytes than the length field says hold no frame
pub frames-cut_off : (bytes : List ℕ) → 8 ≤ length_field bytes → length bytes < length_field bytes → frames_of bytes ≡ []
frames-cut_off bytes good few =
    frames_cut bytes ∙ rw (le-ltb (length_field bytes) 8 good, lt-ltb (length bytes) (length_field bytes) few) (either_none (ltb (length bytes) 8) [] refl)

-- a whole frame, and the frames of the rest
pub frames-whole : (bytes : List ℕ) → 8 ≤ length_field bytes → length_field bytes ≤ length bytes → frames_of bytes ≡ take (length_field bytes) bytes ∷ frames_of (drop (length_field bytes) bytes)
frames-whole bytes good whole = frames_cut bytes ∙ rw (le-ltb (length bytes) 8 (omega arith), le-ltb (length_field bytes) 8 good, le-ltb (length bytes) (length_field bytes) whole) refl

-- what comes behind does not change the length field
length_field-append : (bytes later : List ℕ) → 8 ≤ length bytes → length_field (bytes ++ later) ≡ length_field bytes
length_field-append bytes later header =
    let shorter = length-drop 2 bytes in
    ap (big_from 0 2) (drop-append-le 2 bytes later (omega arith)) ∙ big_from-append 2 (drop 2 bytes) later (omega arith)

-- the first eight bytes have the length field
pub length_field-take : (n : ℕ) (bytes : List ℕ) → 8 ≤ n → length_field (take n bytes) ≡ length_field bytes
length_field-take n bytes header =
    let whole : n ≡ 2 + (n - 2) = omega arith in
    ap (λ (m : ℕ). length_field (take m bytes)) whole ∙ ap (big_from 0 2) (drop-take 2 (n - 2) bytes) ∙ big_from-take 0 2 (n - 2) (drop 2 bytes) (omega arith)

-- a bad length ends the stream, whatever comes behind
pub first-bad : (bytes later : List ℕ) → 8 ≤ length bytes → length_field bytes < 8
    → frames_of (bytes ++ later) ≡ take 8 bytes ∷ cond (is_bad (take 8 bytes)) [] (frames_of (drop 8 bytes ++ later))
first-bad bytes later header bad =
    let long = length-append bytes later in
    let same = length_field-append bytes later header in
    frames-bad (bytes ++ later) (omega arith) (omega arith) ∙ ap (λ (f : List ℕ). f ∷ []) (take-append-le 8 bytes later header)
    ∙ rw (length_field-take 8 bytes (omega arith), lt-ltb (length_field bytes) 8 bad) refl

-- a whole frame stands in front, whatever comes behind
pub first-whole : (bytes later : List ℕ) → 8 ≤ length_field bytes → length_field bytes ≤ length bytes
    → frames_of (bytes ++ later) ≡ take (length_field bytes) bytes ∷ cond (is_bad (take (length_field bytes) bytes)) [] (frames_of (drop (length_field bytes) bytes ++ later))
first-whole bytes later good whole =
    let size = length_field bytes in
    let long = length-append bytes later in
    let same : length_field (bytes ++ later) ≡ size = length_field-append bytes later (omega arith) in
    frames-whole (bytes ++ later) (omega arith) (omega arith)
    ∙ ap (λ (n : ℕ). take n (bytes ++ later) ∷ frames_of (drop n (bytes ++ later))) same
    ∙ rw (take-append-le size bytes later whole, drop-append-le size bytes later whole, length_field-take size bytes good, le-ltb size 8 good) refl

-- ---- by the size that the first frame has

pub told-cut_off : (bytes : List ℕ) → 8 ≤ length bytes → length bytes < told_size bytes → frames_of bytes ≡ []
told-cut_off bytes header few =
    elim (cases_lt (length_field bytes) 8) [
      | inl bad ↦ absurd (let less : length bytes < 8 = rw (lt-ltb (length_field bytes) 8 bad) at few in omega (arith, header, less))
      | inr good ↦ frames-cut_off bytes good (rw (le-ltb (length_field bytes) 8 good) at few)
    ]

pub told-first : (bytes later : List ℕ) (size : ℕ) → told_size bytes ≡ size → 8 ≤ length bytes → size ≤ length bytes
    → frames_of (bytes ++ later) ≡ take size bytes ∷ cond (is_bad (take size bytes)) [] (frames_of (drop size bytes ++ later))
told-first bytes later size told header whole =
    elim (cases_lt (length_field bytes) 8) [
      | inl bad ↦
          let is : 8 ≡ size = rw (lt-ltb (length_field bytes) 8 bad) at told in
          rw (← is) (first-bad bytes later header bad)
      | inr good ↦
          let is : length_field bytes ≡ size = rw (le-ltb (length_field bytes) 8 good) at told in
          rw (← is) (first-whole bytes later good (rw (← is) at whole))
    ]
