-- The bytes of a connection before a record, and the frames of a stream, which are the first of those of a longer one.
use Rattle.std.proofs.Common.{◌≡◌, ℕ, zero, suc, ◌<◌, ◌≤◌, inl, inr, not, cond, Bool, true, false, if◌then◌else◌, List, [], ◌∷◌, ◌++◌, length, take, drop, reverse, refl, ap, sym, ◌∙◌, arith, le_refl, append-nil}
use Rattle.std.specs.List.{filter, take_while, flat_map}
use Rattle.std.proofs.Math.Seq.{drop-append_seam}
use Rattle.std.proofs.lemmas.List.{length-drop, reverse-append}
use Rattle.std.proofs.lemmas.List.Sums.{take_while-cons}
use Rattle.std.proofs.lemmas.Grind.{flat_map-append}
use Rattle.std.proofs.lemmas.Bool.{cases_lt, le-ltb}
use Rattle.of10_ctl.specs.Heads.{length_field}
use Rattle.of10_ctl.specs.Frames.{is_bad}
use Rattle.of10_ctl.specs.Streams.{frames_of, AreFirst}
use Rattle.of10_ctl.proofs.Cutting.{frames-short, frames-bad, frames-cut_off, frames-whole, length_field-take, first-bad, first-whole}
use Rattle.recording.specs.Recordings.{Told}
use Rattle.desk_words.specs.Recorded.{is_same_stream, begins_stream, stream_before}
use Rattle.desk_words.specs.Laws.{connection_before, AreCompletedOnce}

-- ---- the bytes before a record

-- the bytes of records, one after another
abbrev bytes_of : List Told → List ℕ
bytes_of records = flat_map (λ (other : Told). other.bytes) records

-- the bytes of a list turned round end with those of its first
bytes_last : (other : Told) (records : List Told) → bytes_of (reverse (other ∷ records)) ≡ bytes_of (reverse records) ++ other.bytes
bytes_last other records =
    ap bytes_of (reverse-append (other ∷ []) records) ∙ flat_map-append (λ (one : Told). one.bytes) (reverse records) (other ∷ [])
    ∙ ap (λ (last : List ℕ). bytes_of (reverse records) ++ last) (append-nil other.bytes)

-- a record more begins the connection, is of it, or neither
one_more : (test : Told → Bool) (other : Told) (records : List Told) (earlier : List ℕ) (begins same : Bool) → test other ≡ same → earlier ≡ bytes_of (reverse (filter test records))
    → (if begins then [] else if same then earlier ++ other.bytes else earlier) ≡ bytes_of (reverse (filter test (cond (not begins) (other ∷ records) [])))
one_more test other records earlier true same is bytes = refl
one_more test other records earlier false true is bytes =
    ap (λ (front : List ℕ). front ++ other.bytes) bytes ∙ sym (bytes_last other (filter test records))
    ∙ ap (λ (own : Bool). bytes_of (reverse (cond own (other ∷ filter test records) (filter test records)))) (sym is)
one_more test other records earlier false false is bytes =
    bytes ∙ ap (λ (own : Bool). bytes_of (reverse (cond own (other ∷ filter test records) (filter test records)))) (sym is)

stream_bytes : (r : Told) (before : List Told) → stream_before r before ≡ bytes_of (connection_before r before)
stream_bytes r [] = refl
stream_bytes r (other ∷ before) =
    let goes_on = λ (one : Told). not (begins_stream r one) in
    one_more (is_same_stream r) other (take_while goes_on before) (stream_before r before) (begins_stream r other) (is_same_stream r other) refl (stream_bytes r before)
    ∙ ap (λ (records : List Told). bytes_of (reverse (filter (is_same_stream r) records))) (sym (take_while-cons goes_on other before))

-- ---- the frames of a longer stream

none_first : (frames all : List (List ℕ)) → frames ≡ [] → AreFirst frames all
none_first frames all none = (all, ap (λ (f : List (List ℕ)). f ++ all) none)

-- the first frame is the same, and the others come first
one_first : (frames all others more : List (List ℕ)) (frame : List ℕ) → frames ≡ frame ∷ others → all ≡ frame ∷ more → AreFirst others more → AreFirst frames all
one_first frames all others more frame a b first = (first.0, ap (λ (f : List (List ℕ)). f ++ first.0) a ∙ ap (λ (f : List (List ℕ)). frame ∷ f) first.1 ∙ sym b)

-- what is read of the front of a whole frame is no bad length
good_front : (bytes : List ℕ) → 8 ≤ length_field bytes → is_bad (take (length_field bytes) bytes) ≡ false
good_front bytes good = rw (length_field-take (length_field bytes) bytes good) (le-ltb (length_field bytes) 8 good)

-- a stream whose first frame is whole, by the frames behind it
whole_first : (bytes later : List ℕ) → 8 ≤ length_field bytes → length_field bytes ≤ length bytes
    → AreFirst (frames_of (drop (length_field bytes) bytes)) (frames_of (drop (length_field bytes) bytes ++ later)) → AreFirst (frames_of bytes) (frames_of (bytes ++ later))
whole_first bytes later good whole rest =
    let size = length_field bytes in
    one_first (frames_of bytes) (frames_of (bytes ++ later)) (frames_of (drop size bytes)) (frames_of (drop size bytes ++ later)) (take size bytes)
    (frames-whole bytes good whole) (first-whole bytes later good whole ∙ rw (good_front bytes good) refl) rest

-- a bad length ends both
bad_first : (bytes later : List ℕ) → 8 ≤ length bytes → length_field bytes < 8 → AreFirst (frames_of bytes) (frames_of (bytes ++ later))
bad_first bytes later header bad =
    one_first (frames_of bytes) (frames_of (bytes ++ later)) [] _ (take 8 bytes) (frames-bad bytes header bad) (first-bad bytes later header bad) (none_first [] _ refl)

pub frames_first : (n : ℕ) (bytes later : List ℕ) → length bytes ≤ n → AreFirst (frames_of bytes) (frames_of (bytes ++ later))
frames_first zero bytes later few = none_first (frames_of bytes) (frames_of (bytes ++ later)) (frames-short bytes (omega arith))
frames_first (suc n) bytes later few = elim (cases_lt (length bytes) 8) [
  | inl short ↦ none_first (frames_of bytes) (frames_of (bytes ++ later)) (frames-short bytes short)
  | inr header ↦ elim (cases_lt (length_field bytes) 8) [
    | inl bad ↦ bad_first bytes later header bad
    | inr good ↦ elim (cases_lt (length bytes) (length_field bytes)) [
      | inl cut ↦ none_first (frames_of bytes) (frames_of (bytes ++ later)) (frames-cut_off bytes good cut)
      | inr whole ↦ (let shorter = length-drop (length_field bytes) bytes in
          whole_first bytes later good whole (frames_first n (drop (length_field bytes) bytes) later (omega arith)))
    ]
  ]
]

-- what is left behind the first frames is the others
pub others_behind : (given all : List (List ℕ)) → AreFirst given all → given ++ drop (length given) all ≡ all
others_behind given all first =
    ap (λ (frames : List (List ℕ)). given ++ drop (length given) frames) (sym first.1)
    ∙ ap (λ (frames : List (List ℕ)). given ++ frames) (drop-append_seam given first.0) ∙ first.1

pub completed_once : (r : Told) (before : List Told) → AreCompletedOnce r before
completed_once r before = record {
  bytes = stream_bytes r before;
  frames = (let s = stream_before r before in others_behind (frames_of s) (frames_of (s ++ r.bytes)) (frames_first (length s) s r.bytes (le_refl _)));
}
