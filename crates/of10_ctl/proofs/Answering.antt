-- What each answer of a framer says of the frames of all bytes fed.
use Rattle.std.proofs.Common.{◌≡◌, ℕ, Bool, true, false, cond, List, [], ◌∷◌, ◌++◌, length, ◌↔◌, refl, sym, ap, ◌∙◌, append_assoc, arith}
use Rattle.std.proofs.lemmas.List.{append-nil, length-append, append_cancel_left}
use Rattle.std.proofs.Math.Seq.{drop-append_seam}
use Rattle.of10_ctl.specs.declared.framer.Next.{Next}
use Rattle.of10_ctl.specs.declared.framer.Next.TheVariants.{Frame, NeedMore, Ended}
use Rattle.of10_ctl.specs.Streams.{frames_of, has_bad, AreFirst, next_frame, next_answer, Stream, Stands}
use Rattle.of10_ctl.proofs.Standing.{frames_fed}

-- the frames that were given come first
pub given_first : (s : Stream) (fed : List ℕ) (given : List (List ℕ)) → Stands s fed given → AreFirst given (frames_of fed)
given_first s fed given stands = (cond s.ended [] (frames_of s.left), sym (frames_fed s fed given stands))

-- the answer where so many frames are behind those given
abbrev answer_by : Bool → List (List ℕ) → Next
answer_by bad more = cond bad Ended (next_frame more)

by_more : (s : Stream) (fed : List ℕ) (given : List (List ℕ)) → Stands s fed given → next_answer fed given ≡ answer_by s.ended (cond s.ended [] (frames_of s.left))
by_more s fed given stands =
    rw (sym stands.ended, frames_fed s fed given stands, drop-append_seam given (cond s.ended [] (frames_of s.left))) refl

too_many : (given others : List (List ℕ)) (frame : List ℕ) → ((given ++ frame ∷ []) ++ others) ≡ (given ++ []) → ⊥
too_many given others frame same =
    let a = length-append (given ++ frame ∷ []) others in
    let b = length-append given (frame ∷ []) in
    let d = length-append given [] in
    let e = ap length same in
    omega arith

frame_first : (bad : Bool) (more : List (List ℕ)) (given : List (List ℕ)) (frame : List ℕ)
    → (answer_by bad (cond bad [] more) ≡ Frame frame) ↔ AreFirst (given ++ frame ∷ []) (given ++ cond bad [] more)
frame_first true more given frame = (λ e. absurd cc, λ first. absurd (too_many given first.0 frame first.1))
frame_first false [] given frame = (λ e. absurd cc, λ first. absurd (too_many given first.0 frame first.1))
frame_first false (next ∷ others) given frame = (
  λ e. let is : next ≡ frame = cc in (others, append_assoc given (frame ∷ []) others ∙ rw is refl),
  λ first. let same : (frame ∷ first.0) ≡ (next ∷ others) = append_cancel_left given (frame ∷ first.0) (next ∷ others) (sym (append_assoc given (frame ∷ []) first.0) ∙ first.1) in
      let is : next ≡ frame = cc in ap Frame is,
)

-- a frame is answered exactly where it is the next one
pub frame_exact : (s : Stream) (fed : List ℕ) (given : List (List ℕ)) (frame : List ℕ) → Stands s fed given
    → (next_answer fed given ≡ Frame frame) ↔ AreFirst (given ++ frame ∷ []) (frames_of fed)
frame_exact s fed given frame stands =
    rw (by_more s fed given stands, frames_fed s fed given stands) (frame_first s.ended (frames_of s.left) given frame)

none_left : (bad : Bool) (more : List (List ℕ)) (given : List (List ℕ)) → (answer_by bad (cond bad [] more) ≡ NeedMore) ↔ ((given ≡ given ++ cond bad [] more) × (bad ≡ false))
none_left true more given = (λ e. absurd cc, λ e. absurd (let f = e.1 in cc))
none_left false [] given = (λ e. (sym (append-nil given), refl), λ e. refl)
none_left false (next ∷ others) given =
    (λ e. absurd cc, λ e. let b = length-append given (next ∷ others) in let f = ap length e.0 in absurd (omega arith))

-- more is needed exactly where all frames were given and none of them has a bad length
pub need_more_exact : (s : Stream) (fed : List ℕ) (given : List (List ℕ)) → Stands s fed given
    → (next_answer fed given ≡ NeedMore) ↔ ((given ≡ frames_of fed) × (has_bad given ≡ false))
need_more_exact s fed given stands =
    rw (by_more s fed given stands, frames_fed s fed given stands, sym stands.ended) (none_left s.ended (frames_of s.left) given)

ended_bad : (bad : Bool) (more : List (List ℕ)) → (answer_by bad (cond bad [] more) ≡ Ended) ↔ (bad ≡ true)
ended_bad true more = (λ e. refl, λ e. refl)
ended_bad false [] = (λ e. absurd cc, λ e. absurd cc)
ended_bad false (next ∷ others) = (λ e. absurd cc, λ e. absurd cc)

-- the stream has ended exactly where a frame of a bad length was given
pub ended_exact : (s : Stream) (fed : List ℕ) (given : List (List ℕ)) → Stands s fed given → (next_answer fed given ≡ Ended) ↔ (has_bad given ≡ true)
ended_exact s fed given stands = rw (by_more s fed given stands, sym stands.ended) (ended_bad s.ended (frames_of s.left))
