-- What a framer stands for, step by step.
use Rattle.std.proofs.Common.{◌≡◌, ℕ, ◌+◌, ◌≤◌, Bool, true, false, cond, ◌||◌, List, [], ◌∷◌, ◌++◌, length, drop, Result, Ok, Err, OnErr, refl, sym, ap, ◌∙◌, append_assoc, arith}
use Rattle.std.proofs.lemmas.List.{append-nil, length-append, drop-append-le}
use Rattle.std.proofs.lemmas.List.Folds.{list_any-append}
use Rattle.std.proofs.Math.Seq.{drop-append_seam}
use Rattle.of10_ctl.specs.declared.framer.Next.{Next}
use Rattle.of10_ctl.specs.declared.framer.Next.TheVariants.{Frame, NeedMore}
use Rattle.of10_ctl.specs.Frames.{is_bad}
use Rattle.of10_ctl.specs.Streams.{frames_of, has_bad, next_frame, next_answer, Stream, Stands, GivesNext, with_piece, fed_with}

-- the frames of the bytes fed are those given and those of the bytes left
pub frames_fed : (s : Stream) (fed : List ℕ) (given : List (List ℕ)) → Stands s fed given → frames_of fed ≡ given ++ cond s.ended [] (frames_of s.left)
frames_fed s fed given stands =
    ap frames_of (sym (append-nil fed)) ∙ stands.frames []
    ∙ ap (λ (left : List ℕ). given ++ cond s.ended [] (frames_of left)) (append-nil s.left)

-- what comes next while the stream goes on
pub answer_unended : (s : Stream) (fed : List ℕ) (given : List (List ℕ)) → Stands s fed given → s.ended ≡ false
    → (frames : List (List ℕ)) → frames_of s.left ≡ frames → next_frame frames ≡ next_answer fed given
answer_unended s fed given stands unended frames is =
    let none_bad : has_bad given ≡ false = sym stands.ended ∙ unended in
    let all : frames_of fed ≡ given ++ frames = frames_fed s fed given stands ∙ rw (unended, is) refl in
    rw (none_bad, all, drop-append_seam given frames) refl

one_bad : (bad : Bool) → (false || (bad || false)) ≡ bad
one_bad true = refl
one_bad false = refl

-- a piece comes behind the bytes that are left
pub stands_behind : (s : Stream) (piece fed : List ℕ) (given : List (List ℕ)) → Stands s fed given → Stands (with_piece s piece) (fed ++ piece) given
stands_behind s piece fed given stands = record {
  ended = stands.ended;
  frames = λ later.
      ap frames_of (append_assoc fed piece later) ∙ stands.frames (piece ++ later)
      ∙ ap (λ (left : List ℕ). given ++ cond s.ended [] (frames_of left)) (sym (append_assoc s.left piece later));
}

abbrev stream_of : List ℕ → Bool → Stream
stream_of left ended = record { left = left; ended = ended }

-- what a framer that goes on keeps once a piece was fed
pub fed_behind : (read : ℕ) (items piece : List ℕ) (ended : Bool) (s : Stream) → read ≤ length items → s.ended ≡ false → stream_of (drop read items) ended ≡ s
    → stream_of (drop read (items ++ piece)) ended ≡ fed_with s piece
fed_behind read items piece ended s within goes_on is =
    let unended : ended ≡ false = ap (λ (s : Stream). s.ended) is ∙ goes_on in
    rw (goes_on, sym is, drop-append-le read items piece within, unended) refl

pub fed_on : (s : Stream) (piece : List ℕ) → s.ended ≡ false → fed_with s piece ≡ with_piece s piece
fed_on s piece goes_on = ap (λ (ended : Bool). cond ended s (with_piece s piece)) goes_on

-- what is left of a stream that ended says nothing
any_left : (ended : Bool) (left piece fed : List ℕ) (given : List (List ℕ)) → Stands (with_piece (stream_of left ended) piece) fed given → Stands (fed_with (stream_of left ended) piece) fed given
any_left true left piece fed given stands = record { ended = stands.ended; frames = stands.frames }
any_left false left piece fed given stands = stands

-- a framer to which a piece was fed stands for what it stood for with the piece
pub stands_fed : (s : Stream) (piece : List ℕ) (new : Stream) → new ≡ fed_with s piece → (fed : List ℕ) (given : List (List ℕ)) → Stands (with_piece s piece) fed given → Stands (with_piece new []) fed given
stands_fed s piece new is fed given stands = rw (append-nil new.left, is) (any_left s.ended s.left piece fed given stands)

longest : (s : Stream) (piece : List ℕ) (ended : Bool) → length (cond ended s (with_piece s piece)).left ≤ length (s.left ++ piece)
longest s piece true = let long = length-append s.left piece in omega arith
longest s piece false = omega arith

-- what a framer answers once a piece was fed it would answer of the piece
pub gives_fed : (s : Stream) (piece : List ℕ) (next : Next) (new : Stream) → GivesNext (fed_with s piece) next new → GivesNext (with_piece s piece) next (with_piece new [])
gives_fed s piece next new gives =
    let nothing = append-nil new.left in
    record {
      answer = λ fed given stands. gives.answer fed given (any_left s.ended s.left piece fed given stands);
      stands = λ fed given stands. rw nothing (gives.stands fed given (any_left s.ended s.left piece fed given stands));
      shorter = omega (arith, gives.shorter, ap length nothing, longest s piece s.ended);
    }

-- one more frame is given
stands_given : (s : Stream) (left : List ℕ) (bad : Bool) (fed : List ℕ) (given : List (List ℕ)) (frame : List ℕ) → s.ended ≡ false → bad ≡ is_bad frame
    → ((later : List ℕ) → frames_of (s.left ++ later) ≡ frame ∷ cond (is_bad frame) [] (frames_of (left ++ later)))
    → Stands s fed given → Stands (record { left = left; ended = bad }) fed (given ++ frame ∷ [])
stands_given s left bad fed given frame unended is first stands =
    let none_bad : has_bad given ≡ false = sym stands.ended ∙ unended in
    record {
      ended = sym (list_any-append is_bad given (frame ∷ []) ∙ rw (none_bad, sym is) (one_bad bad));
      frames = λ later.
          stands.frames later ∙ rw (unended, first later, sym is) (sym (append_assoc given (frame ∷ []) (cond bad [] (frames_of (left ++ later)))));
    }

-- the frame that begins the bytes left comes next
pub answer_given : (s : Stream) (fed : List ℕ) (given : List (List ℕ)) → Stands s fed given → s.ended ≡ false
    → (frame : List ℕ) (others : List (List ℕ)) → frames_of (s.left ++ []) ≡ frame ∷ others → Frame frame ≡ next_answer fed given
answer_given s fed given stands unended frame others is =
    answer_unended s fed given stands unended (frame ∷ others) (ap frames_of (sym (append-nil s.left)) ∙ is)

-- the first frame of the bytes left is given
pub gives_frame : (s : Stream) (left : List ℕ) (bad : Bool) (frame : List ℕ) → s.ended ≡ false → bad ≡ is_bad frame
    → ((later : List ℕ) → frames_of (s.left ++ later) ≡ frame ∷ cond (is_bad frame) [] (frames_of (left ++ later)))
    → length left + 8 ≤ length s.left → GivesNext s (Frame frame) (record { left = left; ended = bad })
gives_frame s left bad frame unended is first shorter = record {
  answer = λ fed given stands. answer_given s fed given stands unended frame _ (first []);
  stands = λ fed given stands. stands_given s left bad fed given frame unended is first stands;
  shorter = omega (arith, shorter);
}

-- no frame is whole
pub gives_none : (s : Stream) → s.ended ≡ false → frames_of s.left ≡ [] → GivesNext s NeedMore s
gives_none s unended none = record {
  answer = λ fed given stands. answer_unended s fed given stands unended [] none;
  stands = λ fed given stands. rw (append-nil given) stands;
  shorter = omega arith;
}

-- what always holds holds at an error
pub on_err : {T E P : Type 0} (r : Result T E) → P → OnErr r P
on_err (Ok t) p = tt
on_err (Err e) p = p
