-- Cutting a stream of bytes into frames, whatever the pieces in which the bytes come. Sections are those of OpenFlow 1.0.0; what names none is this proxy's own rule.
use Rattle.std.specs.Prelude.{◌≡◌, ◌+◌, ◌*◌, ◌≤◌, ℕ, zero, suc, nat_lt, Bool, if◌then◌else◌, List, [], ◌∷◌, ◌++◌, length, take, drop}
use Rattle.std.specs.List.{list_any}
use Rattle.of10_ctl.specs.declared.framer.Next.{Next}
use Rattle.of10_ctl.specs.declared.framer.Next.TheVariants.{Frame, NeedMore, Ended}
use Rattle.of10_ctl.specs.Heads.{length_field}
use Rattle.of10_ctl.specs.Frames.{is_bad}

-- the frames of a stream, at most as many as the count: each has the bytes that its length field says (section 5.1), and one of a bad length, its header alone, is the last
unfoldable pub frames_at : ℕ → List ℕ → List (List ℕ)
frames_at zero bytes = []
frames_at (suc n) bytes =
    if nat_lt (length bytes) 8 then []
    else if is_bad bytes then take 8 bytes ∷ []
    else if nat_lt (length bytes) (length_field bytes) then []
    else take (length_field bytes) bytes ∷ frames_at n (drop (length_field bytes) bytes)

-- all frames of a stream (section 5.1): there are no more of them than bytes, since none is empty
unfoldable pub frames_of : List ℕ → List (List ℕ)
frames_of bytes = frames_at (length bytes) bytes

-- whether one of the frames has a bad length (section 5.1)
abbrev pub has_bad : List (List ℕ) → Bool
has_bad frames = list_any is_bad frames

-- the frames given are the first of all frames
abbrev pub AreFirst : List (List ℕ) → List (List ℕ) → Type 0
AreFirst given frames = (others : List (List ℕ)) × (given ++ others ≡ frames)

-- the first of the frames that were not given, or that more bytes are needed
abbrev pub next_frame : List (List ℕ) → Next
next_frame [] = NeedMore
next_frame (frame ∷ others) = Frame frame

-- what comes next, by all bytes fed and the frames given so far: the frame behind those, unless one of them has a bad length
abbrev pub next_answer : List ℕ → List (List ℕ) → Next
next_answer fed given = if has_bad given then Ended else next_frame (drop (length given) (frames_of fed))

-- the frame that an answer gives, if it gives one
abbrev pub frame_in : Next → List (List ℕ)
frame_in (Frame frame) = frame ∷ []
frame_in NeedMore = []
frame_in Ended = []

-- what a framer keeps: the bytes not yet given, and whether it gave a frame of a bad length
pub record Stream : Type 0 where
  pub left : List ℕ
  pub ended : Bool

-- a framer stands for all bytes fed and the frames given: whatever is fed later, the frames of all are those given and then those of the bytes left
pub record Stands (stream : Stream) (fed : List ℕ) (given : List (List ℕ)) : Type 0 where
  pub ended : stream.ended ≡ has_bad given
  pub frames : (later : List ℕ) → frames_of (fed ++ later) ≡ given ++ (if stream.ended then [] else frames_of (stream.left ++ later))

-- what a framer answers of the frames that it hasn't given, and that it has given this one too; a frame takes at least eight of the bytes left
pub record GivesNext (old : Stream) (next : Next) (new : Stream) : Type 0 where
  pub answer : (fed : List ℕ) (given : List (List ℕ)) → Stands old fed given → next ≡ next_answer fed given
  pub stands : (fed : List ℕ) (given : List (List ℕ)) → Stands old fed given → Stands new fed (given ++ frame_in next)
  pub shorter : length new.left + 8 * length (frame_in next) ≤ length old.left

-- a frame is there that wasn't given
abbrev pub HasNext : Stream → Type 0
HasNext stream = (fed : List ℕ) (given : List (List ℕ)) → Stands stream fed given → (frame : List ℕ) × (frame_in (next_answer fed given) ≡ frame ∷ [])

-- a stream of which a piece came that isn't fed yet
abbrev pub with_piece : Stream → List ℕ → Stream
with_piece stream piece = record stream { left = stream.left ++ piece }

-- a stream to which a piece was fed: what comes after a frame of a bad length is of no use
abbrev pub fed_with : Stream → List ℕ → Stream
fed_with stream piece = if stream.ended then stream else with_piece stream piece
